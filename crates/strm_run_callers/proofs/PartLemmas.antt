-- Parts of a list of messages, one message on.
use Rattle.std.proofs.Common.{List, [], ◌∷◌, ◌++◌, refl, ap, inl, inr}
use Rattle.strm_msg.specs.Message.{Msg}
use Rattle.strm_link.specs.Subsequence.{IsSubsequence}

pub nothing_part : IsSubsequence [] []
nothing_part = refl

-- one more that is left out
pub part_less : (part all : List Msg) (m : Msg) → IsSubsequence part all → IsSubsequence part (all ++ m ∷ [])
part_less part [] m is = inl is
part_less part (first ∷ rest) m (inl left_out) = inl (part_less part rest m left_out)
part_less part (first ∷ rest) m (inr taken) = inr (taken.0, taken.1, part_less taken.0 rest m taken.2)

-- one more that is there
pub part_more : (part all : List Msg) (m : Msg) → IsSubsequence part all → IsSubsequence (part ++ m ∷ []) (all ++ m ∷ [])
part_more part [] m is = inr ([], ap (λ (l : List Msg). l ++ m ∷ []) is, refl)
part_more part (first ∷ rest) m (inl left_out) = inl (part_more part rest m left_out)
part_more part (first ∷ rest) m (inr taken) =
    inr (taken.0 ++ m ∷ [], ap (λ (l : List Msg). l ++ m ∷ []) taken.1, part_more taken.0 rest m taken.2)
