-- Messages of which some were left out.
use Rattle.std.specs.Prelude.{◌≡◌, ◌⊎◌, List, [], ◌∷◌}
use Rattle.strm_msg.specs.Message.{Msg}

-- whether the first are a subsequence of the others: these, but for some that were left out
abbrev pub IsSubsequence : List Msg → List Msg → Type 0
IsSubsequence part [] = part ≡ []
IsSubsequence part (m ∷ rest) =
    IsSubsequence part rest ⊎ ((others : List Msg) × (part ≡ m ∷ others) × IsSubsequence others rest)
