-- Receipts that are held, one by one.
use Rattle.std.proofs.Common.{◌≡◌, ℕ, suc, ◌<◌, Some, List, [], ◌∷◌, ◌++◌, length, get_or, sym, ◌∙◌, ap, subst, below_more}
use Rattle.std.proofs.Math.Seq.{get_or-append_seam}
use Rattle.std.proofs.lemmas.List.{get_or_append_left, length_push}
use Rattle.strm_shared_entry.specs.Entry.{Entry}
use Rattle.strm_shared_entry.specs.Own.{entry_at}
use Rattle.strm_shared_ended.specs.Ended.{AreFirstCalls}

module _ {K : Type 0} (history : List (Entry K)) (caller : ℕ) where
  -- one call more
  pub first_more : (so_far : List (Entry K)) (one : Entry K) → AreFirstCalls history caller so_far → entry_at caller (suc (length so_far)) history ≡ Some one → AreFirstCalls history caller (so_far ++ one ∷ [])
  first_more so_far one before here = λ k d below.
      below_more (λ (n : ℕ). entry_at caller (suc n) history ≡ Some (get_or (so_far ++ one ∷ []) n d)) (length so_far)
      (λ n lower. before n d lower ∙ ap (λ x. Some x) (sym (get_or_append_left so_far (one ∷ []) d n lower)))
      (here ∙ ap (λ x. Some x) (sym (get_or-append_seam so_far one [] d)))
      k (subst (λ n. k < n) (length_push so_far one) below)
