-- The next piece of a text.
use Rattle.std.proofs.Common.{◌≡◌, ℕ, nat_eq, Bool, true, false, cond, ltb, List, [], ◌∷◌, length, Some, None, refl, sym, ap, ◌∙◌, arith}
use Rattle.std.specs.List.{after_first, before_first, position_or_len, slice_split}
use Rattle.std.proofs.lemmas.Bool.{ltb-true, ltb-false}
use Rattle.std.proofs.lemmas.List.Elements.{All-from_get_or}
use Rattle.std.proofs.lemmas.List.Splits.{slice_split_first, slice_split_none}
use Rattle.std.proofs.lemmas.List.Sums.{fails_before_first}
use Rattle.strm_script_text.specs.Text.{halves_of}

module _ (end : ℕ) where
  abbrev ends : ℕ → Bool
  ends byte = nat_eq byte end

  abbrev halves : List ℕ → List ℕ × List ℕ
  halves text = (before_first ends text, after_first ends text)

  found_under : {A : Type 0} (b : Bool) (x y : A) → Some x ≡ cond b (Some y) None → (b ≡ true) × (x ≡ y)
  found_under true x y is = (refl, cc)
  found_under false x y is = absurd cc

  none_under : {A : Type 0} (b : Bool) (y : A) → None ≡ cond b (Some y) None → b ≡ false
  none_under true y is = absurd cc
  none_under false y is = refl

  -- the first piece, and those behind it
  pub piece_cut : (text piece rest : List ℕ) → Some (piece, rest) ≡ halves_of end text → slice_split ends text ≡ piece ∷ slice_split ends rest
  piece_cut text piece rest cut =
      let there = found_under (ltb (position_or_len ends text) (length text)) (piece, rest) (halves text) cut in
      slice_split_first ends text 0 (ltb-true _ _ there.0) ∙ ap (λ (both : List ℕ × List ℕ). both.0 ∷ slice_split ends both.1) (sym there.1)

  -- the last piece
  pub piece_left : (text : List ℕ) → None ≡ halves_of end text → slice_split ends text ≡ text ∷ []
  piece_left text uncut =
      let past = ltb-false _ _ (none_under (ltb (position_or_len ends text) (length text)) (halves text) uncut) in
      slice_split_none ends text (All-from_get_or (λ byte. ends byte ≡ false) text 0 (λ i under. fails_before_first ends text i 0 (omega (arith, past))))
