-- The lines of a text behind some number of them.
use Rattle.std.proofs.Common.{◌≡◌, ℕ, suc, zero, ◌+◌, ◌≤◌, List, [], ◌∷◌, length, drop, Some, None, slice_get, true, ◌==◌, refl, sym, ap, ◌∙◌, arith}
use Rattle.std.specs.Str.Lines.{lines}
use Rattle.std.proofs.Math.Seq.{drop-nil}
use Rattle.std.proofs.lemmas.Bool.{eqb-true}
use Rattle.std.proofs.lemmas.List.{drop-drop, length-drop}
use Rattle.std.proofs.lemmas.Option.{slice_get_past}

-- the first behind `n` is the one of that number
pub first_behind : {X : Type 0} (xs : List X) (n : ℕ) (x : X) (others : List X) → drop n xs ≡ x ∷ others → slice_get xs n ≡ Some x
first_behind [] n x others is = let none : [] ≡ x ∷ others = sym (drop-nil n) ∙ is in absurd cc
first_behind (y ∷ xs) zero x others is = cc
first_behind (y ∷ xs) (suc n) x others is = first_behind xs n x others is

-- and the others are behind one more
pub others_behind : {X : Type 0} (xs : List X) (n : ℕ) (x : X) (others : List X) → drop n xs ≡ x ∷ others → others ≡ drop (n + 1) xs
others_behind xs n x others is = sym (ap (drop 1) is) ∙ drop-drop 1 n xs

-- where nothing is behind `n`, nothing has this number or a greater one
pub none_behind : {X : Type 0} (xs : List X) (n number : ℕ) → n ≤ number → drop n xs ≡ [] → slice_get xs number ≡ None
none_behind xs n number few is = slice_get_past xs number (omega (arith, length-drop n xs, ap length is, few))

-- a text of no bytes has no lines
pub no_lines : (text : List ℕ) → (length text == 0) ≡ true → lines text ≡ []
no_lines [] is = refl
no_lines (byte ∷ text) is = absurd (omega (arith, eqb-true (length (byte ∷ text)) 0 is))
