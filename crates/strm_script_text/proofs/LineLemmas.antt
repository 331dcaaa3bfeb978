-- The first line of a text, and a text that is cut at a byte.
use Rattle.std.proofs.Common.{◌≡◌, ℕ, ◌+◌, ◌-◌, ◌<◌, ◌≤◌, ◌==◌, Bool, true, false, cond, ltb, List, [], ◌∷◌, length, take, drop, Option, Some, None, refl, sym, ap, ◌∙◌, arith}
use Rattle.std.specs.List.{slice_split, position_or_len, before_first, after_first, All}
use Rattle.std.specs.Str.Lines.{lines, lines_of_parts, strip_carriage_return}
use Rattle.std.proofs.lemmas.Bool.{ltb-true, ltb-false}
use Rattle.std.proofs.lemmas.Bool.Decides.{nat_tests}
use Rattle.std.proofs.lemmas.List.{take_rest}
use Rattle.std.proofs.lemmas.List.Elements.{All-from_get_or}
use Rattle.std.proofs.lemmas.List.Sums.{fails_before_first}
use Rattle.std.proofs.lemmas.List.Splits.{slice_split_first, slice_split_none, length-slice_split}
use Rattle.strm_script_text.specs.Text.{halves_of}

-- the byte that ends a line
abbrev ends_line : ℕ → Bool
ends_line byte = byte == 10

-- a piece with others behind it is a line of its own
pub line_before : (piece : List ℕ) (pieces : List (List ℕ)) → 0 < length pieces → lines_of_parts (piece ∷ pieces) ≡ strip_carriage_return piece ∷ lines_of_parts pieces
line_before piece [] some = absurd (omega (arith, some))
line_before piece (next ∷ pieces) some = refl

-- a text with an LF is its first line, and the lines behind it
lines_at_end : (text : List ℕ) → position_or_len ends_line text < length text → lines text ≡ strip_carriage_return (before_first ends_line text) ∷ lines (after_first ends_line text)
lines_at_end text there =
    ap lines_of_parts (slice_split_first ends_line text 0 there)
    ∙ line_before (before_first ends_line text) (slice_split ends_line (after_first ends_line text)) (omega (arith, length-slice_split ends_line (after_first ends_line text)))

-- what was found under a condition
pub found_under : {A : Type 0} (b : Bool) (x y : A) → Some x ≡ cond b (Some y) None → (b ≡ true) × (x ≡ y)
found_under true x y is = (refl, cc)
found_under false x y is = absurd cc

-- nothing was found, so the condition does not hold
none_under : {A : Type 0} (b : Bool) (y : A) → None ≡ cond b (Some y) None → b ≡ false
none_under true y is = absurd cc
none_under false y is = refl

pub lines_after_cut : (text line rest : List ℕ) → Some (line, rest) ≡ halves_of 10 text → lines text ≡ strip_carriage_return line ∷ lines rest
lines_after_cut text line rest cut =
    let there = found_under (ltb (position_or_len ends_line text) (length text)) (line, rest) (before_first ends_line text, after_first ends_line text) cut in
    lines_at_end text (ltb-true _ _ there.0) ∙ ap (λ (halves : List ℕ × List ℕ). strip_carriage_return halves.0 ∷ lines halves.1) (sym there.1)

-- where the first place is no place, no byte passes
none_passes : (p : ℕ → Bool) (text : List ℕ) → length text ≤ position_or_len p text → All (λ byte. p byte ≡ false) text
none_passes p text past = All-from_get_or (λ byte. p byte ≡ false) text 0 (λ i under. fails_before_first p text i 0 (omega (arith, past)))

some_is_not_none : (n : ℕ) → 0 < n → (n == 0) ≡ false
some_is_not_none n some = grind (arith, nat_tests)

-- a text without an LF is one line
pub lines_of_one : (text : List ℕ) → 0 < length text → None ≡ halves_of 10 text → lines text ≡ text ∷ []
lines_of_one text some uncut =
    let nowhere = none_under (ltb (position_or_len ends_line text) (length text)) (before_first ends_line text, after_first ends_line text) uncut in
    ap lines_of_parts (slice_split_none ends_line text (none_passes ends_line text (ltb-false _ _ nowhere)))
    ∙ ap (λ (b : Bool). cond b [] (text ∷ [])) (some_is_not_none (length text) some)

-- no place was found, so nothing is cut
pub uncut_without_place : {A : Type 0} (b : Bool) (at : ℕ) (cut : A) (place : Option ℕ) → place ≡ cond b (Some at) None → place ≡ None → None ≡ cond b (Some cut) None
uncut_without_place true at cut place is none = absurd cc
uncut_without_place false at cut place is none = refl

abbrev cut_at : ℕ → List ℕ → List ℕ × List ℕ
cut_at at text = (take at text, drop (at + 1) text)

-- the two slices round a place
abbrev slices_at : ℕ → List ℕ → List ℕ × List ℕ
slices_at at text = (take at text, take (length text - (at + 1)) (drop (at + 1) text))

-- a place was found, and the slices round it are the halves
pub cut_at_place : (b : Bool) (at found : ℕ) (text : List ℕ) (place : Option ℕ) → place ≡ cond b (Some at) None → place ≡ Some found → Some (slices_at found text) ≡ cond b (Some (cut_at at text)) None
cut_at_place true at found text place is some =
    let same : found ≡ at = cc in
    ap (λ (n : ℕ). Some (slices_at n text)) same ∙ ap (λ (rest : List ℕ). Some (let halves : List ℕ × List ℕ = (take at text, rest) in halves)) (take_rest text (at + 1))
cut_at_place false at found text place is some = absurd cc
