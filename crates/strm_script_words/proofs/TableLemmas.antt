-- Where a byte stands that a table maps.
use Rattle.std.proofs.Common.{◌≡◌, ℕ, suc, ◌+◌, ◌<◌, ◌≤◌, ◌++◌, Bool, true, false, cond, not, ltb, List, [], ◌∷◌, length, map, take, set, Option, Some, None, refl, sym, ap, ◌∙◌, arith}
use Rattle.std.specs.Option.{unwrap_or}
use Rattle.std.specs.List.{position_or_len, range_with_len}
use Rattle.std.proofs.lemmas.Bool.{ltb-false}
use Rattle.std.proofs.lemmas.List.{take_all}
use Rattle.std.proofs.lemmas.List.FromFn.{map-range_with_len_more}
use Rattle.std.proofs.Math.Seq.{take-suc-set}
use native.Mathlib.Numerals.{unary_clauses}
use Rattle.strm_script_words.specs.Push.{image_of, table_of}

step_within : (b : Bool) (at len : ℕ) → at ≤ len → cond (not b) (1 + at) 0 ≤ suc len
step_within true at len within = omega arith
step_within false at len within = omega arith

-- the first place is one of the list's, or its end
within : (p : ℕ → Bool) (bytes : List ℕ) → position_or_len p bytes ≤ length bytes
within p [] = omega arith
within p (byte ∷ bytes) = step_within (p byte) (position_or_len p bytes) (length bytes) (within p bytes)

end_by : (b : Bool) (at len : ℕ) → ltb at len ≡ b → at ≤ len → unwrap_or (cond b (Some at) None) len ≡ at
end_by true at len is below = refl
end_by false at len is below = let past = ltb-false _ _ is in omega (arith, past)

-- the place that was found, or the end
pub place_or_end : (p : ℕ → Bool) (bytes : List ℕ) (place : Option ℕ) → place ≡ cond (ltb (position_or_len p bytes) (length bytes)) (Some (position_or_len p bytes)) None → unwrap_or place (length bytes) ≡ position_or_len p bytes
place_or_end p bytes place is =
    ap (λ (o : Option ℕ). unwrap_or o (length bytes)) is ∙ end_by (ltb (position_or_len p bytes) (length bytes)) (position_or_len p bytes) (length bytes) refl (within p bytes)

-- one byte more has its image
pub one_more : (image : ℕ → ℕ) (table : List ℕ) (at byte : ℕ) → at < length table → byte ≡ image at → take at table ≡ map image (range_with_len 0 at) → take (at + 1) (set table at byte) ≡ map image (range_with_len 0 (at + 1))
one_more image table at byte inside is so_far =
    let first : take (at + 1) (set table at byte) ≡ take at table ++ byte ∷ [] = simp unary_clauses (take-suc-set table at byte inside) in
    first ∙ ap (λ (front : List ℕ). front ++ byte ∷ []) so_far ∙ ap (λ (b : ℕ). map image (range_with_len 0 at) ++ b ∷ []) is ∙ sym (map-range_with_len_more image 0 at at (omega arith))

-- all bytes have
pub all_done : (from to table : List ℕ) (at : ℕ) → length table ≡ 256 → 256 ≤ at → at ≤ 256 → take at table ≡ map (image_of from to) (range_with_len 0 at) → table ≡ table_of from to
unfolding table_of
all_done from to table at many past within so_far =
    let is : at ≡ 256 = omega (arith, past, within) in
    sym (take_all at table (omega (arith, many, past))) ∙ so_far ∙ ap (λ (n : ℕ). map (image_of from to) (range_with_len 0 n)) is
