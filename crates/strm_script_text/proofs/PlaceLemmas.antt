-- The first place of the byte that ends a line, as a search finds it.
use Rattle.std.proofs.Common.{◌≡◌, ℕ, ◌<◌, Bool, true, false, cond, ltb, List, length, Option, Some, None, IfSome, refl, sym, subst, ap, ◌∙◌, arith}
use Rattle.std.specs.List.{position_or_len}
use Rattle.std.proofs.lemmas.Bool.{ltb-true, lt-ltb}
use Rattle.std.proofs.lemmas.List.Sums.{position_or_len_is}
use Rattle.strm_script_text.specs.Text.{place_of}
use Rattle.strm_script_text.proofs.LineLemmas.{found_under}
use Rattle.memchr.specs.Find.{IsFirstByte, is_byte}

-- what is not true is false
fails : (b : Bool) → (b ≡ true → ⊥) → b ≡ false
fails true never = absurd (never refl)
fails false never = refl

-- the first place that a search finds is the first of all
pub first_place : (text : List ℕ) (found : Option ℕ) → IsFirstByte (is_byte 10) text found → found ≡ place_of 10 text
first_place text (Some at) is =
    let same : position_or_len (is_byte 10) text ≡ at = position_or_len_is (is_byte 10) text at 0 (omega (arith, is.0.high)) (λ k before. fails _ (is.0.before k (omega arith) before)) (λ inside. is.1) in
    let inside : ltb (position_or_len (is_byte 10) text) (length text) ≡ true = lt-ltb _ _ (omega (arith, is.0.high)) in
    ap Some (sym same) ∙ ap (λ b. cond b (Some (position_or_len (is_byte 10) text)) None) (sym inside)
first_place text None is =
    let same : position_or_len (is_byte 10) text ≡ length text = position_or_len_is (is_byte 10) text (length text) 0 (omega arith) (λ k before. fails _ (is k (omega arith) before)) (λ inside. absurd (omega (arith, inside))) in
    let outside : ltb (position_or_len (is_byte 10) text) (length text) ≡ false = fails _ (λ inside. absurd (omega (arith, ltb-true _ _ inside))) in
    ap (λ b. cond b (Some (position_or_len (is_byte 10) text)) None) (sym outside)

-- and it is a place of the text
pub first_inside : (text : List ℕ) (found : Option ℕ) → found ≡ place_of 10 text → IfSome found (λ at. at < length text)
first_inside text None is = tt
first_inside text (Some at) is =
    let under = found_under (ltb (position_or_len (is_byte 10) text) (length text)) at (position_or_len (is_byte 10) text) is in
    subst (λ n. n < length text) (sym under.1) (ltb-true _ _ under.0)
