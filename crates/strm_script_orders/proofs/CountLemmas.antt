-- What the code of a tally counts.
use Rattle.std.proofs.Common.{◌≡◌, ℕ, zero, suc, ◌+◌, ◌-◌, ◌<◌, ◌≤◌, ◌&&◌, ◌||◌, not, nat_lt, Bool, true, false, cond, Option, Some, None, List, [], ◌∷◌, ◌++◌, All, Vec, length, map, take, drop, get_or, refl, sym, ap, ◌∙◌, arith}
use Rattle.std.specs.Global.{Global}
use Rattle.std.specs.Option.{option_or}
use Rattle.std.specs.Str.{bytes_eq}
use Rattle.std.specs.Int.{from_bool}
use Rattle.std.proofs.lemmas.List.{get_or-append_right, get_or-drop, length-map, length-take-le, map_more}
use Rattle.std.proofs.lemmas.List.Elements.{All-append, All-map}
use Rattle.std.proofs.lemmas.List.Folds.{list_any-append}
use Rattle.strm_script_orders.specs.declared.tally.TheConstants.{MOST_KEPT}
use Rattle.strm_script_orders.specs.Parts.{IsWithin, label_in, tally_in}
use Rattle.strm_script_orders.specs.Tally.{Run, GivenValue, TallyValue, is_among, missed_label, texts_of, with_other, with_play, with_run, with_text}

-- ---- a loop over the transcripts that are kept

-- a transcript that the loop has not come to is as it was
pub not_yet : (f : GivenValue → GivenValue) (before now : List GivenValue) (i : ℕ) (given : GivenValue) → i < length before → now ≡ map f (take i before) ++ drop i before → given ≡ get_or now i given → given ≡ get_or before i given
not_yet f before now i given within so_far is =
    let front : length (map f (take i before)) ≡ i = length-map (take i before) f ∙ length-take-le i before (omega (arith, within)) in
    let behind : i + (i - i) ≡ i = omega arith in
    is ∙ ap (λ (l : List GivenValue). get_or l i given) so_far
    ∙ get_or-append_right (map f (take i before)) (drop i before) i i given front (omega arith)
    ∙ get_or-drop i before (i - i) given
    ∙ ap (λ (n : ℕ). get_or before n given) behind

or_false : (a : Bool) → (a || false) ≡ a
or_false true = refl
or_false false = refl

-- whether a text was found, one transcript on
pub found_more : (text : List ℕ) (all : List GivenValue) (i : ℕ) (given : GivenValue) (found same : Bool) → i < length all → found ≡ is_among (texts_of (take i all)) text → same ≡ bytes_eq text given.text → given ≡ get_or all i given → (found || same) ≡ is_among (texts_of (take (i + 1) all)) text
found_more text all i given found same within so_far now is =
    ap (λ (b : Bool). b || same) so_far
    ∙ ap (λ (b : Bool). is_among (texts_of (take i all)) text || b) (now ∙ ap (λ (g : GivenValue). bytes_eq text g.text) is ∙ sym (or_false (bytes_eq text (get_or all i given).text)))
    ∙ sym (list_any-append (bytes_eq text) (texts_of (take i all)) ((get_or all i given).text ∷ []))
    ∙ ap (λ (texts : List (List ℕ)). is_among texts text) (sym (map_more (λ (g : GivenValue). g.text) all i given within))

-- ---- the parts of a tally

abbrev tally : ℕ → List GivenValue → ℕ → ℕ → Option (List ℕ) → TallyValue
tally orders kept others unmet first = record { orders = orders; kept = kept; others = others; unmet = unmet; first_unmet = first }

-- the label of a vector that is there
in_bytes : (one other : Option (Vec ℕ Global)) → label_in (option_or one other) ≡ option_or (label_in one) (label_in other)
in_bytes None other = refl
in_bytes (Some label) other = refl

-- the parts of a tally with one run more
pub run_added : (orders : ℕ) (before after : List GivenValue) (others others' unmet unmet' : ℕ) (first missed : Option (Vec ℕ Global)) (one : Run) → after ≡ with_text before one.label one.text → others' ≡ with_other before others one.text → unmet' ≡ unmet + cond one.is_unmet 1 0 → label_in missed ≡ missed_label one.label one.is_unmet → tally_in (orders + 1) after others' unmet' (option_or first missed) ≡ with_run (tally_in orders before others unmet first) one
run_added orders before after others others' unmet unmet' first missed one after_is others_is unmet_is missed_is =
    ap (λ (k : List GivenValue). tally (orders + 1) k others' unmet' (label_in (option_or first missed))) after_is
    ∙ ap (λ (n : ℕ). tally (orders + 1) (with_text before one.label one.text) n unmet' (label_in (option_or first missed))) others_is
    ∙ ap (λ (n : ℕ). tally (orders + 1) (with_text before one.label one.text) (with_other before others one.text) n (label_in (option_or first missed))) unmet_is
    ∙ ap (λ (f : Option (List ℕ)). tally (orders + 1) (with_text before one.label one.text) (with_other before others one.text) (unmet + cond one.is_unmet 1 0) f) (in_bytes first missed ∙ ap (option_or (label_in first)) missed_is)

pub as_number : (b : Bool) → from_bool b ≡ cond b 1 0
as_number true = refl
as_number false = refl

one_at_most : (b : Bool) (n most : ℕ) → n ≤ most → n + cond b 1 0 ≤ most + 1
one_at_most true n most within = omega (arith, within)
one_at_most false n most within = omega (arith, within)

-- each count is still at most the number of orders
pub within_more : (orders : ℕ) (kept : List GivenValue) (others unmet : ℕ) (one : Run) → IsWithin orders kept others unmet → IsWithin (orders + 1) (with_text kept one.label one.text) (with_other kept others one.text) (unmet + cond one.is_unmet 1 0)
within_more orders kept others unmet one was = record {
  plays = All-append (λ given. given.plays ≤ orders + 1) (map (with_play one.text) kept) (cond news (first ∷ []) [])
      (All-map (λ given. given.plays ≤ orders + 1) (with_play one.text) kept (λ k d under. one_at_most (bytes_eq one.text (get_or kept k d).text) (get_or kept k d).plays orders (was.plays k d under)))
      (first_within news);
  others_within = one_at_most (not (is_among (texts_of kept) one.text) && not (nat_lt (length kept) MOST_KEPT)) others orders was.others_within;
  unmet_within = one_at_most one.is_unmet unmet orders was.unmet_within;
}
  where
    news : Bool
    news = not (is_among (texts_of kept) one.text) && nat_lt (length kept) MOST_KEPT

    first : GivenValue
    first = record { label = one.label; text = one.text; plays = 1 }

    first_within : (b : Bool) → All (λ given. given.plays ≤ orders + 1) (cond b (first ∷ []) [])
    first_within true zero d under = omega arith
    first_within true (suc k) d under = absurd (omega (arith, under))
    first_within false k d under = absurd (omega (arith, under))
