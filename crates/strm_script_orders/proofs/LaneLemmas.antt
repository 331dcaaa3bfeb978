-- Steps of those that go, and how they are spelt.
use Rattle.std.proofs.Common.{◌≡◌, ℕ, zero, suc, ◌+◌, ◌-◌, ◌<◌, sum_by, List, [], ◌∷◌, ◌++◌, length, map, drop, get_or, slice_get, slice_set, Option, Some, codes, refl, sym, ap, ◌∙◌, append_assoc, arith}
use Rattle.std.specs.Option.{option_map_or}
use Rattle.std.proofs.lemmas.List.{drop_more}
use Rattle.std.proofs.lemmas.List.Sums.{sum_by-cons}
use Rattle.strm_script_orders.specs.declared.listed.Choice.{Choice}
use Rattle.strm_script_orders.specs.Lanes.{LaneValue, HasLeft, as_before, at_start, goers, left_of, listed, steps_left, stepped, with_step, word_at, words_of}

-- the one of a number is written back with its step
pub step_written : (number : ℕ) (lanes : List LaneValue) (d : LaneValue) → number < length lanes → slice_set lanes number (with_step (get_or lanes number d)) ≡ stepped number lanes
step_written number [] d within = absurd (omega (arith, within))
step_written zero (lane ∷ rest) d within = refl
step_written (suc number) (lane ∷ rest) d within = ap (λ (l : List LaneValue). lane ∷ l) (step_written number rest d (omega (arith, within)))

-- a step changes nothing but the steps taken
pub same_start : (number : ℕ) (lanes : List LaneValue) → at_start (stepped number lanes) ≡ at_start lanes
same_start number [] = refl
same_start zero (lane ∷ rest) = refl
same_start (suc number) (lane ∷ rest) = ap (λ (l : List LaneValue). as_before lane ∷ l) (same_start number rest)

pub started_twice : (lanes : List LaneValue) → at_start (at_start lanes) ≡ at_start lanes
started_twice [] = refl
started_twice (lane ∷ rest) = ap (λ (l : List LaneValue). as_before lane ∷ l) (started_twice rest)

-- so the word stays
same_word : (number other : ℕ) (lanes : List LaneValue) → word_at (stepped number lanes) other ≡ word_at lanes other
same_word number other [] = refl
same_word zero zero (lane ∷ rest) = refl
same_word zero (suc other) (lane ∷ rest) = refl
same_word (suc number) zero (lane ∷ rest) = refl
same_word (suc number) (suc other) (lane ∷ rest) = same_word number other rest

abbrev ones : List Choice → List ℕ
ones choices = map (λ choice. choice.one) choices

-- one step more is spelt
pub spelt_more : (lanes after : List LaneValue) (choices : List Choice) (i number : ℕ) (d : Choice) (text before longer longest total : List ℕ) → i < length choices → Some number ≡ slice_get (goers lanes) (get_or choices i d).one → after ≡ stepped number lanes → longer ≡ text ++ before → longest ≡ longer ++ word_at after number → text ++ listed before (words_of lanes (ones (drop i choices))) ≡ total → longest ++ listed (codes ",") (words_of after (ones (drop (i + 1) choices))) ≡ total
spelt_more lanes after choices i number d text before longer longest total within found step one other so_far =
    ap (λ (l : List ℕ). l ++ listed (codes ",") (words_of after rest)) (other ∙ ap (λ (l : List ℕ). l ++ word_at after number) one)
    ∙ ap (λ (l : List LaneValue). ((text ++ before) ++ word_at l number) ++ listed (codes ",") (words_of l rest)) step
    ∙ ap (λ (w : List ℕ). ((text ++ before) ++ w) ++ listed (codes ",") (words_of (stepped number lanes) rest)) (same_word number number lanes)
    ∙ apart text before (word_at lanes number) (listed (codes ",") (words_of (stepped number lanes) rest))
    ∙ ap (λ (words : List (List ℕ)). text ++ listed before words) (sym next)
    ∙ so_far
  where
    rest : List ℕ
    rest = ones (drop (i + 1) choices)

    apart : (a b c e : List ℕ) → ((a ++ b) ++ c) ++ e ≡ a ++ ((b ++ c) ++ e)
    apart a b c e = simp append_assoc

    next : words_of lanes (ones (drop i choices)) ≡ word_at lanes number ∷ words_of (stepped number lanes) rest
    next = ap (λ (l : List Choice). words_of lanes (ones l)) (drop_more choices i d within) ∙ ap (λ (o : Option ℕ). option_map_or (λ n. word_at lanes n ∷ words_of (stepped n lanes) rest) o []) (sym found)

-- one step fewer is left
pub step_fewer : (number : ℕ) (lanes : List LaneValue) → HasLeft lanes number → steps_left (stepped number lanes) + 1 ≡ steps_left lanes
unfolding steps_left
step_fewer number lanes has = by number lanes has.within has.left
  where
    one_fewer : (taken steps : ℕ) → taken < steps → steps - (taken + 1) + 1 ≡ steps - taken
    one_fewer taken steps below = omega (arith, below)

    by : (number : ℕ) (lanes : List LaneValue) → number < length lanes → ((d : LaneValue) → (get_or lanes number d).taken < (get_or lanes number d).steps) → sum_by left_of (stepped number lanes) + 1 ≡ sum_by left_of lanes
    by number [] within left = absurd (omega (arith, within))
    by zero (lane ∷ rest) within left =
        omega (arith, sum_by-cons left_of (with_step lane) rest, sum_by-cons left_of lane rest, one_fewer lane.taken lane.steps (left lane))
    by (suc number) (lane ∷ rest) within left =
        omega (arith, sum_by-cons left_of lane (stepped number rest), sum_by-cons left_of lane rest, by number rest (omega (arith, within)) left)
