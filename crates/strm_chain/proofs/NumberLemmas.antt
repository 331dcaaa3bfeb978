-- Each queue has a number of its own.
use Rattle.std.proofs.Common.{◌≡◌, ◌+◌, ◌-◌, ◌*◌, ◌/◌, ◌%◌, ◌<◌, ◌≤◌, ◌==◌, nat_lt, ℕ, cond, if◌then◌else◌, true, false, zero, suc, Option, Some, None, List, length, refl, sym, ◌∙◌, ap, arith}
use Rattle.std.proofs.lemmas.Bool.Decides.{nat_tests}
use Rattle.std.proofs.lemmas.Option.{slice_get_within}
use Rattle.strm_msg.specs.declared.words.End.{End}
use Rattle.strm_msg.specs.declared.words.End.TheVariants.{A, B}
use Rattle.strm_msg.specs.declared.words.Side.{Side}
use Rattle.strm_msg.specs.declared.words.Side.TheVariants.{Rd, Wr}
use Rattle.strm_chain_end.specs.Change.{found_programs, is_programs}
use Rattle.strm_chain_end.specs.End.{EndState, pair_at}
use Rattle.strm_chain_end.specs.Pair.{QueuePair}
use Rattle.strm_chain_ends.specs.declared.place.Place.{Place}
use Rattle.strm_chain_ends.specs.declared.place.Place.TheVariants as Places
use Rattle.strm_chain_ends.specs.declared.place.NextQueue.{NextQueue}
use Rattle.strm_chain_ends.specs.declared.place.NextQueue.TheVariants.{Of, Head}
use Rattle.strm_chain_ends.specs.Held.{module_place}
use Rattle.strm_chain_ends.specs.Next.{IsCounted}
use Rattle.strm_chain.specs.Number.{queue_number, place_number, end_by, place_of}

-- the parts of a number
place_from : (n i r : ℕ) (e : End) → n ≡ 4 * (i + 1) + r → r < 4 → end_by n ≡ e → place_of n ≡ (if nat_lt r 2 then Places.Wr e i else Places.Rd e i)
place_from n i r e is less by =
    let quarter : n / 4 ≡ i + 1 = omega arith in
    let rest : n % 4 ≡ r = omega arith in
    let one : i + 1 - 1 ≡ i = omega arith in
    let there : (i + 1 == 0) ≡ false = grind (arith, nat_tests) in
    rw (by, quarter, rest, there, one) refl

even : (n : ℕ) (b : ℕ) → n % 2 ≡ 0 → end_by n ≡ A
even n b h = rw h refl

odd : (n : ℕ) (b : ℕ) → n % 2 ≡ 1 → end_by n ≡ B
odd n b h = rw h refl

-- the place of a place's number
pub place_back : (p : Place) → place_of (place_number p) ≡ p
place_back (Place.Drv A) = refl
place_back (Place.Drv B) = refl
place_back (Place.Wr A i) = place_from (4 * i + 4) i 0 A (omega arith) (omega arith) (even (4 * i + 4) 0 (omega arith))
place_back (Place.Wr B i) = place_from (4 * i + 4 + 1) i 1 B (omega arith) (omega arith) (odd (4 * i + 4 + 1) 0 (omega arith))
place_back (Place.Rd A i) = place_from (4 * i + 6) i 2 A (omega arith) (omega arith) (even (4 * i + 6) 0 (omega arith))
place_back (Place.Rd B i) = place_from (4 * i + 6 + 1) i 3 B (omega arith) (omega arith) (odd (4 * i + 6 + 1) 0 (omega arith))

-- the queue of a number
abbrev queue_of : ℕ → NextQueue
queue_of n = if nat_lt n 2 then Head (end_by n) else Of (place_of n)

past_heads : (p : Place) → nat_lt (place_number p) 2 ≡ false
past_heads (Place.Drv A) = refl
past_heads (Place.Drv B) = refl
past_heads (Place.Wr A i) = grind (arith, nat_tests)
past_heads (Place.Wr B i) = grind (arith, nat_tests)
past_heads (Place.Rd A i) = grind (arith, nat_tests)
past_heads (Place.Rd B i) = grind (arith, nat_tests)

queue_back : (q : NextQueue) → queue_of (queue_number q) ≡ q
queue_back (Head A) = refl
queue_back (Head B) = refl
queue_back (Of p) = rw (past_heads p, place_back p) refl

-- two queues with one number are one
pub number_once : (q r : NextQueue) → queue_number q ≡ queue_number r → q ≡ r
number_once q r h = sym (queue_back q) ∙ ap queue_of h ∙ queue_back r

-- numbers are below 40
pub counted_few : (q : NextQueue) → IsCounted q → queue_number q < 40
counted_few (Head A) h = omega arith
counted_few (Head B) h = omega arith
counted_few (Of (Place.Drv A)) h = omega arith
counted_few (Of (Place.Drv B)) h = omega arith
counted_few (Of (Place.Wr A i)) h = omega arith
counted_few (Of (Place.Wr B i)) h = omega arith
counted_few (Of (Place.Rd A i)) h = omega arith
counted_few (Of (Place.Rd B i)) h = omega arith

-- so are those of places of numbers below 40
few_on : (e : End) (i r : ℕ) → i ≤ 8 → place_number (if nat_lt r 2 then Places.Wr e i else Places.Rd e i) < 40
few_on e i r h =
    elim (nat_lt r 2) as (λ b. place_number (cond b (Places.Wr e i) (Places.Rd e i)) < 40) [ true ↦ counted_few (Of (Places.Wr e i)) h | false ↦ counted_few (Of (Places.Rd e i)) h ]

pub place_few : (n : ℕ) → n < 40 → place_number (place_of n) < 40
place_few n h =
    elim (n / 4 == 0) as (λ b. place_number (cond b (Places.Drv (end_by n)) (if nat_lt (n % 4) 2 then Places.Wr (end_by n) (n / 4 - 1) else Places.Rd (end_by n) (n / 4 - 1))) < 40) [
      | true ↦ counted_few (Of (Places.Drv (end_by n))) tt
      | false ↦ few_on (end_by n) (n / 4 - 1) (n % 4) (omega arith)
    ]

-- ---- a queue of a module has one of the first forty numbers

found_few : {K : Type 0} (xs : List (QueuePair K)) (i : ℕ) (side : Side) (found : Option (QueuePair K)) → pair_at xs i ≡ found → found_programs found side ≡ true → i ≤ length xs
found_few xs i side None at is = absurd (let no : false ≡ true = is in cc)
found_few xs zero side (Some s) at is = omega arith
found_few xs (suc i) side (Some s) at is = let there = slice_get_within xs i s at in omega (arith, there)

few_counted : (at : End) (i : ℕ) (side : Side) → i ≤ 8 → queue_number (Of (module_place side at i)) < 40
few_counted A i Rd few = omega (arith, few)
few_counted A i Wr few = omega (arith, few)
few_counted B i Rd few = omega (arith, few)
few_counted B i Wr few = omega (arith, few)

pub programs_counted : {K : Type 0} (e : EndState K) (at : End) (i : ℕ) (side : Side) → is_programs e i side ≡ true → length e.modules ≤ 8 → queue_number (Of (module_place side at i)) < 40
programs_counted e at i side is few =
    let there = found_few e.modules i side (pair_at e.modules i) refl is in few_counted at i side (omega (arith, there, few))
