-- A stream that is ordered has a ranking: the greatest ranks are those of what may still go furthest.
use Rattle.std.proofs.Common.{◌⊎◌, inl, inr, ◌≡◌, ◌∙◌, ◌+◌, ◌-◌, ◌*◌, ◌<◌, ◌≤◌, ◌&&◌, ◌||◌, ℕ, Bool, true, false, cond, Some, List, [], ◌∷◌, length, map, slice_get, refl, sym, ap, arith, suc, zero}
use Rattle.std.proofs.Math.Dec.{leb}
use Rattle.std.proofs.lemmas.Bool.Decides.{leb_tells}
use Rattle.std.proofs.lemmas.Option.{slice_get_within}
use Rattle.std.proofs.lemmas.Bool.{or_parts}
use Rattle.strm_msg.specs.declared.words.End.{End}
use Rattle.strm_msg.specs.declared.words.End.TheVariants.{A, B}
use Rattle.strm_msg.specs.declared.words.Side.{Side}
use Rattle.strm_msg.specs.declared.words.Side.TheVariants.{Rd, Wr}
use Rattle.strm_module.specs.declared.driver.Driver.{Driver}
use Rattle.strm_module.specs.declared.driver.Driver.TheVariants.{Echo, Loop, Line, Wire}
use Rattle.strm_module.specs.Driver.{is_serviced, partner}
use Rattle.strm_chain_end.specs.Pair.{QueuePair}
use Rattle.strm_chain_ends.specs.Image.{Image, end_of}
use Rattle.strm_chain_end.specs.Order.{some_kind, stands_over}
use Rattle.strm_chain_ends.specs.Order.{IsOrdered}
use Rattle.strm_module.specs.Kinds.{Meaning}
use Rattle.strm_chain_settling.proofs.Ranks.{Role, role_at, Ranking, waits_below, Sinks, IsRanked}
use Rattle.strm_chain_settling.proofs.Below.{role_of, roles_of}
use Rattle.strm_chain_settling.proofs.SettleLemmas.{IsBounded}

-- the number of the topmost module that answers, one more than there are if none does
abbrev pub cut : List Role → ℕ
cut [] = 1
cut (role ∷ roles) = cond role.answers 1 (suc (cut roles))

cut_first : (b : Bool) (k : ℕ) → b ≡ true → cond b 1 (suc k) ≤ 1
cut_first true k h = omega arith
cut_first false k h = cc

cut_next : (b : Bool) (k i : ℕ) → k ≤ i → cond b 1 (suc k) ≤ suc i
cut_next true k i h = omega arith
cut_next false k i h = omega arith

cut_answers : (roles : List Role) (i : ℕ) (role : Role) → slice_get roles i ≡ Some role → role.answers ≡ true → cut roles ≤ suc i
cut_answers [] i role at is = cc
cut_answers (r ∷ roles) zero role at is =
    let same : r ≡ role = cc in cut_first r.answers (cut roles) (ap (λ (x : Role). x.answers) same ∙ is)
cut_answers (r ∷ roles) (suc i) role at is = cut_next r.answers (cut roles) (suc i) (cut_answers roles i role at is)

-- a module that answers is at the cut or below it
pub answers_below : (roles : List Role) (i : ℕ) (role : Role) → role_at roles i ≡ Some role → role.answers ≡ true → cut roles ≤ i
answers_below roles zero role at is = cc
answers_below roles (suc i) role at is = cut_answers roles i role at is

-- a module is there from 1 on, up to their number
pub role_first : (roles : List Role) (i : ℕ) (role : Role) → role_at roles i ≡ Some role → 1 ≤ i
role_first roles zero role at = cc
role_first roles (suc i) role at = omega arith

pub role_last : (roles : List Role) (i : ℕ) (role : Role) → role_at roles i ≡ Some role → i ≤ length roles
role_last roles zero role at = cc
role_last roles (suc i) role at = let h = slice_get_within roles i role at in omega (arith, h)

-- kinds that answer what comes up, and those that answer what goes down
abbrev pub answers_up : {K : Type 0} → Meaning K → K → Bool
answers_up means kind = means.answers kind Rd

abbrev pub answers_down : {K : Type 0} → Meaning K → K → Bool
answers_down means kind = means.answers kind Wr

module _ {K : Type 0} (means : Meaning K) where
  abbrev role : QueuePair K → Role
  role s = role_of means s

  none_turns : (xs : List (QueuePair K)) (i : ℕ) (r : Role) → some_kind (answers_down means) xs ≡ false → slice_get (map role xs) i ≡ Some r → r.turns ≡ false
  none_turns [] i r none at = cc
  none_turns (x ∷ xs) zero r none at =
      let same : role x ≡ r = cc in sym (ap (λ (y : Role). y.turns) same) ∙ (or_parts (answers_down means x.shape.kind) (some_kind (answers_down means) xs) none).0
  none_turns (x ∷ xs) (suc i) r none at =
      none_turns xs i r ((or_parts (answers_down means x.shape.kind) (some_kind (answers_down means) xs) none).1) at

  cut_last : (xs : List (QueuePair K)) (i : ℕ) (r : Role) (b : Bool) → (b && some_kind (answers_down means) xs) ≡ false → slice_get (map role xs) i ≡ Some r → r.turns ≡ true → suc i ≤ cut (map role xs) → suc (suc i) ≤ cond b 1 (suc (cut (map role xs)))
  cut_last xs i r true none at is low = let no = none_turns xs i r none at in let never : true ≡ false = sym is ∙ no in cc
  cut_last xs i r false none at is low = omega (arith, low)

  one_at_least : (b : Bool) (k : ℕ) → 1 ≤ cond b 1 (suc k)
  one_at_least true k = omega arith
  one_at_least false k = omega arith

  cut_turns : (xs : List (QueuePair K)) (i : ℕ) (r : Role) → stands_over (answers_up means) (answers_down means) xs ≡ false → slice_get (map role xs) i ≡ Some r → r.turns ≡ true → suc i ≤ cut (map role xs)
  cut_turns [] i r none at is = cc
  cut_turns (x ∷ xs) zero r none at is = one_at_least (answers_up means x.shape.kind) (cut (map role xs))
  cut_turns (x ∷ xs) (suc i) r none at is =
      let above = (or_parts (answers_up means x.shape.kind && some_kind (answers_down means) xs) (stands_over (answers_up means) (answers_down means) xs) none).0 in
      let below = (or_parts (answers_up means x.shape.kind && some_kind (answers_down means) xs) (stands_over (answers_up means) (answers_down means) xs) none).1 in
      cut_last xs i r (answers_up means x.shape.kind) above at is (cut_turns xs i r below at is)

  -- where none that answers stands above one that turns, a module that turns is at the cut or above it
  pub turns_above : (xs : List (QueuePair K)) (i : ℕ) (r : Role) → stands_over (answers_up means) (answers_down means) xs ≡ false → role_at (map role xs) i ≡ Some r → r.turns ≡ true → i ≤ cut (map role xs)
  turns_above xs zero r none at is = cc
  turns_above xs (suc i) r none at is = cut_turns xs i r none at is

  cut_past : (b : Bool) (k n : ℕ) → b ≡ false → n < k → suc n < cond b 1 (suc k)
  cut_past true k n h less = cc
  cut_past false k n h less = omega (arith, less)

  -- where none answers, the cut is below all
  pub none_answers : (xs : List (QueuePair K)) → some_kind (answers_up means) xs ≡ false → length (map role xs) < cut (map role xs)
  none_answers [] none = omega arith
  none_answers (x ∷ xs) none =
      cut_past (answers_up means x.shape.kind) (cut (map role xs)) (length (map role xs)) ((or_parts (answers_up means x.shape.kind) (some_kind (answers_up means) xs) none).0)
      (none_answers xs ((or_parts (answers_up means x.shape.kind) (some_kind (answers_up means) xs) none).1))

-- ---- a driver and its ends

-- the end whose write side comes before the reads of the other: of a loop that which does not answer, and
-- of a wire that of which the list holds what came in
abbrev first_by : Driver → Bool → End → Bool
first_by Loop true A = false
first_by Loop true B = true
first_by Loop false A = true
first_by Loop false B = false
first_by Wire answers A = false
first_by Wire answers B = true
first_by Echo answers e = false
first_by Line answers e = false

-- the ends whose list comes before all reads
abbrev far_by : Driver → Bool → End → Bool
far_by Line answers e = true
far_by d answers e = first_by d answers e

list_first : (d : Driver) (answers : Bool) (e : End) → waits_below d e ≡ true → far_by d answers e ≡ first_by d answers e
list_first Line answers e on = cc
list_first Loop answers e on = refl
list_first Wire answers e on = refl
list_first Echo answers e on = refl

second_not : (a b : Bool) → a ≡ true → (a && b) ≡ false → b ≡ false
second_not true b h none = none
second_not false b h none = cc

-- ---- groups of ranks, for n modules at most

abbrev unit : ℕ → ℕ
unit n = 2 * n + 2

abbrev writes : Bool → ℕ → ℕ
writes first n = cond first (6 * unit n) (3 * unit n)

abbrev reads : Bool → ℕ → ℕ
reads first n = cond first (7 * unit n) (4 * unit n)

abbrev lists : Bool → ℕ → ℕ
lists far n = cond far (5 * unit n) (2 * unit n)

record AreGroups (first : Bool) (n : ℕ) : Type 0 where
  lowest : 3 * unit n ≤ writes first n
  next : writes first n + unit n ≡ reads first n
  most : reads first n ≤ 7 * unit n
  other : first ≡ false → reads first n ≡ 4 * unit n

groups : (first : Bool) (n : ℕ) → AreGroups first n
groups true n = record { lowest = omega arith; next = omega arith; most = omega arith; other = λ no. cc }
groups false n = record { lowest = omega arith; next = omega arith; most = omega arith; other = λ no. refl }

list_below : (far first : Bool) (n : ℕ) → far ≡ first → lists far n < writes first n
list_below true true n same = omega arith
list_below false false n same = omega arith
list_below true false n same = cc
list_below false true n same = cc

list_far : (far : Bool) (n : ℕ) → far ≡ true → lists far n ≡ 5 * unit n
list_far true n h = refl
list_far false n h = cc

list_within : (far : Bool) (n : ℕ) → (2 * unit n ≤ lists far n) × (lists far n ≤ 5 * unit n)
list_within true n = (omega arith, omega arith)
list_within false n = (omega arith, omega arith)

split : (k i x y : ℕ) → ((k ≤ i) × (cond (leb k i) x y ≡ x)) ⊎ ((i < k) × (cond (leb k i) x y ≡ y))
split k i x y =
    elim (leb_tells k i) [
      | inl h ↦ inl (h.1, ap (λ b. cond b x y) h.0)
      | inr h ↦ inr (h.1, ap (λ b. cond b x y) h.0)
    ]

-- ---- the ranking of an image: from the greatest rank on the write side of the first end and its list, the
-- read queues of the other end from the topmost that answers on down, its write side and its list, and all
-- other read queues
module _ {K : Type 0} (means : Meaning K) (debt : K → Side → ℕ) (image : Image K) where
  abbrev roles_at : End → List Role
  roles_at e = roles_of means (end_of image e)

  abbrev a_answers : Bool
  a_answers = some_kind (answers_up means) image.a.modules

  abbrev all_modules : ℕ
  all_modules = length (roles_at A) + length (roles_at B)

  abbrev first : End → Bool
  first e = first_by image.driver a_answers e

  abbrev far : End → Bool
  far e = far_by image.driver a_answers e

  abbrev cut_at : End → ℕ
  cut_at e = cut (roles_at e)

  abbrev waits_in : Side → End → ℕ → ℕ
  waits_in Rd e i = cond (leb (cut_at e) i) (reads (first e) all_modules) (unit all_modules) + (2 * i + 1)
  waits_in Wr e i = writes (first e) all_modules + (2 * (all_modules - i) + 1)

  abbrev owes_in : Side → End → ℕ → ℕ
  owes_in Rd e i = cond (leb (suc (cut_at e)) i) (reads (first e) all_modules) (unit all_modules) + 2 * i
  owes_in Wr e i = writes (first e) all_modules + 2 * (all_modules - i)

  abbrev pub ranking : Ranking K
  ranking =
      record {
        means = means;
        debt = debt;
        driver = image.driver;
        roles = roles_at;
        waits = waits_in;
        owes = owes_in;
        drives = λ e. lists (far e) all_modules;
      }

  few_at : (e : End) → length (roles_at e) ≤ all_modules
  few_at A = omega arith
  few_at B = omega arith

  rd_owed : (e : End) (i : ℕ) → owes_in Rd e i < waits_in Rd e i
  rd_owed e i =
      let g = groups (first e) all_modules in
      elim (split (cut_at e) i (reads (first e) all_modules) (unit all_modules)) [
        | inl h ↦ elim (split (suc (cut_at e)) i (reads (first e) all_modules) (unit all_modules)) [
          | inl k ↦ omega (arith, h, k, g)
          | inr k ↦ omega (arith, h, k, g)
        ]
        | inr h ↦ elim (split (suc (cut_at e)) i (reads (first e) all_modules) (unit all_modules)) [
          | inl k ↦ absurd (omega (arith, h, k))
          | inr k ↦ omega (arith, h, k)
        ]
      ]

  owed_in : (side : Side) (e : End) (i : ℕ) → owes_in side e i < waits_in side e i
  owed_in Rd e i = rd_owed e i
  owed_in Wr e i = omega arith

  rd_up : (e : End) (i : ℕ) → waits_in Rd e i < owes_in Rd e (suc i)
  rd_up e i =
      let g = groups (first e) all_modules in
      elim (split (cut_at e) i (reads (first e) all_modules) (unit all_modules)) [
        | inl h ↦ elim (split (suc (cut_at e)) (suc i) (reads (first e) all_modules) (unit all_modules)) [
          | inl k ↦ omega (arith, h, k, g)
          | inr k ↦ absurd (omega (arith, h, k))
        ]
        | inr h ↦ elim (split (suc (cut_at e)) (suc i) (reads (first e) all_modules) (unit all_modules)) [
          | inl k ↦ absurd (omega (arith, h, k))
          | inr k ↦ omega (arith, h, k)
        ]
      ]

  -- reads above the cut are of the lowest group, and none goes above its highest
  reads_low : (e : End) (i : ℕ) → i < cut_at e → waits_in Rd e i ≡ unit all_modules + (2 * i + 1)
  reads_low e i low =
      elim (split (cut_at e) i (reads (first e) all_modules) (unit all_modules)) [
        | inl h ↦ absurd (omega (arith, h, low))
        | inr h ↦ ap (λ x. x + (2 * i + 1)) h.1
      ]

  owed_low : (e : End) (i : ℕ) → i ≤ cut_at e → owes_in Rd e i ≡ unit all_modules + 2 * i
  owed_low e i low =
      elim (split (suc (cut_at e)) i (reads (first e) all_modules) (unit all_modules)) [
        | inl h ↦ absurd (omega (arith, h, low))
        | inr h ↦ ap (λ x. x + 2 * i) h.1
      ]

  reads_high : (e : End) (i : ℕ) → waits_in Rd e i ≤ reads (first e) all_modules + (2 * i + 1)
  reads_high e i =
      let g = groups (first e) all_modules in
      elim (split (cut_at e) i (reads (first e) all_modules) (unit all_modules)) [
        | inl h ↦ omega (arith, h)
        | inr h ↦ omega (arith, h, g)
      ]

  wr_down : (e : End) (n : ℕ) → n < length (roles_at e) → Sinks ranking (owes_in Wr e (length (roles_at e) - n)) e n
  wr_down e zero less = λ on. let h = list_below (far e) (first e) all_modules (list_first image.driver a_answers e on) in omega (arith, h)
  wr_down e (suc n) less = let few = few_at e in omega (arith, few, less)

  answers_in : (e : End) (i : ℕ) → cut_at e ≤ i → owes_in Wr e i < waits_in Rd e i
  answers_in e i low =
      let g = groups (first e) all_modules in
      elim (split (cut_at e) i (reads (first e) all_modules) (unit all_modules)) [
        | inl h ↦ omega (arith, h, g)
        | inr h ↦ absurd (omega (arith, h, low))
      ]

  turns_in : (e : End) (i : ℕ) → 1 ≤ i → i ≤ length (roles_at e) → i ≤ cut_at e → (waits_in Rd e (i - 1) < owes_in Wr e i) × (owes_in Rd e i < waits_in Wr e i)
  turns_in e i one last high =
      let few = few_at e in
      let g = groups (first e) all_modules in
      let up = reads_low e (i - 1) (omega (arith, high, one)) in
      let owed = owed_low e i high in
      (omega (arith, up, g, one, last, few), omega (arith, owed, g, last, few))

  waits_most : (side : Side) (e : End) (i : ℕ) → i ≤ length (roles_at e) → waits_in side e i < 8 * unit all_modules
  waits_most Rd e i last =
      let high = reads_high e i in
      let g = groups (first e) all_modules in
      let few = few_at e in
      omega (arith, high, g, few, last)
  waits_most Wr e i last = let g = groups (first e) all_modules in omega (arith, g)

  abbrev pub ranking_most : ℕ
  ranking_most = 8 * unit all_modules

  pub ranking_bounded : IsBounded ranking ranking_most
  ranking_bounded = record { waits = waits_most; drives = λ e. let h = list_within (far e) all_modules in omega (arith, h) }

  -- what a list feeds: all reads of an end that does not come first, or those of one where none answers
  drv_reads : (e p : End) → ((far e ≡ true) × (first p ≡ false)) ⊎ (length (roles_at p) < cut_at p) → waits_in Rd p (length (roles_at p)) < lists (far e) all_modules
  drv_reads e p (inl h) =
      let high = reads_high p (length (roles_at p)) in
      let other = (groups (first p) all_modules).other h.1 in
      let list = list_far (far e) all_modules h.0 in
      let few = few_at p in
      omega (arith, high, other, list, few)
  drv_reads e p (inr h) =
      let low = reads_low p (length (roles_at p)) h in
      let list = list_within (far e) all_modules in
      let few = few_at p in
      omega (arith, low, list, few)

  module _ (ordered : IsOrdered means image) where
    none_over : (e : End) → stands_over (answers_up means) (answers_down means) (end_of image e).modules ≡ false
    none_over A = ordered.on_a
    none_over B = ordered.on_b

    feeds : (d : Driver) (b : Bool) (e : End) → image.driver ≡ d → a_answers ≡ b → is_serviced d e ≡ true → ((far_by d b e ≡ true) × (first_by d b (partner d e) ≡ false)) ⊎ (length (roles_at (partner d e)) < cut_at (partner d e))
    feeds Echo b A is are on = inr (none_answers means image.a.modules (ordered.echo is))
    feeds Echo b B is are on = cc
    feeds Line b e is are on = inl (refl, refl)
    feeds Wire b A is are on = cc
    feeds Wire b B is are on = inl (refl, refl)
    feeds Loop true A is are on = inr (none_answers means image.b.modules (second_not a_answers (some_kind (answers_up means) image.b.modules) are (ordered.loops is)))
    feeds Loop true B is are on = inl (refl, refl)
    feeds Loop false A is are on = inl (refl, refl)
    feeds Loop false B is are on = inr (none_answers means image.a.modules are)

    turns_there : (e : End) (i : ℕ) (role : Role) → role_at (roles_at e) i ≡ Some role → role.turns ≡ true → (waits_in Rd e (i - 1) < owes_in Wr e i) × (owes_in Rd e i < waits_in Wr e i)
    turns_there e i role at is =
        turns_in e i (role_first (roles_at e) i role at) (role_last (roles_at e) i role at) (turns_above means (end_of image e).modules i role (none_over e) at is)

    pub ranking_ranked : IsRanked ranking
    ranking_ranked =
        record {
          owed = owed_in;
          up = rd_up;
          down = wr_down;
          answered = λ e i role at is. answers_in e i (answers_below (roles_at e) i role at is);
          turned = λ e i role at is. (turns_there e i role at is).0;
          turned_owed = λ e i role at is. (turns_there e i role at is).1;
          driven = λ e on. drv_reads e (partner image.driver e) (feeds image.driver a_answers e refl refl on);
        }
