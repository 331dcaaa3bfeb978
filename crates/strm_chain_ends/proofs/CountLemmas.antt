-- A change of one queue changes a measure of the messages by as much as the queue's.
use Rattle.std.proofs.Common.{◌≡◌, ◌≢◌, ◌+◌, ℕ, List, [], ◌∷◌, length, sum_by, slice_get, refl, sym, ◌∙◌, ap, arith, suc, zero}
use Rattle.std.proofs.lemmas.List.{length-map}
use Rattle.std.proofs.lemmas.List.Sums.{sum_by-cons}
use Rattle.strm_msg.specs.Message.{Msg}
use Rattle.strm_msg.specs.declared.words.End.{End}
use Rattle.strm_msg.specs.declared.words.End.TheVariants.{A, B}
use Rattle.strm_msg.specs.declared.words.Side.{Side}
use Rattle.strm_msg.specs.declared.words.Side.TheVariants.{Rd, Wr}
use Rattle.strm_module.specs.Calm.{options_held}
use Rattle.strm_chain_end.specs.Pair.{QueuePair}
use Rattle.strm_chain_end.specs.End.{EndState, list_found, list_at}
use Rattle.strm_chain_end.specs.Modules.{Identity, identity_of, identities_of}
use Rattle.strm_chain_ends.specs.declared.place.Place.{Place}
use Rattle.strm_chain_ends.specs.declared.place.Place.TheVariants as Places
use Rattle.strm_chain_ends.specs.declared.place.NextQueue.{NextQueue}
use Rattle.strm_chain_ends.specs.declared.place.NextQueue.TheVariants.{Of, Head}
use Rattle.strm_chain_ends.specs.Image.{Image, end_of}
use Rattle.strm_chain_ends.specs.Same.{SameModules}
use Rattle.strm_chain_ends.specs.Held.{module_place, held_by, DiffersIn}
use Rattle.strm_chain_ends.specs.Count.{measured, answers_options, options_count}

abbrev identity : {K : Type 0} → QueuePair K → Identity
identity s = identity_of s.shape

-- the messages of other queues are the same
pub record Beside {K : Type 0} (old new : Image K) (queue : NextQueue) : Type 0 where
  pub same : SameModules old new
  pub others : (other : NextQueue) → other ≢ queue → held_by new other ≡ held_by old other

pub beside : {K : Type 0} (x y : Image K) (queue : NextQueue) → DiffersIn x y queue → Beside x y queue
beside x y queue d = record { same = d.same; others = d.others }

-- for any measure of the messages of a queue
module _ (g : List Msg → ℕ) where
  abbrev waiting : {K : Type 0} → QueuePair K → ℕ
  waiting s = g s.rd + g s.wr

  abbrev found : {K : Type 0} → List (QueuePair K) → ℕ → Side → List Msg
  found modules k side = list_found (slice_get modules k) side

  sum_one : {K : Type 0} (s : QueuePair K) (rest : List (QueuePair K)) → sum_by waiting (s ∷ rest) ≡ g s.rd + g s.wr + sum_by waiting rest
  sum_one s rest = sum_by-cons waiting s rest

  -- the same messages in all queues of modules
  sums_same : {K : Type 0} (xs ys : List (QueuePair K)) → length ys ≡ length xs → ((k : ℕ) (side : Side) → found ys k side ≡ found xs k side) → sum_by waiting ys ≡ sum_by waiting xs
  sums_same [] [] long same = refl
  sums_same [] (y ∷ ys) long same = absurd (omega arith)
  sums_same (x ∷ xs) [] long same = absurd (omega arith)
  sums_same (x ∷ xs) (y ∷ ys) long same =
      let rd = ap g (same 0 Rd) in
      let wr = ap g (same 0 Wr) in
      let rest = sums_same xs ys (omega arith) (λ k side. same (suc k) side) in
      omega (arith, rd, wr, rest, sum_one x xs, sum_one y ys)

  apart_next : (i k : ℕ) (side t : Side) → (k ≡ i → t ≡ side → ⊥) → suc k ≡ suc i → t ≡ side → ⊥
  apart_next i k side t ne e s = ne (omega arith) s

  apart_sides : (C : Type 0) → Rd ≡ Wr → C
  apart_sides C e = cc

  apart_back : (C : Type 0) → Wr ≡ Rd → C
  apart_back C e = cc

  -- the same but in one queue
  sums_but : {K : Type 0} (xs ys : List (QueuePair K)) (i : ℕ) (side : Side) → length ys ≡ length xs → ((k : ℕ) (t : Side) → (k ≡ i → t ≡ side → ⊥) → found ys k t ≡ found xs k t) → sum_by waiting ys + g (found xs i side) ≡ sum_by waiting xs + g (found ys i side)
  sums_but [] [] i side long same = refl
  sums_but [] (y ∷ ys) i side long same = absurd (omega arith)
  sums_but (x ∷ xs) [] i side long same = absurd (omega arith)
  sums_but (x ∷ xs) (y ∷ ys) zero Rd long same =
      let wr = ap g (same 0 Wr (λ _ e. apart_back ⊥ e)) in
      let rest = sums_same xs ys (omega arith) (λ k side. same (suc k) side (λ e _. absurd (omega (arith, e)))) in
      omega (arith, wr, rest, sum_one x xs, sum_one y ys)
  sums_but (x ∷ xs) (y ∷ ys) zero Wr long same =
      let rd = ap g (same 0 Rd (λ _ e. apart_sides ⊥ e)) in
      let rest = sums_same xs ys (omega arith) (λ k side. same (suc k) side (λ e _. absurd (omega (arith, e)))) in
      omega (arith, rd, rest, sum_one x xs, sum_one y ys)
  sums_but (x ∷ xs) (y ∷ ys) (suc i) side long same =
      let rd = ap g (same 0 Rd (λ e _. absurd (omega (arith, e)))) in
      let wr = ap g (same 0 Wr (λ e _. absurd (omega (arith, e)))) in
      let rest = sums_but xs ys i side (omega arith) (λ k t ne. same (suc k) t (λ e s. ne (omega (arith, e)) s)) in
      omega (arith, rd, wr, rest, sum_one x xs, sum_one y ys)

  modules_same : {K : Type 0} (x y : EndState K) → identities_of y.modules ≡ identities_of x.modules → length y.modules ≡ length x.modules
  modules_same x y h = sym (length-map y.modules identity) ∙ ap length h ∙ length-map x.modules identity

  -- the queues of the modules of one end
  at_index : {K : Type 0} (x y : Image K) (queue : NextQueue) (e : End) (k : ℕ) (side : Side) → Beside x y queue → Of (module_place side e (suc k)) ≢ queue → found (end_of y e).modules k side ≡ found (end_of x e).modules k side
  at_index x y queue e k Rd d ne = d.others (Of (Places.Rd e (suc k))) ne
  at_index x y queue e k Wr d ne = d.others (Of (Places.Wr e (suc k))) ne

  head_apart : (f e : End) (k : ℕ) (side : Side) → Of (module_place side f k) ≡ Head e → ⊥
  head_apart f e k Rd h = cc
  head_apart f e k Wr h = cc

  drv_apart : (f e : End) (k : ℕ) (side : Side) → Of (module_place side f k) ≡ Of (Places.Drv e) → ⊥
  drv_apart f e k Rd h = cc
  drv_apart f e k Wr h = cc

  -- the length of each list of an end that is not the queue's is as it was
  sums_on : {K : Type 0} (x y : Image K) (queue : NextQueue) (e : End) → Beside x y queue → length (end_of y e).modules ≡ length (end_of x e).modules → ((k : ℕ) (side : Side) → Of (module_place side e (suc k)) ≡ queue → ⊥) → sum_by waiting (end_of y e).modules ≡ sum_by waiting (end_of x e).modules
  sums_on x y queue e d long ne = sums_same (end_of x e).modules (end_of y e).modules long (λ k side. at_index x y queue e k side d (ne k side))

  same_rd : {e : End} {k i : ℕ} → Of (Places.Rd e (suc k)) ≡ Of (Places.Rd e (suc i)) → k ≡ i
  same_rd {k = k} {i = i} h = let e : suc k ≡ suc i = cc in omega (arith, e)

  same_wr : {e : End} {k i : ℕ} → Of (Places.Wr e (suc k)) ≡ Of (Places.Wr e (suc i)) → k ≡ i
  same_wr {k = k} {i = i} h = let e : suc k ≡ suc i = cc in omega (arith, e)

  places_apart : (e : End) (k : ℕ) (t : Side) (i : ℕ) (side : Side) → (k ≡ i → t ≡ side → ⊥) → Of (module_place t e (suc k)) ≡ Of (module_place side e (suc i)) → ⊥
  places_apart e k Rd i Rd ne h = ne (same_rd h) refl
  places_apart e k Wr i Wr ne h = ne (same_wr h) refl
  places_apart e k Rd i Wr ne h = cc
  places_apart e k Wr i Rd ne h = cc

  -- the messages of the queues of modules where one of them changed
  sums_in : {K : Type 0} (x y : Image K) (e : End) (i : ℕ) (side : Side) → Beside x y (Of (module_place side e (suc i))) → length (end_of y e).modules ≡ length (end_of x e).modules → sum_by waiting (end_of y e).modules + g (found (end_of x e).modules i side) ≡ sum_by waiting (end_of x e).modules + g (found (end_of y e).modules i side)
  sums_in x y e i side d long =
      sums_but (end_of x e).modules (end_of y e).modules i side long
      (λ k t ne. at_index x y (Of (module_place side e (suc i))) e k t d (λ h. places_apart e k t i side ne h))

  abbrev LongsOf : {K : Type 0} → Image K → Image K → Type 0
  LongsOf x y = (e : End) → length (end_of y e).modules ≡ length (end_of x e).modules

  longs : {K : Type 0} (x y : Image K) → SameModules x y → LongsOf x y
  longs x y s A = modules_same x.a y.a s.on_a.modules
  longs x y s B = modules_same x.b y.b s.on_b.modules

  rest_same : {K : Type 0} (x y : Image K) (e : End) (i : ℕ) (side : Side) → Beside x y (Of (module_place side e i)) → ((f : End) → (g (end_of y f).head ≡ g (end_of x f).head) × (g (end_of y f).drv ≡ g (end_of x f).drv))
  rest_same x y e i side d f =
      (ap g (d.others (Head f) (λ h. head_apart e f i side (sym h))), ap g (d.others (Of (Places.Drv f)) (λ h. drv_apart e f i side (sym h))))

  ends_apart : (e f : End) (k i : ℕ) (t side : Side) → (f ≡ e → ⊥) → Of (module_place t f k) ≡ Of (module_place side e i) → ⊥
  ends_apart e f k i Rd Rd ne h = ne cc
  ends_apart e f k i Rd Wr ne h = cc
  ends_apart e f k i Wr Rd ne h = cc
  ends_apart e f k i Wr Wr ne h = ne cc

  zero_apart : (e : End) (k : ℕ) (t side : Side) → Of (module_place t e (suc k)) ≡ Of (module_place side e 0) → ⊥
  zero_apart e k Rd Rd h = let n : suc k ≡ 0 = cc in omega (arith, n)
  zero_apart e k Rd Wr h = cc
  zero_apart e k Wr Rd h = cc
  zero_apart e k Wr Wr h = let n : suc k ≡ 0 = cc in omega (arith, n)

  -- a queue of a module changed
  count_module : {K : Type 0} (x y : Image K) (e : End) (i : ℕ) (side : Side) → Beside x y (Of (module_place side e i)) → measured g y + g (list_at (end_of x e) i side) ≡ measured g x + g (list_at (end_of y e) i side)
  count_module x y A zero side d =
      let long = longs x y d.same in
      let ra = rest_same x y A 0 side d A in
      let rb = rest_same x y A 0 side d B in
      let sa = sums_on x y (Of (module_place side A 0)) A d (long A) (λ k t. zero_apart A k t side) in
      let sb = sums_on x y (Of (module_place side A 0)) B d (long B) (λ k t. ends_apart A B (suc k) 0 t side (λ h. cc)) in
      omega (arith, ra.0, ra.1, rb.0, rb.1, sa, sb)
  count_module x y B zero side d =
      let long = longs x y d.same in
      let ra = rest_same x y B 0 side d A in
      let rb = rest_same x y B 0 side d B in
      let sa = sums_on x y (Of (module_place side B 0)) A d (long A) (λ k t. ends_apart B A (suc k) 0 t side (λ h. cc)) in
      let sb = sums_on x y (Of (module_place side B 0)) B d (long B) (λ k t. zero_apart B k t side) in
      omega (arith, ra.0, ra.1, rb.0, rb.1, sa, sb)
  count_module x y A (suc i) side d =
      let long = longs x y d.same in
      let ra = rest_same x y A (suc i) side d A in
      let rb = rest_same x y A (suc i) side d B in
      let sa = sums_in x y A i side d (long A) in
      let sb = sums_on x y (Of (module_place side A (suc i))) B d (long B) (λ k t. ends_apart A B (suc k) (suc i) t side (λ h. cc)) in
      omega (arith, ra.0, ra.1, rb.0, rb.1, sa, sb)
  count_module x y B (suc i) side d =
      let long = longs x y d.same in
      let ra = rest_same x y B (suc i) side d A in
      let rb = rest_same x y B (suc i) side d B in
      let sa = sums_on x y (Of (module_place side B (suc i))) A d (long A) (λ k t. ends_apart B A (suc k) (suc i) t side (λ h. cc)) in
      let sb = sums_in x y B i side d (long B) in
      omega (arith, ra.0, ra.1, rb.0, rb.1, sa, sb)

  -- so many messages more are there as the queue has more
  pub count_differs : {K : Type 0} (x y : Image K) (queue : NextQueue) → Beside x y queue → measured g y + g (held_by x queue) ≡ measured g x + g (held_by y queue)
  count_differs x y (Head A) d =
      let long = longs x y d.same in
      let sa = sums_on x y (Head A) A d (long A) (λ k side. head_apart A A (suc k) side) in
      let sb = sums_on x y (Head A) B d (long B) (λ k side. head_apart B A (suc k) side) in
      let da = ap g (d.others (Of (Places.Drv A)) (λ h. cc)) in
      let db = ap g (d.others (Of (Places.Drv B)) (λ h. cc)) in
      let hb = ap g (d.others (Head B) (λ h. cc)) in
      omega (arith, sa, sb, da, db, hb)
  count_differs x y (Head B) d =
      let long = longs x y d.same in
      let sa = sums_on x y (Head B) A d (long A) (λ k side. head_apart A B (suc k) side) in
      let sb = sums_on x y (Head B) B d (long B) (λ k side. head_apart B B (suc k) side) in
      let da = ap g (d.others (Of (Places.Drv A)) (λ h. cc)) in
      let db = ap g (d.others (Of (Places.Drv B)) (λ h. cc)) in
      let ha = ap g (d.others (Head A) (λ h. cc)) in
      omega (arith, sa, sb, da, db, ha)
  count_differs x y (Of (Place.Drv A)) d =
      let long = longs x y d.same in
      let sa = sums_on x y (Of (Places.Drv A)) A d (long A) (λ k side. drv_apart A A (suc k) side) in
      let sb = sums_on x y (Of (Places.Drv A)) B d (long B) (λ k side. drv_apart B A (suc k) side) in
      let ha = ap g (d.others (Head A) (λ h. cc)) in
      let hb = ap g (d.others (Head B) (λ h. cc)) in
      let db = ap g (d.others (Of (Places.Drv B)) (λ h. cc)) in
      omega (arith, sa, sb, ha, hb, db)
  count_differs x y (Of (Place.Drv B)) d =
      let long = longs x y d.same in
      let sa = sums_on x y (Of (Places.Drv B)) A d (long A) (λ k side. drv_apart A B (suc k) side) in
      let sb = sums_on x y (Of (Places.Drv B)) B d (long B) (λ k side. drv_apart B B (suc k) side) in
      let ha = ap g (d.others (Head A) (λ h. cc)) in
      let hb = ap g (d.others (Head B) (λ h. cc)) in
      let da = ap g (d.others (Of (Places.Drv A)) (λ h. cc)) in
      omega (arith, sa, sb, ha, hb, da)
  count_differs x y (Of (Place.Rd e i)) d = count_module x y e i Rd d
  count_differs x y (Of (Place.Wr e i)) d = count_module x y e i Wr d

-- options of a head that wait, where one queue changed
pub options_differ : {K : Type 0} (x y : Image K) (queue : NextQueue) → Beside x y queue → options_count y + options_held (answers_options x.driver) (held_by x queue) ≡ options_count x + options_held (answers_options x.driver) (held_by y queue)
options_differ x y queue d =
    let e = count_differs (options_held (answers_options x.driver)) x y queue d in
    let by = ap (λ d. measured (options_held (answers_options d)) y) d.same.driver in
    omega (arith, e, by)
