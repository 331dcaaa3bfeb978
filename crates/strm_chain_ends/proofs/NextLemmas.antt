-- The queue ahead of a place by its name, and which places have one next queue.
use Rattle.std.proofs.Common.{◌≡◌, ◌≤◌, ◌+◌, ℕ, Bool, true, false, Option, Some, None, option_map, List, [], length, slice_get, is_some, cond, refl, sym, ◌∙◌, ap, arith, suc, zero}
use Rattle.std.proofs.lemmas.List.{length-map}
use Rattle.std.proofs.lemmas.Option.{slice_get_within}
use Rattle.strm_msg.specs.declared.words.End.{End}
use Rattle.strm_msg.specs.declared.words.End.TheVariants.{A, B}
use Rattle.strm_msg.specs.declared.words.Side.{Side}
use Rattle.strm_msg.specs.declared.words.Side.TheVariants.{Rd, Wr}
use Rattle.strm_module.specs.declared.driver.Driver.{Driver}
use Rattle.strm_module.specs.declared.driver.Driver.TheVariants.{Echo, Loop, Line, Wire}
use Rattle.strm_module.specs.Driver.{is_serviced, partner}
use Rattle.strm_chain_end.specs.Pair.{QueuePair}
use Rattle.strm_msg.specs.Message.{Msg}
use Rattle.strm_chain_end.specs.End.{pair_at, list_at}
use Rattle.strm_chain_end.specs.Modules.{Identity, identity_of, HoldsCalm}
use Rattle.strm_chain_end.specs.Canput.{head_fill, driver_fill}
use Rattle.strm_chain_end.specs.Next.{marks_at, identity_at, has_queue, next_below, next_above, queue_at, or_at}
use Rattle.strm_chain_end.proofs.NextLemmas.{below_is, above_is, queue_at_marks, next_below_once, next_above_once, next_above_last, offer_is, if_some_there, turn_for}
use Rattle.strm_module.specs.Kinds.{Meaning}
use Rattle.strm_chain_end.specs.Offer.{offered, first_offer, offer_by, offer_found, turn_at}
use Rattle.strm_chain_end.specs.declared.offer.Offer.{Offer}
use Rattle.strm_module.specs.declared.turn.Turn.{Turn}
use Rattle.strm_chain_ends.specs.Count.{is_place}
use Rattle.strm_chain_ends.specs.Flow.{offer_of, turn_of}
use Rattle.strm_chain_ends.specs.declared.place.Place.{Place}
use Rattle.strm_chain_ends.specs.declared.place.Place.TheVariants as Places
use Rattle.strm_chain_ends.specs.declared.place.NextQueue.{NextQueue}
use Rattle.strm_chain_ends.specs.declared.place.NextQueue.TheVariants.{Of, Head}
use Rattle.strm_chain_ends.specs.Same.{SameModules}
use Rattle.strm_chain_ends.specs.Path.{ahead, front_of}
use Rattle.strm_chain_ends.specs.Held.{held_by, SameHeadMarks, AreCalm}
use Rattle.strm_chain_ends.specs.Next.{modules_at, past_writes, next_down, next_up, next_of, marks_by, fill_by, IsCounted, SameWays}
use Rattle.strm_chain_ends.specs.Image.{Image, end_of, count_of}

down_fill : {K : Type 0} (image : Image K) (e : End) (o : Option ℕ) → or_at (queue_at (end_of image e) Wr) (driver_fill image.driver (end_of image e)) o ≡ fill_by image (next_down image.driver e o)
down_fill image e (Some i) = queue_at_marks (end_of image e) Wr i
down_fill image e None =
    elim (image.driver) as (λ d. driver_fill d (end_of image e) ≡ fill_by image (past_writes d e)) [ Echo ↦ refl | Loop ↦ refl | Line ↦ refl | Wire ↦ refl ]

up_fill : {K : Type 0} (image : Image K) (e : End) (o : Option ℕ) → or_at (queue_at (end_of image e) Rd) (head_fill (end_of image e)) o ≡ fill_by image (next_up (end_of image e).is_open e o)
up_fill image e (Some i) = queue_at_marks (end_of image e) Rd i
up_fill image e None =
    elim ((end_of image e).is_open) as (λ b. cond b (Some (record { marks = (end_of image e).head_marks; messages = (end_of image e).head })) None ≡ fill_by image (cond b (Some (Head e)) None)) [ true ↦ refl | false ↦ refl ]

-- the queue ahead is that which is next
pub ahead_is : {K : Type 0} (image : Image K) (p : Place) → ahead image p ≡ fill_by image (next_of image p)
ahead_is image (Place.Wr e i) =
    below_is image.driver (end_of image e) i ∙ down_fill image e (next_below (modules_at image e) i)
ahead_is image (Place.Drv e) =
    let p = partner image.driver e in
    above_is (end_of image p) (count_of image p + 1) ∙ up_fill image p (next_above (modules_at image p) (count_of image p + 1))
ahead_is image (Place.Rd e i) =
    above_is (end_of image e) i ∙ up_fill image e (next_above (modules_at image e) i)

abbrev identity : {K : Type 0} → QueuePair K → Identity
identity s = identity_of s.shape

count_same : {K : Type 0} (x y : Image K) (e : End) → SameWays x y → count_of y e ≡ count_of x e
count_same x y e s =
    sym (length-map (end_of y e).modules identity) ∙ ap length (s.modules e) ∙ length-map (end_of x e).modules identity

up_same : (a b : Bool) (c d : List Identity) (m n : ℕ) (e : End) → a ≡ b → c ≡ d → m ≡ n → next_up a e (next_above c (m + 1)) ≡ next_up b e (next_above d (n + 1))
up_same a b c d m n e x y z = rw (x, y, z) refl

partner_same : {K : Type 0} (y : Image K) (p q : End) → p ≡ q → next_up (end_of y p).is_open p (next_above (modules_at y p) (count_of y p + 1)) ≡ next_up (end_of y q).is_open q (next_above (modules_at y q) (count_of y q + 1))
partner_same y p q e = rw e refl

-- no message changes which queue is next
pub next_same : {K : Type 0} (x y : Image K) (p : Place) → SameWays x y → next_of y p ≡ next_of x p
next_same x y (Place.Wr e i) s = rw (s.driver, s.modules e) refl
next_same x y (Place.Drv e) s =
    let p = partner x.driver e in
    partner_same y (partner y.driver e) p (ap (λ d. partner d e) s.driver)
    ∙ up_same (end_of y p).is_open (end_of x p).is_open (modules_at y p) (modules_at x p) (count_of y p) (count_of x p) p (s.is_open p) (s.modules p) (count_same x y p s)
next_same x y (Place.Rd e i) s = rw (s.is_open e, s.modules e) refl

-- nor what the marks of a queue are, but for those of a head
pub marks_but : {K : Type 0} (x y : Image K) (q : NextQueue) → SameWays x y → ((e : End) → q ≡ Head e → (end_of y e).head_marks ≡ (end_of x e).head_marks) → marks_by y q ≡ marks_by x q
marks_but x y (Of (Place.Wr e i)) s heads = ap (λ ids. marks_at Wr (identity_at ids i)) (s.modules e)
marks_but x y (Of (Place.Drv e)) s heads = ap Some (s.drv_marks e)
marks_but x y (Of (Place.Rd e i)) s heads = ap (λ ids. marks_at Rd (identity_at ids i)) (s.modules e)
marks_but x y (Head e) s heads = ap Some (heads e refl)

pub marks_same : {K : Type 0} (x y : Image K) (q : NextQueue) → SameWays x y → SameHeadMarks x y → marks_by y q ≡ marks_by x q
marks_same x y q s heads = marks_but x y q s (λ e _. heads e)

-- what the driver offers is the first message of its list
driver_same : {K : Type 0} (x y : Image K) (e : End) → SameWays x y → held_by y (Of (Places.Drv e)) ≡ held_by x (Of (Places.Drv e)) → front_of y (Places.Drv e) ≡ front_of x (Places.Drv e)
driver_same x y e s h =
    ap (λ d. slice_get (cond (is_serviced d e) (end_of y e).drv []) 0) s.driver ∙ ap (λ q. slice_get (cond (is_serviced x.driver e) q []) 0) h

-- one end and one number, where one queue is next
downs_meet : (d : Driver) (e f : End) (o p : Option ℕ) (q : NextQueue) → next_down d e o ≡ Some q → next_down d f p ≡ Some q → (e ≡ f) × (o ≡ p)
downs_meet d e f (Some i) (Some j) q x y = (cc, cc)
downs_meet Echo e f (Some i) None q x y = cc
downs_meet Loop e f (Some i) None q x y = cc
downs_meet Line e f (Some i) None q x y = cc
downs_meet Wire e f (Some i) None q x y = cc
downs_meet Echo e f None (Some j) q x y = cc
downs_meet Loop e f None (Some j) q x y = cc
downs_meet Line e f None (Some j) q x y = cc
downs_meet Wire e f None (Some j) q x y = cc
downs_meet Echo e f None None q x y = (cc, refl)
downs_meet Loop e f None None q x y = (cc, refl)
downs_meet Line e f None None q x y = cc
downs_meet Wire e f None None q x y = (cc, refl)

ups_meet : (a b : Bool) (e f : End) (o p : Option ℕ) (q : NextQueue) → next_up a e o ≡ Some q → next_up b f p ≡ Some q → (e ≡ f) × (o ≡ p)
ups_meet a b e f (Some i) (Some j) q x y = (cc, cc)
ups_meet a true e f (Some i) None q x y = cc
ups_meet a false e f (Some i) None q x y = cc
ups_meet true b e f None (Some j) q x y = cc
ups_meet false b e f None (Some j) q x y = cc
ups_meet true true e f None None q x y = (cc, refl)
ups_meet true false e f None None q x y = cc
ups_meet false b e f None None q x y = cc

apart : (d : Driver) (b : Bool) (e f : End) (o p : Option ℕ) (q : NextQueue) (C : Type 0) → next_down d e o ≡ Some q → next_up b f p ≡ Some q → C
apart d b e f (Some i) (Some j) q C x y = cc
apart d true e f (Some i) None q C x y = cc
apart d false e f (Some i) None q C x y = cc
apart Echo b e f None (Some j) q C x y = cc
apart Loop b e f None (Some j) q C x y = cc
apart Wire b e f None (Some j) q C x y = cc
apart Line b e f None p q C x y = cc
apart Echo true e f None None q C x y = cc
apart Echo false e f None None q C x y = cc
apart Loop true e f None None q C x y = cc
apart Loop false e f None None q C x y = cc
apart Wire true e f None None q C x y = cc
apart Wire false e f None None q C x y = cc

partners_meet : (d : Driver) (e f : End) → partner d e ≡ partner d f → e ≡ f
partners_meet Echo e f h = h
partners_meet Line e f h = h
partners_meet Loop A A h = refl
partners_meet Loop A B h = cc
partners_meet Loop B A h = cc
partners_meet Loop B B h = refl
partners_meet Wire A A h = refl
partners_meet Wire A B h = cc
partners_meet Wire B A h = cc
partners_meet Wire B B h = refl

pub end_ordinary : {K : Type 0} (image : Image K) (e : End) → AreCalm image → HoldsCalm (end_of image e)
end_ordinary image A h = h.on_a
end_ordinary image B h = h.on_b

-- what the driver's place has next no read queue of a module has
last_meets : {K : Type 0} (image : Image K) (e f : End) (j : ℕ) (q : NextQueue) → is_place image (Places.Rd f j) ≡ true → next_up (end_of image e).is_open e (next_above (modules_at image e) (count_of image e + 1)) ≡ Some q → next_of image (Places.Rd f j) ≡ Some q → ⊥
last_meets image e f j q y m n =
    let both = ups_meet _ _ e f (next_above (modules_at image e) (count_of image e + 1)) (next_above (modules_at image f) j) q m n in
    let there : has_queue Rd (modules_at image e) j ≡ true = ap (λ k. has_queue Rd (modules_at image k) j) both.0 ∙ y in
    let count : length (modules_at image e) ≡ count_of image e = length-map (end_of image e).modules identity in
    let same : next_above (modules_at image e) (length (modules_at image e) + 1) ≡ next_above (modules_at image e) j =
    ap (λ k. next_above (modules_at image e) (k + 1)) count ∙ both.1 ∙ ap (λ k. next_above (modules_at image k) j) (sym both.0) in
    next_above_last (modules_at image e) j same there

-- two places that hold messages and have one next queue are one
pub next_once : {K : Type 0} (image : Image K) (p r : Place) (q : NextQueue) → is_place image p ≡ true → is_place image r ≡ true → next_of image p ≡ Some q → next_of image r ≡ Some q → p ≡ r
next_once image (Place.Wr e i) (Place.Wr f j) q x y m n =
    let both = downs_meet image.driver e f (next_below (modules_at image e) i) (next_below (modules_at image f) j) q m n in
    let a : has_queue Wr (modules_at image e) i ≡ true = x in
    let b : has_queue Wr (modules_at image e) j ≡ true = ap (λ k. has_queue Wr (modules_at image k) j) both.0 ∙ y in
    let same : next_below (modules_at image e) i ≡ next_below (modules_at image e) j = both.1 ∙ ap (λ k. next_below (modules_at image k) j) (sym both.0) in
    rw (both.0, next_below_once (modules_at image e) i j a b same) refl
next_once image (Place.Wr e i) (Place.Drv f) q x y m n =
    apart image.driver _ e (partner image.driver f) (next_below (modules_at image e) i) _ q (Places.Wr e i ≡ Places.Drv f) m n
next_once image (Place.Wr e i) (Place.Rd f j) q x y m n =
    apart image.driver _ e f (next_below (modules_at image e) i) _ q (Places.Wr e i ≡ Places.Rd f j) m n
next_once image (Place.Drv e) (Place.Wr f j) q x y m n =
    apart image.driver _ f (partner image.driver e) (next_below (modules_at image f) j) _ q (Places.Drv e ≡ Places.Wr f j) n m
next_once image (Place.Drv e) (Place.Drv f) q x y m n =
    let both = ups_meet _ _ (partner image.driver e) (partner image.driver f) _ _ q m n in
    ap Places.Drv (partners_meet image.driver e f both.0)
next_once image (Place.Drv e) (Place.Rd f j) q x y m n =
    absurd (last_meets image (partner image.driver e) f j q y m n)
next_once image (Place.Rd e i) (Place.Wr f j) q x y m n =
    apart image.driver _ f e (next_below (modules_at image f) j) _ q (Places.Rd e i ≡ Places.Wr f j) n m
next_once image (Place.Rd e i) (Place.Drv f) q x y m n =
    absurd (last_meets image (partner image.driver f) e i q x n m)
next_once image (Place.Rd e i) (Place.Rd f j) q x y m n =
    let both = ups_meet _ _ e f (next_above (modules_at image e) i) (next_above (modules_at image f) j) q m n in
    let a : has_queue Rd (modules_at image e) i ≡ true = x in
    let b : has_queue Rd (modules_at image e) j ≡ true = ap (λ k. has_queue Rd (modules_at image k) j) both.0 ∙ y in
    let same : next_above (modules_at image e) i ≡ next_above (modules_at image e) j = both.1 ∙ ap (λ k. next_above (modules_at image k) j) (sym both.0) in
    rw (both.0, next_above_once (modules_at image e) i j a b same) refl

-- no message changes where queues stand
pub ways_of_same : {K : Type 0} (x y : Image K) → SameModules x y → SameWays x y
ways_of_same x y s =
    record {
      driver = s.driver;
      is_open = λ e. elim e as (λ e. (end_of y e).is_open ≡ (end_of x e).is_open) [ A ↦ s.on_a.is_open | B ↦ s.on_b.is_open ];
      drv_marks = λ e. elim e as (λ e. (end_of y e).drv_marks ≡ (end_of x e).drv_marks) [ A ↦ s.on_a.drv_marks | B ↦ s.on_b.drv_marks ];
      modules = λ e. elim e as (λ e. modules_at y e ≡ modules_at x e) [ A ↦ s.on_a.modules | B ↦ s.on_b.modules ];
    }

-- a place that offers something is that of a module that is there, or the driver's
found_few : {K : Type 0} (means : Meaning K) (modules : List (QueuePair K)) (i : ℕ) (side : Side) → length modules ≤ 8 → is_some (offer_found means (pair_at modules i) side) ≡ true → i ≤ 8
found_few means modules zero side few h = omega arith
found_few {K = K} means modules (suc i) side few h =
    elim (slice_get modules i) as (λ (o : Option (QueuePair K)). slice_get modules i ≡ o → is_some (offer_found means o side) ≡ true → suc i ≤ 8) [
      | None ↦ λ e k. cc
      | Some s ↦ λ e k. let less = slice_get_within modules i s e in omega arith
    ] refl h

offers_driver : (b : Bool) (q : List Msg) → is_some (first_offer (cond b q [])) ≡ true → b ≡ true
offers_driver true q h = refl
offers_driver false q h = cc

few_at : {K : Type 0} (image : Image K) (e : End) → count_of image A ≤ 8 → count_of image B ≤ 8 → count_of image e ≤ 8
few_at image A a b = a
few_at image B a b = b

pub front_counted : {K : Type 0} (means : Meaning K) (image : Image K) (p : Place) → count_of image A ≤ 8 → count_of image B ≤ 8 → is_some (offer_of means image p) ≡ true → IsCounted (Of p)
front_counted means image (Place.Wr e i) a b h = found_few means (end_of image e).modules i Wr (few_at image e a b) h
front_counted means image (Place.Drv e) a b h = tt
front_counted means image (Place.Rd e i) a b h = found_few means (end_of image e).modules i Rd (few_at image e a b) h

-- and it is there
pub offers_there : {K : Type 0} (means : Meaning K) (image : Image K) (p : Place) → is_some (offer_of means image p) ≡ true → is_place image p ≡ true
offers_there means image (Place.Wr e i) h =
    if_some_there (has_queue Wr (modules_at image e) i) (offer_by (turn_for (identity_at (modules_at image e) i) (turn_at means (end_of image e) i Wr)) (list_at (end_of image e) i Wr)) (ap is_some (sym (offer_is means (end_of image e) Wr i)) ∙ h)
offers_there means image (Place.Drv e) h = offers_driver (is_serviced image.driver e) (end_of image e).drv h
offers_there means image (Place.Rd e i) h =
    if_some_there (has_queue Rd (modules_at image e) i) (offer_by (turn_for (identity_at (modules_at image e) i) (turn_at means (end_of image e) i Rd)) (list_at (end_of image e) i Rd)) (ap is_some (sym (offer_is means (end_of image e) Rd i)) ∙ h)

-- the offer of a module's side: by the modules that are there, by what its service would do, and what waits
abbrev offer_in : Side → ℕ → List Identity → Turn → List Msg → Option Offer
offer_in side i ids turn q = cond (has_queue side ids i) (offer_by (turn_for (identity_at ids i) turn) q) None

-- what a place offers rests on what waits there, and on what its service would do
pub offer_same : {K : Type 0} (means : Meaning K) (x y : Image K) (p : Place) → SameWays x y → turn_of means y p ≡ turn_of means x p → held_by y (Of p) ≡ held_by x (Of p) → offer_of means y p ≡ offer_of means x p
offer_same means x y (Place.Wr e i) s turn held =
    offer_is means (end_of y e) Wr i
    ∙ ap (λ ids. offer_in Wr i ids (turn_at means (end_of y e) i Wr) (list_at (end_of y e) i Wr)) (s.modules e)
    ∙ ap (λ t. offer_in Wr i (modules_at x e) t (list_at (end_of y e) i Wr)) turn
    ∙ ap (λ q. offer_in Wr i (modules_at x e) (turn_at means (end_of x e) i Wr) q) held
    ∙ sym (offer_is means (end_of x e) Wr i)
offer_same means x y (Place.Drv e) s turn held = ap (λ m. option_map offered m) (driver_same x y e s held)
offer_same means x y (Place.Rd e i) s turn held =
    offer_is means (end_of y e) Rd i
    ∙ ap (λ ids. offer_in Rd i ids (turn_at means (end_of y e) i Rd) (list_at (end_of y e) i Rd)) (s.modules e)
    ∙ ap (λ t. offer_in Rd i (modules_at x e) t (list_at (end_of y e) i Rd)) turn
    ∙ ap (λ q. offer_in Rd i (modules_at x e) (turn_at means (end_of x e) i Rd) q) held
    ∙ sym (offer_is means (end_of x e) Rd i)
