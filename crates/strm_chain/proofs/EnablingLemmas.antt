-- No place is forgotten: what enabling keeps.
use Rattle.std.proofs.Common.{⊎_elim, inl, inr, map, ◌≡◌, ◌≢◌, ◌<◌, ◌≤◌, ◌||◌, ℕ, nat_eq, Bool, true, false, Some, None, List, [], ◌∷◌, length, slice_get, slice_set, is_some, refl, sym, ◌∙◌, ap, suc, zero, arith}
use Rattle.std.proofs.lemmas.Bool.{cases_eq, or_parts, or_right, or_left}
use Rattle.std.proofs.lemmas.Cmp.{nat_eq_equiv}
use Rattle.std.proofs.lemmas.List.{length-map}
use Rattle.std.proofs.lemmas.Map.Made.{length-le_from_is_member}
use Rattle.std.proofs.lemmas.Bool.Decides.{nat_tests}
use Rattle.strm_msg.specs.declared.words.End.{End}
use Rattle.strm_msg.specs.declared.words.End.TheVariants.{A, B}
use Rattle.strm_chain_end.specs.declared.record.Record.{Record}
use Rattle.strm_queue.specs.Run.{RunList, is_listed, AreOnce, with_place}
use Rattle.strm_queue.proofs.RunLemmas.{stands_with}
use Rattle.strm_chain_ends.specs.declared.place.Place.{Place}
use Rattle.strm_chain_ends.specs.declared.place.NextQueue.{NextQueue}
use Rattle.strm_chain_ends.specs.declared.place.NextQueue.TheVariants.{Of, Head}
use Rattle.strm_chain_end.specs.End.{in_state}
use Rattle.strm_chain_ends.proofs.TurnLemmas.{turns_with, set_other}
use Rattle.strm_chain_ends.specs.Image.{Image, end_of, with_state}
use Rattle.strm_chain_ends.specs.Flow.{offer_of, turn_of, may, is_due}
use Rattle.strm_module.specs.Kinds.{Meaning}
use Rattle.strm_chain_ends.specs.Held.{held_by, SameHeadMarks, DiffersIn, SetsMarks, AreCalm}
use Rattle.strm_chain_ends.specs.Next.{next_of, modules_at, SameWays}
use Rattle.strm_chain_ends.proofs.NextLemmas.{next_same, marks_but, marks_same, offer_same, offers_there, ways_of_same, next_once}
use Rattle.strm_chain_ends.specs.Count.{is_place, places_of, place_count}
use Rattle.strm_chain_ends.proofs.PlaceLemmas.{IsIn, place_in, place_same}
use Rattle.strm_chain_ends.proofs.DueLemmas.{due_frame, due_fuller, due_holds, may_unless_next}
use Rattle.strm_chain.specs.Number.{queue_number, place_number, place_of}
use Rattle.strm_chain.specs.Enabled.{Enabled, is_enabled, DueAreEnabled, IsWaiting, IsReady, IsReadyExcept, ArePlaces, marked_wanted, MarksWanted, TurnsKnown}
use Rattle.strm_chain.proofs.NumberLemmas.{place_back, number_once}

differ : (C : Type 0) → true ≡ false → C
differ C e = cc

same_number : (a b : ℕ) → a ≡ b → nat_eq a b ≡ true
same_number a b h = grind (arith, nat_tests)

-- who is not enabled after a place was was not before, and is another
out_before : (items : List ℕ) (n k : ℕ) → is_listed k (with_place items n) ≡ false → is_listed k items ≡ false
out_before items n k out = (or_parts (is_listed k items) (nat_eq k n) (sym (stands_with k n items (is_listed n items) refl) ∙ out)).0

out_other : (items : List ℕ) (n k : ℕ) → is_listed k (with_place items n) ≡ false → k ≢ n
out_other items n k out same =
    differ ⊥ (sym (same_number k n same) ∙ (or_parts (is_listed k items) (nat_eq k n) (sym (stands_with k n items (is_listed n items) refl) ∙ out)).1)

some_same : {X : Type 0} {a b : X} → Some a ≡ Some b → a ≡ b
some_same h = cc

some_of : {p r : Place} → Of p ≡ Of r → p ≡ r
some_of h = cc

nobody : (p : Place) → Some None ≡ Some (Some p) → ⊥
nobody p h = cc

apart_number : (a b : ℕ) → a ≢ b → nat_eq a b ≡ false
apart_number a b h = grind (arith, nat_tests)

slice_get_set_same : {X : Type 0} (xs : List X) (i : ℕ) (x : X) → i < length xs → slice_get (slice_set xs i x) i ≡ Some x
slice_get_set_same [] i x h = absurd (omega arith)
slice_get_set_same (y ∷ xs) zero x h = refl
slice_get_set_same (y ∷ xs) (suc i) x h = slice_get_set_same xs i x (omega arith)

-- each place that must move is enabled
pub due_enabled : {K : Type 0} (means : Meaning K) (image : Image K) (enabled : Enabled) → IsReady means image enabled → DueAreEnabled means image enabled.run
due_enabled means image enabled r p due =
    elim (is_enabled enabled.run p) as (λ b. is_enabled enabled.run p ≡ b → b ≡ true) [
      | true ↦ λ e. refl
      | false ↦ λ e. let w = r.stands p (due_holds means image p due) e in sym w.rests ∙ due
    ] refl

-- where none is enabled, none must move
pub quiet_if_none : {K : Type 0} (means : Meaning K) (image : Image K) (enabled : Enabled) → IsReady means image enabled → enabled.run.items ≡ [] → (p : Place) → is_due means image p ≡ false
quiet_if_none means image enabled r none p =
    elim (is_due means image p) as (λ b. is_due means image p ≡ b → b ≡ false) [
      | false ↦ λ e. refl
      | true ↦ λ e. sym (due_enabled means image enabled r p e) ∙ ap (is_listed (place_number p)) none
    ] refl

-- nothing changed that flow control sees
pub ready_same : {K : Type 0} (means : Meaning K) (x y : Image K) (enabled : Enabled) → SameWays x y → SameHeadMarks x y → ((p : Place) → turn_of means y p ≡ turn_of means x p) → ((q : NextQueue) → held_by y q ≡ held_by x q) → IsReady means x enabled → IsReady means y enabled
ready_same means x y enabled s marks turns held r =
    record {
      stands = λ p some out.
          let w = r.stands p (sym (ap is_some (offer_same means x y p s (turns p) (held (Of p)))) ∙ some) out in
          record {
            queue = w.queue;
            next = next_same x y p s ∙ w.next;
            wants = w.wants;
            rests = due_frame means x y p s (offer_same means x y p s (turns p) (held (Of p))) (λ q _. (marks_same x y q s marks, held q)) ∙ w.rests;
          };
    }

-- what enabled places and wants are ready for, another count of looks is too
pub ready_again : {K : Type 0} (means : Meaning K) (image : Image K) (old new : Enabled) → new.run.items ≡ old.run.items → new.wanted ≡ old.wanted → IsReady means image old → IsReady means image new
ready_again means image old new items wanted r =
    record {
      stands = λ p some out.
          let w = r.stands p some (ap (is_listed (place_number p)) (sym items) ∙ out) in
          record { queue = w.queue; next = w.next; wants = ap (λ l. slice_get l (queue_number w.queue)) wanted ∙ w.wants; rests = w.rests };
    }

-- a queue changed, and its place was enabled: what waits for another queue waits as before
pub ready_but : {K : Type 0} (means : Meaning K) (x y : Image K) (queue : NextQueue) (old new : Enabled) → DiffersIn x y queue → TurnsKnown means x y new.run → new.wanted ≡ old.wanted → ((p : Place) → is_enabled new.run p ≡ false → is_enabled old.run p ≡ false) → ((p : Place) → is_some (offer_of means y p) ≡ true → is_enabled new.run p ≡ false → Of p ≢ queue) → IsReady means x old → IsReadyExcept means y queue new
ready_but means x y queue old new d turns wanted before other r =
    let s = ways_of_same x y d.same in
    record {
      stands = λ p some out.
          let own = offer_same means x y p s (turns p some out) (d.others (Of p) (other p some out)) in
          let w = r.stands p (sym (ap is_some own) ∙ some) (before p out) in
          record {
            queue = w.queue;
            next = next_same x y p s ∙ w.next;
            wants = ap (λ l. slice_get l (queue_number w.queue)) wanted ∙ w.wants;
            rests = λ apart. due_frame means x y p s own (λ q e. (marks_same x y q s d.head_marks, d.others q (λ same. apart (let e1 : w.queue ≡ q = some_same (sym w.next ∙ e) in e1 ∙ same)))) ∙ w.rests;
          };
    }

-- the marks of a head changed: what waits for another queue waits as before
pub ready_marks : {K : Type 0} (means : Meaning K) (x y : Image K) (e : End) (enabled : Enabled) → SetsMarks x y e → ((p : Place) → turn_of means y p ≡ turn_of means x p) → IsReady means x enabled → IsReadyExcept means y (Head e) enabled
ready_marks means x y e enabled d turns r =
    let s = ways_of_same x y d.same in
    record {
      stands = λ p some out.
          let own = offer_same means x y p s (turns p) (d.held (Of p)) in
          let w = r.stands p (sym (ap is_some own) ∙ some) out in
          record {
            queue = w.queue;
            next = next_same x y p s ∙ w.next;
            wants = w.wants;
            rests = λ apart.
                due_frame means x y p s own
                (λ q k. let same : w.queue ≡ q = some_same (sym w.next ∙ k) in
                (marks_but x y q s (λ f at. d.others f (λ here. apart (same ∙ at ∙ ap (λ z. Head z) here))), d.held q))
                ∙ w.rests;
          };
    }

-- and where the queue holds more, so does what waits for it
pub ready_more : {K : Type 0} (means : Meaning K) (x y : Image K) (queue : NextQueue) (old new : Enabled) → DiffersIn x y queue → TurnsKnown means x y new.run → length (held_by x queue) < length (held_by y queue) → new.wanted ≡ old.wanted → ((p : Place) → is_enabled new.run p ≡ false → is_enabled old.run p ≡ false) → ((p : Place) → is_some (offer_of means y p) ≡ true → is_enabled new.run p ≡ false → Of p ≢ queue) → IsReady means x old → IsReady means y new
ready_more means x y queue old new d turns longer wanted before other r =
    let s = ways_of_same x y d.same in
    let but = ready_but means x y queue old new d turns wanted before other r in
    record {
      stands = λ p some out.
          let own = offer_same means x y p s (turns p some out) (d.others (Of p) (other p some out)) in
          let b = but.stands p some out in
          let w = r.stands p (sym (ap is_some own) ∙ some) (before p out) in
          let same : b.queue ≡ w.queue = some_same (sym b.next ∙ next_same x y p s ∙ w.next) in
          record {
            queue = b.queue;
            next = b.next;
            wants = b.wants;
            rests = ⊎_elim
                (λ (e : queue_number b.queue ≡ queue_number queue).
                let is : w.queue ≡ queue = sym same ∙ number_once b.queue queue e in
                due_fuller means x y p queue s own (w.next ∙ ap Some is) (marks_same x y queue s d.head_marks) (d.shift.fuller longer) w.rests)
                (λ (ne : queue_number b.queue ≡ queue_number queue → ⊥). b.rests (λ e. ne (ap queue_number e)))
                (cases_eq (queue_number b.queue) (queue_number queue));
          };
    }

-- no place waits for the queue that was taken from
pub ready_unwanted : {K : Type 0} (means : Meaning K) (image : Image K) (queue : NextQueue) (enabled : Enabled) → slice_get enabled.wanted (queue_number queue) ≡ Some None → IsReadyExcept means image queue enabled → IsReady means image enabled
ready_unwanted means image queue enabled none r =
    record {
      stands = λ p some out.
          let b = r.stands p some out in
          record {
            queue = b.queue;
            next = b.next;
            wants = b.wants;
            rests = b.rests (λ e. nobody p (sym (ap (slice_get enabled.wanted) (ap queue_number e) ∙ none) ∙ b.wants));
          };
    }

-- the place that waits for it must not move yet
pub ready_still : {K : Type 0} (means : Meaning K) (image : Image K) (queue : NextQueue) (waiting : Place) (enabled : Enabled) → slice_get enabled.wanted (queue_number queue) ≡ Some (Some waiting) → is_due means image waiting ≡ false → IsReadyExcept means image queue enabled → IsReady means image enabled
ready_still means image queue waiting enabled wants rests r =
    record {
      stands = λ p some out.
          let b = r.stands p some out in
          record {
            queue = b.queue;
            next = b.next;
            wants = b.wants;
            rests = ⊎_elim
                (λ (e : queue_number b.queue ≡ queue_number queue).
                let is : waiting ≡ p = some_same (some_same (sym wants ∙ ap (slice_get enabled.wanted) (sym e) ∙ b.wants)) in
                ap (is_due means image) (sym is) ∙ rests)
                (λ (ne : queue_number b.queue ≡ queue_number queue → ⊥). b.rests (λ e. ne (ap queue_number e)))
                (cases_eq (queue_number b.queue) (queue_number queue));
          };
    }

-- the place that waits for it was enabled
pub ready_woken : {K : Type 0} (means : Meaning K) (image : Image K) (queue : NextQueue) (waiting : Place) (old new : Enabled) → slice_get old.wanted (queue_number queue) ≡ Some (Some waiting) → new.wanted ≡ slice_set old.wanted (queue_number queue) None → new.run.items ≡ with_place old.run.items (place_number waiting) → IsReadyExcept means image queue old → IsReady means image new
ready_woken means image queue waiting old new wants wanted items r =
    record {
      stands = λ p some out.
          let gone : is_listed (place_number p) (with_place old.run.items (place_number waiting)) ≡ false = ap (is_listed (place_number p)) (sym items) ∙ out in
          let b = r.stands p some (out_before old.run.items (place_number waiting) (place_number p) gone) in
          let apart : queue_number b.queue ≢ queue_number queue = λ e.
          let is : waiting ≡ p = some_same (some_same (sym wants ∙ ap (slice_get old.wanted) (sym e) ∙ b.wants)) in
          out_other old.run.items (place_number waiting) (place_number p) gone (ap place_number (sym is)) in
          record {
            queue = b.queue;
            next = b.next;
            wants = ap (λ l. slice_get l (queue_number b.queue)) wanted ∙ set_other old.wanted (queue_number queue) (queue_number b.queue) None apart ∙ b.wants;
            rests = b.rests (λ e. apart (ap queue_number e));
          };
    }

-- who is not enabled once the first was given out was not before, or is the first
first_out : (n k : ℕ) (rest : List ℕ) → k ≢ n → is_listed k rest ≡ false → is_listed k (n ∷ rest) ≡ false
first_out n k rest ne h = rw (apart_number k n ne, h) refl

-- the first place was given out, and enabled again
pub ready_moves : {K : Type 0} (means : Meaning K) (image : Image K) (old new : Enabled) (n : ℕ) (rest : List ℕ) → old.run.items ≡ n ∷ rest → new.run.items ≡ with_place rest (place_number (place_of n)) → new.wanted ≡ old.wanted → IsReady means image old → IsReady means image new
ready_moves means image old new n rest before items wanted r =
    record {
      stands = λ p some out.
          let gone : is_listed (place_number p) (with_place rest (place_number (place_of n))) ≡ false = ap (is_listed (place_number p)) (sym items) ∙ out in
          let ne : place_number p ≢ n = λ e.
          out_other rest (place_number (place_of n)) (place_number p) gone (ap place_number (sym (place_back p) ∙ ap place_of e)) in
          let w = r.stands p some (ap (is_listed (place_number p)) before ∙ first_out n (place_number p) rest ne (out_before rest (place_number (place_of n)) (place_number p) gone)) in
          record { queue = w.queue; next = w.next; wants = ap (λ l. slice_get l (queue_number w.queue)) wanted ∙ w.wants; rests = w.rests };
    }

-- the first place was given out, and holds no message
pub ready_empty : {K : Type 0} (means : Meaning K) (image : Image K) (old new : Enabled) (n : ℕ) (rest : List ℕ) → old.run.items ≡ n ∷ rest → new.run.items ≡ rest → new.wanted ≡ old.wanted → is_some (offer_of means image (place_of n)) ≡ false → IsReady means image old → IsReady means image new
ready_empty means image old new n rest before items wanted empty r =
    record {
      stands = λ p some out.
          let gone : is_listed (place_number p) rest ≡ false = ap (is_listed (place_number p)) (sym items) ∙ out in
          let ne : place_number p ≢ n = λ e.
          differ ⊥ (sym some ∙ ap (λ k. is_some (offer_of means image k)) (sym (place_back p) ∙ ap place_of e) ∙ empty) in
          let w = r.stands p some (ap (is_listed (place_number p)) before ∙ first_out n (place_number p) rest ne gone) in
          record { queue = w.queue; next = w.next; wants = ap (λ l. slice_get l (queue_number w.queue)) wanted ∙ w.wants; rests = w.rests };
    }

-- the first place was given out, may not move, and waits from now on
waits_now : {K : Type 0} (means : Meaning K) (image : Image K) (old new : Enabled) (n : ℕ) (rest : List ℕ) (queue : NextQueue) → AreCalm image → old.run.items ≡ n ∷ rest → new.run.items ≡ rest → new.wanted ≡ slice_set old.wanted (queue_number queue) (Some (place_of n)) → queue_number queue < length old.wanted → next_of image (place_of n) ≡ Some queue → is_some (offer_of means image (place_of n)) ≡ true → is_due means image (place_of n) ≡ false → IsReady means image old → IsReady means image new
waits_now means image old new n rest queue ordinary before items wanted inside next holds rests r =
    record {
      stands = λ p some out.
          let gone : is_listed (place_number p) rest ≡ false = ap (is_listed (place_number p)) (sym items) ∙ out in
          ⊎_elim
          (λ (e : place_number p ≡ place_number (place_of n)).
          let is : p ≡ place_of n = some_of (number_once (Of p) (Of (place_of n)) e) in
          record {
            queue = queue;
            next = ap (next_of image) is ∙ next;
            wants = ap (λ l. slice_get l (queue_number queue)) wanted ∙ slice_get_set_same old.wanted (queue_number queue) (Some (place_of n)) inside ∙ ap (λ k. Some (Some k)) (sym is);
            rests = ap (is_due means image) is ∙ rests;
          })
          (λ (ne : place_number p ≡ place_number (place_of n) → ⊥).
          let first : place_number p ≢ n = λ e. ne (ap place_number (sym (place_back p) ∙ ap place_of e)) in
          let w = r.stands p some (ap (is_listed (place_number p)) before ∙ first_out n (place_number p) rest first gone) in
          let apart : queue_number w.queue ≢ queue_number queue = λ e.
          ne (ap place_number (next_once image p (place_of n) queue (offers_there means image p some) (offers_there means image (place_of n) holds) (w.next ∙ ap Some (number_once w.queue queue e)) next)) in
          record {
            queue = w.queue;
            next = w.next;
            wants = ap (λ l. slice_get l (queue_number w.queue)) wanted ∙ set_other old.wanted (queue_number queue) (queue_number w.queue) (Some (place_of n)) apart ∙ w.wants;
            rests = w.rests;
          })
          (cases_eq (place_number p) (place_number (place_of n)));
    }

-- the first place was given out, may not move, and waits for the queue ahead
pub ready_waits : {K : Type 0} (means : Meaning K) (image : Image K) (old new : Enabled) (n : ℕ) (rest : List ℕ) → AreCalm image → ((q : NextQueue) → next_of image (place_of n) ≡ Some q → queue_number q < length old.wanted) → old.run.items ≡ n ∷ rest → new.run.items ≡ rest → MarksWanted image (place_of n) old.wanted new.wanted → is_some (offer_of means image (place_of n)) ≡ true → may means image (place_of n) ≡ false → is_due means image (place_of n) ≡ false → IsReady means image old → IsReady means image new
ready_waits means image old new n rest ordinary few before items wanted holds still rests r =
    elim (next_of image (place_of n)) as (λ o. next_of image (place_of n) ≡ o → new.wanted ≡ marked_wanted o (place_of n) old.wanted → IsReady means image new) [
      | None ↦ λ e h. differ (IsReady means image new) (sym (may_unless_next means image (place_of n) e holds) ∙ still)
      | Some q ↦ λ e h. waits_now means image old new n rest q ordinary before items h (few q e) e holds rests r
    ] refl wanted

-- all places that hold messages are enabled
pub ready_all : {K : Type 0} (means : Meaning K) (image : Image K) (enabled : Enabled) → ((p : Place) → is_some (offer_of means image p) ≡ true → is_enabled enabled.run p ≡ true) → IsReady means image enabled
ready_all means image enabled all =
    record { stands = λ p some out. differ (IsWaiting means image enabled.wanted p) (sym (all p some) ∙ out) }

state_ways : {K : Type 0} (image : Image K) (e : End) (r : Record) → SameWays image (with_state image e r)
state_ways image A r =
    record {
      driver = refl;
      is_open = λ e. elim e as (λ e. (end_of (with_state image A r) e).is_open ≡ (end_of image e).is_open) [ A ↦ refl | B ↦ refl ];
      drv_marks = λ e. elim e as (λ e. (end_of (with_state image A r) e).drv_marks ≡ (end_of image e).drv_marks) [ A ↦ refl | B ↦ refl ];
      modules = λ e. elim e as (λ e. modules_at (with_state image A r) e ≡ modules_at image e) [ A ↦ refl | B ↦ refl ];
    }
state_ways image B r =
    record {
      driver = refl;
      is_open = λ e. elim e as (λ e. (end_of (with_state image B r) e).is_open ≡ (end_of image e).is_open) [ A ↦ refl | B ↦ refl ];
      drv_marks = λ e. elim e as (λ e. (end_of (with_state image B r) e).drv_marks ≡ (end_of image e).drv_marks) [ A ↦ refl | B ↦ refl ];
      modules = λ e. elim e as (λ e. modules_at (with_state image B r) e ≡ modules_at image e) [ A ↦ refl | B ↦ refl ];
    }

state_marks : {K : Type 0} (image : Image K) (e : End) (r : Record) → SameHeadMarks image (with_state image e r)
state_marks image A r A = refl
state_marks image A r B = refl
state_marks image B r A = refl
state_marks image B r B = refl

state_held : {K : Type 0} (image : Image K) (e : End) (r : Record) (q : NextQueue) → held_by (with_state image e r) q ≡ held_by image q
state_held image A r (Of (Place.Wr A i)) = refl
state_held image A r (Of (Place.Wr B i)) = refl
state_held image A r (Of (Place.Rd A i)) = refl
state_held image A r (Of (Place.Rd B i)) = refl
state_held image A r (Of (Place.Drv A)) = refl
state_held image A r (Of (Place.Drv B)) = refl
state_held image A r (Head A) = refl
state_held image A r (Head B) = refl
state_held image B r (Of (Place.Wr A i)) = refl
state_held image B r (Of (Place.Wr B i)) = refl
state_held image B r (Of (Place.Rd A i)) = refl
state_held image B r (Of (Place.Rd B i)) = refl
state_held image B r (Of (Place.Drv A)) = refl
state_held image B r (Of (Place.Drv B)) = refl
state_held image B r (Head A) = refl
state_held image B r (Head B) = refl

-- flow control does not see what a head remembers
pub ready_state : {K : Type 0} (means : Meaning K) (x y : Image K) (e : End) (r : Record) (enabled : Enabled) → y ≡ with_state x e r → IsReady means x enabled → IsReady means y enabled
ready_state means x y e r enabled is ready = rw is (ready_same means x (with_state x e r) enabled (state_ways x e r) (state_marks x e r) (turns_with means x e (in_state (end_of x e) r) refl) (state_held x e r) ready)

abbrev broken_off : {K : Type 0} → Image K → Image K
broken_off image = record image { broken = true }

broken_ways : {K : Type 0} (image : Image K) → SameWays image (broken_off image)
broken_ways image =
    record {
      driver = refl;
      is_open = λ e. elim e as (λ e. (end_of (broken_off image) e).is_open ≡ (end_of image e).is_open) [ A ↦ refl | B ↦ refl ];
      drv_marks = λ e. elim e as (λ e. (end_of (broken_off image) e).drv_marks ≡ (end_of image e).drv_marks) [ A ↦ refl | B ↦ refl ];
      modules = λ e. elim e as (λ e. modules_at (broken_off image) e ≡ modules_at image e) [ A ↦ refl | B ↦ refl ];
    }

broken_marks : {K : Type 0} (image : Image K) → SameHeadMarks image (broken_off image)
broken_marks image A = refl
broken_marks image B = refl

broken_held : {K : Type 0} (image : Image K) (q : NextQueue) → held_by (broken_off image) q ≡ held_by image q
broken_held image (Of (Place.Wr A i)) = refl
broken_held image (Of (Place.Wr B i)) = refl
broken_held image (Of (Place.Rd A i)) = refl
broken_held image (Of (Place.Rd B i)) = refl
broken_held image (Of (Place.Drv A)) = refl
broken_held image (Of (Place.Drv B)) = refl
broken_held image (Head A) = refl
broken_held image (Head B) = refl

broken_turns : {K : Type 0} (means : Meaning K) (image : Image K) (p : Place) → turn_of means (broken_off image) p ≡ turn_of means image p
broken_turns means image (Place.Wr A i) = refl
broken_turns means image (Place.Wr B i) = refl
broken_turns means image (Place.Rd A i) = refl
broken_turns means image (Place.Rd B i) = refl
broken_turns means image (Place.Drv e) = refl

-- nor that the chain is broken
pub ready_broken : {K : Type 0} (means : Meaning K) (x y : Image K) (enabled : Enabled) → y ≡ record x { broken = true } → IsReady means x enabled → IsReady means y enabled
ready_broken means x y enabled is ready = rw is (ready_same means x (broken_off x) enabled (broken_ways x) (broken_marks x) (broken_turns means x) (broken_held x) ready)

-- a queue that has as many messages as before is as before
pub ready_still_all : {K : Type 0} (means : Meaning K) (x y : Image K) (queue : NextQueue) (enabled : Enabled) → DiffersIn x y queue → TurnsKnown means x y enabled.run → length (held_by y queue) ≡ length (held_by x queue) → IsReady means x enabled → IsReady means y enabled
ready_still_all means x y queue enabled d turns same r =
    let s = ways_of_same x y d.same in
    let held : (q : NextQueue) → held_by y q ≡ held_by x q = λ q. ⊎_elim
    (λ (e : queue_number q ≡ queue_number queue). let is = number_once q queue e in rw is (d.shift.still same))
    (λ (ne : queue_number q ≡ queue_number queue → ⊥). d.others q (λ e. ne (ap queue_number e)))
    (cases_eq (queue_number q) (queue_number queue)) in
    record {
      stands = λ p some out.
          let own = offer_same means x y p s (turns p some out) (held (Of p)) in
          let w = r.stands p (sym (ap is_some own) ∙ some) out in
          record {
            queue = w.queue;
            next = next_same x y p s ∙ w.next;
            wants = w.wants;
            rests = due_frame means x y p s own (λ q _. (marks_same x y q s d.head_marks, held q)) ∙ w.rests;
          };
    }

-- both places of a module were enabled where their turns changed, and no other turn changed
pub turns_known : {K : Type 0} (means : Meaning K) (x y : Image K) (run : RunList) (a b : Place) → ((p : Place) → p ≢ a → p ≢ b → turn_of means y p ≡ turn_of means x p) → (is_some (offer_of means y a) ≡ true → is_enabled run a ≡ false → turn_of means y a ≡ turn_of means x a) → (is_some (offer_of means y b) ≡ true → is_enabled run b ≡ false → turn_of means y b ≡ turn_of means x b) → TurnsKnown means x y run
turns_known means x y run a b others one two =
    λ p some out. ⊎_elim
    (λ (e : place_number p ≡ place_number a). let is : p ≡ a = some_of (number_once (Of p) (Of a) e) in rw is (one (ap (λ k. is_some (offer_of means y k)) (sym is) ∙ some) (ap (is_enabled run) (sym is) ∙ out)))
    (λ (ne : place_number p ≡ place_number a → ⊥). ⊎_elim
    (λ (e : place_number p ≡ place_number b). let is : p ≡ b = some_of (number_once (Of p) (Of b) e) in rw is (two (ap (λ k. is_some (offer_of means y k)) (sym is) ∙ some) (ap (is_enabled run) (sym is) ∙ out)))
    (λ (nf : place_number p ≡ place_number b → ⊥). others p (λ e. ne (ap place_number e)) (λ e. nf (ap place_number e)))
    (cases_eq (place_number p) (place_number b)))
    (cases_eq (place_number p) (place_number a))

or_left_true : (a b : Bool) → b ≡ false → (a || b) ≡ true → a ≡ true
or_left_true true b n h = refl
or_left_true false b n h = differ (false ≡ true) (sym h ∙ n)

before_with : (items : List ℕ) (m n : ℕ) → n ≢ m → is_listed n (with_place items m) ≡ true → is_listed n items ≡ true
before_with items m n ne h =
    or_left_true (is_listed n items) (nat_eq n m) (apart_number n m ne) (sym (stands_with n m items (is_listed m items) refl) ∙ h)

in_numbers : (p : Place) (ps : List Place) → IsIn p ps → is_listed (place_number p) (map place_number ps) ≡ true
in_numbers p [] h = absurd h
in_numbers p (x ∷ xs) (inl e) = or_left (nat_eq (place_number p) (place_number x)) (is_listed (place_number p) (map place_number xs)) (same_number (place_number p) (place_number x) (ap place_number e))
in_numbers p (x ∷ xs) (inr h) = or_right (nat_eq (place_number p) (place_number x)) (is_listed (place_number p) (map place_number xs)) (in_numbers p xs h)

-- a place that is there is enabled
pub places_with : {K : Type 0} (image : Image K) (items : List ℕ) (p : Place) → is_place image p ≡ true → ArePlaces image items → ArePlaces image (with_place items (place_number p))
places_with image items p there all =
    record {
      there = λ n h.
          ⊎_elim
          (λ (e : n ≡ place_number p). let back : place_of n ≡ p = ap place_of e ∙ place_back p in (ap place_number back ∙ sym e, ap (is_place image) back ∙ there))
          (λ (ne : n ≡ place_number p → ⊥). all.there n (before_with items (place_number p) n ne h))
          (cases_eq n (place_number p));
    }

-- so is each of those that are left
pub places_rest : {K : Type 0} (image : Image K) (n : ℕ) (rest : List ℕ) → ArePlaces image (n ∷ rest) → ArePlaces image rest
places_rest image n rest all = record { there = λ k h. all.there k (or_right (nat_eq k n) (is_listed k rest) h) }

-- no message changes which places are there
pub places_same : {K : Type 0} (x y : Image K) (items : List ℕ) → SameWays x y → ArePlaces x items → ArePlaces y items
places_same x y items s all =
    record { there = λ n h. let a = all.there n h in (a.0, place_same x y (place_of n) s ∙ a.1) }

pub places_state : {K : Type 0} (x y : Image K) (e : End) (r : Record) (items : List ℕ) → y ≡ with_state x e r → ArePlaces x items → ArePlaces y items
places_state x y e r items is all = rw is (places_same x (with_state x e r) items (state_ways x e r) all)

pub places_broken : {K : Type 0} (x y : Image K) (items : List ℕ) → y ≡ record x { broken = true } → ArePlaces x items → ArePlaces y items
places_broken x y items is all = rw is (places_same x (broken_off x) items (broken_ways x) all)

pub places_none : {K : Type 0} (image : Image K) → ArePlaces image []
places_none image = record { there = λ n h. differ _ (sym h) }

-- the first place is there, and was enabled again
pub places_moves : {K : Type 0} (image : Image K) (n : ℕ) (old rest new : List ℕ) → old ≡ n ∷ rest → new ≡ with_place rest (place_number (place_of n)) → ArePlaces image old → ArePlaces image new
places_moves image n old rest new before items all =
    let here : is_listed n old ≡ true = ap (is_listed n) before ∙ or_left (nat_eq n n) (is_listed n rest) (same_number n n refl) in
    rw items (places_with image rest (place_of n) (all.there n here).1 (places_rest image n rest (rw (← before) all)))

-- enabled places are at most as many as there are
pub places_few : {K : Type 0} (image : Image K) (n : ℕ) (items : List ℕ) → AreOnce n items → ArePlaces image items → length items ≤ place_count image
places_few image n items once all =
    let few : length items ≤ length (map place_number (places_of image)) =
    length-le_from_is_member nat_eq_equiv items (map place_number (places_of image)) once.once
    (λ k h. let a = all.there k h in ap (λ j. is_listed j (map place_number (places_of image))) (sym a.0) ∙ in_numbers (place_of k) (places_of image) (place_in image (place_of k) a.1)) in
    let less = simp length-map at few in
    less

-- a place that was enabled is
pub enabled_with : (run : RunList) (items : List ℕ) (p : Place) → run.items ≡ with_place items (place_number p) → is_enabled run p ≡ true
enabled_with run items p is =
    ap (is_listed (place_number p)) is ∙ stands_with (place_number p) (place_number p) items (is_listed (place_number p) items) refl
    ∙ or_right (is_listed (place_number p) items) (nat_eq (place_number p) (place_number p)) (same_number (place_number p) (place_number p) refl)
