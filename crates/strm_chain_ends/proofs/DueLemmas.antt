-- Whether a place must move rests on its first message and on the queue that is next.
use Rattle.std.proofs.Common.{◌≡◌, ◌≤◌, ℕ, ◌||◌, Bool, true, false, Option, Some, None, List, refl, sym, ◌∙◌, ap, arith, is_some}
use Rattle.std.proofs.lemmas.Bool.Decides.{nat_tests}
use Rattle.strm_msg.specs.Message.{Msg}
use Rattle.strm_msg.specs.Marks.{WaterMarks}
use Rattle.strm_module.specs.Kinds.{Meaning}
use Rattle.strm_chain_end.specs.declared.offer.Offer.{Offer}
use Rattle.strm_queue.specs.Queue.{held_of}
use Rattle.strm_chain_end.specs.Canput.{Fill, fill_with, slack_in}
use Rattle.strm_chain_ends.specs.declared.place.Place.{Place}
use Rattle.strm_chain_ends.specs.declared.place.NextQueue.{NextQueue}
use Rattle.strm_chain_ends.specs.Image.{Image}
use Rattle.strm_chain_ends.specs.Path.{ahead}
use Rattle.strm_chain_ends.specs.Flow.{offer_of, may_front, may, due_front, is_due}
use Rattle.strm_chain_ends.specs.Held.{held_by}
use Rattle.strm_chain_ends.specs.Next.{next_of, marks_by, fill_by, SameWays}
use Rattle.strm_chain_ends.proofs.NextLemmas.{ahead_is, next_same}

abbrev due_by : Option Fill → Option Offer → Bool
due_by queue None = false
due_by queue (Some m) = m.is_high || slack_in queue m.band

due_is : {K : Type 0} (image : Image K) (p : Place) (front : Option Offer) → due_front image p front ≡ due_by (ahead image p) front
due_is image p None = refl
due_is image p (Some m) = refl

-- a queue has the same marks and messages in two images
abbrev pub IsLike : {K : Type 0} → Image K → Image K → NextQueue → Type 0
IsLike x y q = (marks_by y q ≡ marks_by x q) × (held_by y q ≡ held_by x q)

-- the queue that is next, seen in two images
fill_same : {K : Type 0} (x y : Image K) (o : Option NextQueue) → ((q : NextQueue) → o ≡ Some q → IsLike x y q) → fill_by y o ≡ fill_by x o
fill_same x y None h = refl
fill_same x y (Some q) h = ap (λ m. fill_with m (held_by y q)) (h q refl).0 ∙ ap (fill_with (marks_by x q)) (h q refl).1

-- a place must move as before where neither its queue nor the next one changed
pub due_frame : {K : Type 0} (means : Meaning K) (x y : Image K) (p : Place) → SameWays x y → offer_of means y p ≡ offer_of means x p → ((q : NextQueue) → next_of x p ≡ Some q → IsLike x y q) → is_due means y p ≡ is_due means x p
due_frame means x y p s own next =
    due_is y p (offer_of means y p)
    ∙ ap (due_by (ahead y p)) own
    ∙ ap (λ o. due_by o (offer_of means x p)) (ahead_is y p ∙ ap (fill_by y) (next_same x y p s) ∙ fill_same x y (next_of x p) next ∙ sym (ahead_is x p))
    ∙ sym (due_is x p (offer_of means x p))

slack_less : (marks : Option WaterMarks) (old new : List Msg) (b : ℕ) → held_of old b ≤ held_of new b → slack_in (fill_with marks old) b ≡ false → slack_in (fill_with marks new) b ≡ false
slack_less None old new b le h = h
slack_less (Some marks) old new b le h = grind (arith, nat_tests)

or_less : (a b c : Bool) → (b ≡ false → c ≡ false) → (a || b) ≡ false → (a || c) ≡ false
or_less true b c k h = h
or_less false b c k h = k h

due_less : (p q : Option Fill) (front : Option Offer) → ((b : ℕ) → slack_in p b ≡ false → slack_in q b ≡ false) → due_by p front ≡ false → due_by q front ≡ false
due_less p q None k h = h
due_less p q (Some m) k h = or_less (m.is_high) (slack_in p m.band) (slack_in q m.band) (k m.band) h

-- a place that had not to move has not to where the next queue holds more
pub due_fuller : {K : Type 0} (means : Meaning K) (x y : Image K) (p : Place) (q : NextQueue) → SameWays x y → offer_of means y p ≡ offer_of means x p → next_of x p ≡ Some q → marks_by y q ≡ marks_by x q → ((b : ℕ) → held_of (held_by x q) b ≤ held_of (held_by y q) b) → is_due means x p ≡ false → is_due means y p ≡ false
due_fuller means x y p q s own next marks more rests =
    let before : ahead x p ≡ fill_with (marks_by x q) (held_by x q) = ahead_is x p ∙ ap (fill_by x) next in
    let after : ahead y p ≡ fill_with (marks_by x q) (held_by y q) = ahead_is y p ∙ ap (fill_by y) (next_same x y p s ∙ next) ∙ ap (λ m. fill_with m (held_by y q)) marks in
    due_is y p (offer_of means y p)
    ∙ ap (due_by (ahead y p)) own
    ∙ ap (λ o. due_by o (offer_of means x p)) after
    ∙ due_less (fill_with (marks_by x q) (held_by x q)) (fill_with (marks_by x q) (held_by y q)) (offer_of means x p)
    (λ b h. slack_less (marks_by x q) (held_by x q) (held_by y q) b (more b) h)
    (sym (ap (λ o. due_by o (offer_of means x p)) before) ∙ sym (due_is x p (offer_of means x p)) ∙ rests)

-- a place that must move holds a message
due_holds_front : {K : Type 0} (image : Image K) (p : Place) (front : Option Offer) → due_front image p front ≡ true → is_some front ≡ true
due_holds_front image p None h = cc
due_holds_front image p (Some m) h = refl

pub due_holds : {K : Type 0} (means : Meaning K) (image : Image K) (p : Place) → is_due means image p ≡ true → is_some (offer_of means image p) ≡ true
due_holds means image p h = due_holds_front image p (offer_of means image p) h

or_true : (b : Bool) → (b || true) ≡ true
or_true true = refl
or_true false = refl

may_next_front : {K : Type 0} (image : Image K) (p : Place) (front : Option Offer) → ahead image p ≡ None → is_some front ≡ true → may_front image p front ≡ true
may_next_front image p None e h = cc
may_next_front image p (Some m) e h = rw e (or_true (m.is_high))

-- a place that holds a message and may not move has a next queue
pub may_unless_next : {K : Type 0} (means : Meaning K) (image : Image K) (p : Place) → next_of image p ≡ None → is_some (offer_of means image p) ≡ true → may means image p ≡ true
may_unless_next means image p none h = may_next_front image p (offer_of means image p) (ahead_is image p ∙ ap (fill_by image) none) h
