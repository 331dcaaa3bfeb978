-- The places that are enabled, and those that wait for a queue to drain (Programmer's Guide: STREAMS, "Flow
-- Control": back-enabling; qenable(9F), QENAB and QWANTW of queue(9S)).
use Rattle.std.specs.Prelude.{◌≡◌, ◌≢◌, ℕ, Bool, true, false, Option, Some, None, List, is_some, slice_get, slice_set}
use Rattle.strm_queue.specs.Run.{RunList, is_listed}
use Rattle.strm_chain_ends.specs.declared.place.Place.{Place}
use Rattle.strm_chain_ends.specs.declared.place.NextQueue.{NextQueue}
use Rattle.strm_module.specs.Kinds.{Meaning}
use Rattle.strm_chain_ends.specs.Image.{Image, Rooms}
use Rattle.strm_chain_ends.specs.Flow.{offer_of, turn_of, is_due}
use Rattle.strm_chain_ends.specs.Next.{next_of}
use Rattle.strm_chain_ends.specs.Count.{is_place}
use Rattle.strm_chain.specs.Number.{queue_number, place_number, place_of}

-- a chain: its image, its rooms, and the places that are enabled
pub record ChainValue (K : Type 0) : Type 0 where
  pub image : Image K
  pub rooms : Rooms
  pub run : RunList

abbrev pub is_enabled : RunList → Place → Bool
is_enabled run place = is_listed (place_number place) run.items

-- each place that must move is enabled
abbrev pub DueAreEnabled : {K : Type 0} → Meaning K → Image K → RunList → Type 0
DueAreEnabled means image run = (place : Place) → is_due means image place ≡ true → is_enabled run place ≡ true

-- the places that are enabled, and for each queue the place that found it full
pub record Enabled : Type 0 where
  pub run : RunList
  pub wanted : List (Option Place)

-- ---- definitions that no public clause cites

-- a place that must not move yet, and is known to the queue that it waits for
pub record IsWaiting {K : Type 0} (means : Meaning K) (image : Image K) (wanted : List (Option Place)) (place : Place) : Type 0 where
  pub queue : NextQueue
  pub next : next_of image place ≡ Some queue
  pub wants : slice_get wanted (queue_number queue) ≡ Some (Some place)
  pub rests : is_due means image place ≡ false

-- no place is forgotten: one that holds a message is enabled, or waits
abbrev pub IsEnabledOrWaiting : {K : Type 0} → Meaning K → Image K → Enabled → Place → Type 0
IsEnabledOrWaiting means image enabled place =
    is_some (offer_of means image place) ≡ true → is_enabled enabled.run place ≡ false → IsWaiting means image enabled.wanted place

pub record IsReady {K : Type 0} (means : Meaning K) (image : Image K) (enabled : Enabled) : Type 0 where
  pub stands : (place : Place) → IsEnabledOrWaiting means image enabled place

-- each place that is enabled is there
pub record ArePlaces {K : Type 0} (image : Image K) (items : List ℕ) : Type 0 where
  pub there : (n : ℕ) → is_listed n items ≡ true → (place_number (place_of n) ≡ n) × (is_place image (place_of n) ≡ true)

-- the same where a queue was taken from: whether the place that waits for it must move is not known yet
pub record IsWaitingBut {K : Type 0} (means : Meaning K) (image : Image K) (wanted : List (Option Place)) (taken : NextQueue) (place : Place) : Type 0 where
  pub queue : NextQueue
  pub next : next_of image place ≡ Some queue
  pub wants : slice_get wanted (queue_number queue) ≡ Some (Some place)
  pub rests : queue ≢ taken → is_due means image place ≡ false

pub record IsReadyExcept {K : Type 0} (means : Meaning K) (image : Image K) (taken : NextQueue) (enabled : Enabled) : Type 0 where
  pub stands : (place : Place) → is_some (offer_of means image place) ≡ true → is_enabled enabled.run place ≡ false → IsWaitingBut means image enabled.wanted taken place

-- a place is known to the queue that is next, if there is one
abbrev pub marked_wanted : Option NextQueue → Place → List (Option Place) → List (Option Place)
marked_wanted None place wanted = wanted
marked_wanted (Some queue) place wanted = slice_set wanted (queue_number queue) (Some place)

abbrev pub MarksWanted : {K : Type 0} → Image K → Place → List (Option Place) → List (Option Place) → Type 0
MarksWanted image place old new = new ≡ marked_wanted (next_of image place) place old

-- the turn of the service of a place is as before, unless that place is enabled
abbrev pub TurnsKnown : {K : Type 0} → Meaning K → Image K → Image K → RunList → Type 0
TurnsKnown means old new run = (place : Place) → is_some (offer_of means new place) ≡ true → is_enabled run place ≡ false → turn_of means new place ≡ turn_of means old place
