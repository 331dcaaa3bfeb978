-- The queue that comes next after a place's, by name (q_next of queue(9S), past modules without a service
-- procedure).
use Rattle.std.specs.Prelude.{◌≡◌, ◌+◌, ◌≤◌, ℕ, Bool, Option, Some, None, List, if◌then◌else◌}
use Rattle.strm_msg.specs.declared.words.End.{End}
use Rattle.strm_msg.specs.declared.words.Side.TheVariants.{Rd, Wr}
use Rattle.strm_msg.specs.Marks.{WaterMarks}
use Rattle.strm_module.specs.declared.driver.TheConstants.{MOST_MODULES}
use Rattle.strm_module.specs.declared.driver.Driver.{Driver}
use Rattle.strm_module.specs.declared.driver.Driver.TheVariants.{Echo, Loop, Line, Wire}
use Rattle.strm_module.specs.Driver.{partner}
use Rattle.strm_chain_end.specs.Modules.{Identity, identities_of}
use Rattle.strm_chain_end.specs.Canput.{Fill, fill_with}
use Rattle.strm_chain_end.specs.Next.{marks_at, identity_at, next_below, next_above}
use Rattle.strm_chain_ends.specs.declared.place.Place.{Place}
use Rattle.strm_chain_ends.specs.declared.place.Place.TheVariants as Places
use Rattle.strm_chain_ends.specs.declared.place.NextQueue.{NextQueue}
use Rattle.strm_chain_ends.specs.declared.place.NextQueue.TheVariants.{Of, Head}
use Rattle.strm_chain_ends.specs.Held.{held_by}
use Rattle.strm_chain_ends.specs.Image.{Image, end_of, count_of}

-- the modules of an end
abbrev pub modules_at : {K : Type 0} → Image K → End → List Identity
modules_at image e = identities_of (end_of image e).modules

-- the queue below the lowest write queue: the driver's list, but a line consumes the messages that come
abbrev pub past_writes : Driver → End → Option NextQueue
past_writes Line e = None
past_writes Echo e = Some (Of (Places.Drv e))
past_writes Loop e = Some (Of (Places.Drv e))
past_writes Wire e = Some (Of (Places.Drv e))

abbrev pub next_down : Driver → End → Option ℕ → Option NextQueue
next_down d e (Some i) = Some (Of (Places.Wr e i))
next_down d e None = past_writes d e

-- the queue above the topmost read queue: the head's list, but a closed end drops the messages that come
abbrev pub next_up : Bool → End → Option ℕ → Option NextQueue
next_up is_open e (Some i) = Some (Of (Places.Rd e i))
next_up is_open e None = if is_open then Some (Head e) else None

-- the queue in which a message that leaves a place comes to wait, if it does
abbrev pub next_of : {K : Type 0} → Image K → Place → Option NextQueue
next_of image (Place.Wr e i) = next_down image.driver e (next_below (modules_at image e) i)
next_of image (Place.Drv e) =
    let p = partner image.driver e in next_up (end_of image p).is_open p (next_above (modules_at image p) (count_of image p + 1))
next_of image (Place.Rd e i) = next_up (end_of image e).is_open e (next_above (modules_at image e) i)

-- the marks of a queue, where it is there (proofs alone cite it)
abbrev pub marks_by : {K : Type 0} → Image K → NextQueue → Option WaterMarks
marks_by image (Of (Place.Wr e i)) = marks_at Wr (identity_at (modules_at image e) i)
marks_by image (Of (Place.Drv e)) = Some (end_of image e).drv_marks
marks_by image (Of (Place.Rd e i)) = marks_at Rd (identity_at (modules_at image e) i)
marks_by image (Head e) = Some (end_of image e).head_marks

-- a queue as flow control sees it (proofs alone cite it)
abbrev pub fill_by : {K : Type 0} → Image K → Option NextQueue → Option Fill
fill_by image None = None
fill_by image (Some queue) = fill_with (marks_by image queue) (held_by image queue)

-- a queue of one of the modules that an end can have, or of a head or a driver
abbrev pub IsCounted : NextQueue → Type 0
IsCounted (Of (Place.Wr e i)) = i ≤ MOST_MODULES
IsCounted (Of (Place.Rd e i)) = i ≤ MOST_MODULES
IsCounted (Of (Place.Drv e)) = Unit {0}
IsCounted (Head e) = Unit {0}

-- the same queues are in the same places, and those of modules and drivers have the same marks (proofs alone
-- cite it)
pub record SameWays {K : Type 0} (old new : Image K) : Type 0 where
  pub driver : new.driver ≡ old.driver
  pub is_open : (e : End) → (end_of new e).is_open ≡ (end_of old e).is_open
  pub drv_marks : (e : End) → (end_of new e).drv_marks ≡ (end_of old e).drv_marks
  pub modules : (e : End) → modules_at new e ≡ modules_at old e
