-- The messages that the queues of a stream hold, and changes of one of them.
use Rattle.std.specs.Prelude.{◌≡◌, ◌≢◌, ◌<◌, ◌≤◌, ℕ, Bool, true, false, List, length}
use Rattle.strm_msg.specs.Message.{Msg}
use Rattle.strm_msg.specs.declared.kind.MsgKind.{MsgKind}
use Rattle.strm_msg.specs.declared.kind.MsgKind.TheVariants.{MSetopts, MFlush}
use Rattle.strm_msg.specs.declared.words.Side.TheVariants.{Rd, Wr}
use Rattle.strm_msg.specs.declared.words.End.{End}
use Rattle.strm_msg.specs.declared.words.Side.{Side}
use Rattle.strm_chain_ends.specs.declared.place.Place.TheVariants as Places
use Rattle.strm_queue.specs.Queue.{held_of}
use Rattle.strm_chain_end.specs.End.{list_at}
use Rattle.strm_chain_end.specs.Modules.{HoldsCalm}
use Rattle.strm_chain_ends.specs.declared.place.Place.{Place}
use Rattle.strm_chain_ends.specs.declared.place.NextQueue.{NextQueue}
use Rattle.strm_chain_ends.specs.declared.place.NextQueue.TheVariants.{Of, Head}
use Rattle.strm_chain_ends.specs.Image.{Image, end_of}
use Rattle.strm_chain_ends.specs.Same.{SameModules}

-- the messages of a queue
abbrev pub held_by : {K : Type 0} → Image K → NextQueue → List Msg
held_by image (Of (Place.Wr e i)) = list_at (end_of image e) i Wr
held_by image (Of (Place.Drv e)) = (end_of image e).drv
held_by image (Of (Place.Rd e i)) = list_at (end_of image e) i Rd
held_by image (Head e) = (end_of image e).head

-- ---- definitions that no public clause cites

-- the place of a queue of a module
abbrev pub module_place : Side → End → ℕ → Place
module_place Rd e i = Places.Rd e i
module_place Wr e i = Places.Wr e i

-- a list that changes its length if it changes, and that holds as much as before in each band if it is longer
pub record IsShift (old new : List Msg) : Type 0 where
  pub still : length new ≡ length old → new ≡ old
  pub fuller : length old < length new → (b : ℕ) → held_of old b ≤ held_of new b

-- the heads have the same marks
abbrev pub SameHeadMarks : {K : Type 0} → Image K → Image K → Type 0
SameHeadMarks old new = (e : End) → (end_of new e).head_marks ≡ (end_of old e).head_marks

-- only the messages of one queue differ
pub record DiffersIn {K : Type 0} (old new : Image K) (queue : NextQueue) : Type 0 where
  pub same : SameModules old new
  pub head_marks : SameHeadMarks old new
  pub others : (other : NextQueue) → other ≢ queue → held_by new other ≡ held_by old other
  pub shift : IsShift (held_by old queue) (held_by new queue)

-- whether a message is a flush, which may change both queues of a module
abbrev pub is_flush : MsgKind → Bool
is_flush (MFlush r w band) = true
is_flush kind = false

-- whether a message sets options, of which the marks of a head are one
abbrev pub sets_options : MsgKind → Bool
sets_options (MSetopts mode prot marks) = true
sets_options kind = false

-- no queue differs, but the marks of one head may (proofs alone cite it)
pub record SetsMarks {K : Type 0} (old new : Image K) (e : End) : Type 0 where
  pub same : SameModules old new
  pub held : (queue : NextQueue) → held_by new queue ≡ held_by old queue
  pub others : (other : End) → other ≢ e → (end_of new other).head_marks ≡ (end_of old other).head_marks

-- no high message waits below the heads
pub record AreCalm {K : Type 0} (image : Image K) : Type 0 where
  pub on_a : HoldsCalm image.a
  pub on_b : HoldsCalm image.b
