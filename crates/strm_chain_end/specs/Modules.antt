-- The parts of an end that no message changes: the modules that are there and where they queue, and the ioctl
-- that is awaited. And no high message waits in a queue.
use Rattle.std.specs.Prelude.{◌≡◌, ◌<◌, ◌&&◌, ◌||◌, not, ℕ, nat_lt, Bool, true, false, Option, Some, None, List, [], ◌∷◌, map}
use Rattle.std.specs.List.{list_all}
use Rattle.strm_msg.specs.Kind.{is_high}
use Rattle.strm_msg.specs.Message.{Msg}
use Rattle.strm_msg.specs.Marks.{WaterMarks}
use Rattle.strm_module.specs.Calm.{is_calm}
use Rattle.strm_module.specs.declared.shape.Shape.{Shape}
use Rattle.strm_chain_end.specs.Pair.{QueuePair}
use Rattle.strm_chain_end.specs.End.{EndState}
use Rattle.strm_chain_end.specs.declared.record.Record.{Record}

-- the identity of a module: its serial, its name, the marks of the sides on which it queues, and whether the
-- service procedures are the program's
pub record Identity : Type 0 where
  pub serial : ℕ
  pub name : List ℕ
  pub rd : Option WaterMarks
  pub wr : Option WaterMarks
  pub noenable : Bool

abbrev pub identity_of : {K : Type 0} → Shape K → Identity
identity_of s = record { serial = s.serial; name = s.name.items; rd = s.rd; wr = s.wr; noenable = s.noenable }

-- the modules of an end, topmost first
abbrev pub identities_of : {K : Type 0} → List (QueuePair K) → List Identity
identities_of modules = map (λ s. identity_of s.shape) modules

-- the next id, the awaited one and the one that is asked for later stay. Where none is awaited no answer is
-- kept that was not kept before, nor where none is asked for
pub record SameIds (old new : Record) : Type 0 where
  pub next : new.next ≡ old.next
  pub pending : new.pending ≡ old.pending
  pub kept : old.pending ≡ None → new.kept ≡ old.kept
  pub asked : new.asked ≡ old.asked
  pub answer : old.asked ≡ None → new.answer ≡ old.answer

-- an end that is open or closed as before, over the same driver's marks, with the same modules and the same
-- ids; the head's marks are set by messages
pub record SameEnd {K : Type 0} (old new : EndState K) : Type 0 where
  pub is_open : new.is_open ≡ old.is_open
  pub drv_marks : new.drv_marks ≡ old.drv_marks
  pub modules : identities_of new.modules ≡ identities_of old.modules
  pub ids : SameIds old.state new.state

-- a low mark is below its high one
abbrev pub is_fit : Option WaterMarks → Bool
is_fit None = true
is_fit (Some marks) = nat_lt marks.lo marks.hi

abbrev pub is_fit_module : Identity → Bool
is_fit_module i = is_fit i.rd && is_fit i.wr

-- the modules' marks are fit
abbrev pub are_fit : {K : Type 0} → List (QueuePair K) → Bool
are_fit modules = list_all is_fit_module (identities_of modules)

-- all marks of an end are fit
pub record IsFitEnd {K : Type 0} (e : EndState K) : Type 0 where
  pub head : e.head_marks.lo < e.head_marks.hi
  pub drv : e.drv_marks.lo < e.drv_marks.hi
  pub modules : are_fit e.modules ≡ true

-- no high message
abbrev pub are_ordinary : List Msg → Bool
are_ordinary q = list_all (λ m. not (is_high m.kind)) q

-- no flush, and no error, which a head answers with one
abbrev pub are_calm : List Msg → Bool
are_calm q = list_all (λ m. is_calm m.kind) q

-- no message at all
abbrev pub is_nothing : List Msg → Bool
is_nothing [] = true
is_nothing (m ∷ q) = false

-- a queue holds ordinary messages alone, or any where the service procedures are the program's; where there
-- is no queue no message waits
abbrev pub waits_in : Bool → Option WaterMarks → List Msg → Bool
waits_in noenable None q = is_nothing q
waits_in noenable (Some marks) q = noenable || are_ordinary q

abbrev pub waits_well : {K : Type 0} → QueuePair K → Bool
waits_well s = waits_in s.shape.noenable s.shape.rd s.rd && waits_in s.shape.noenable s.shape.wr s.wr

-- no high message waits in a queue that the stream serves, and none at all where a module has no queue; no
-- flush or error waits in the driver's list
pub record HoldsCalm {K : Type 0} (e : EndState K) : Type 0 where
  pub modules : list_all waits_well e.modules ≡ true
  pub driver : are_calm e.drv ≡ true
