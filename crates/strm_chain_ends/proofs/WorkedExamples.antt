-- Small streams, and what the definitions compute at them.
use Rattle.std.proofs.Common.{◌≡◌, true, false, Option, Some, None, List, [], ◌∷◌, refl}
use Rattle.strm_msg.specs.Message.{Msg, data_msg, bare}
use Rattle.strm_msg.specs.declared.kind.MsgKind.TheVariants.{MFlush}
use Rattle.strm_msg.specs.declared.words.End.TheVariants.{A, B}
use Rattle.strm_msg.specs.Marks.{WaterMarks}
use Rattle.strm_module.specs.declared.kind.Kind.{Kind}
use Rattle.strm_module.specs.declared.kind.Kind.TheVariants.{Pass}
use Rattle.strm_module.specs.declared.driver.Driver.{Driver}
use Rattle.strm_module.specs.declared.driver.Driver.TheVariants.{Echo, Loop, Line, Wire}
use Rattle.strm_chain_end.specs.Pair.{QueuePair}
use Rattle.strm_chain_end.specs.End.{EndState}
use Rattle.strm_chain_end.specs.Change.{fresh_record}
use Rattle.strm_chain_ends.specs.declared.place.Place.TheVariants as Place
use Rattle.strm_chain_ends.specs.declared.place.NextQueue.TheVariants.{Of, Head}
use Rattle.strm_chain_ends.specs.Image.{Image, driven}
use Rattle.strm_module.specs.Builtin.{builtin}
use Rattle.strm_chain_ends.specs.Flow.{may, is_due}
use Rattle.strm_chain_ends.specs.Next.{next_of}
use Rattle.strm_chain_ends.specs.Count.{place_count, message_count}

abbrev five : WaterMarks
five = record { hi = 5; lo = 4 }

abbrev module_with : Option WaterMarks → Option WaterMarks → QueuePair Kind
module_with rd wr =
    record { shape = record { serial = 1; name = record { items = 109 ∷ [] }; rd = rd; wr = wr; noenable = false; kind = Pass }; rd = []; wr = [] }

abbrev queued : QueuePair Kind
queued = module_with (Some five) (Some five)

abbrev passing : QueuePair Kind
passing = module_with None None

abbrev end_with : List Msg → List (QueuePair Kind) → List Msg → EndState Kind
end_with head modules drv =
    record { is_open = true; head_marks = five; head = head; state = fresh_record; modules = modules; drv_marks = five; drv = drv }

abbrev stream : Driver → EndState Kind → EndState Kind → Image Kind
stream d a b = record { driver = d; broken = false; a = a; b = b }

abbrev empty : List (QueuePair Kind) → EndState Kind
empty modules = end_with [] modules []

abbrev bytes : List Msg
bytes = data_msg 0 (97 ∷ 97 ∷ 97 ∷ 97 ∷ 97 ∷ []) ∷ []

-- four bytes are the low mark
abbrev four : List Msg
four = data_msg 0 (97 ∷ 97 ∷ 97 ∷ 97 ∷ []) ∷ []

abbrev waiting : QueuePair Kind
waiting = record queued { wr = bytes }

abbrev mixed : Image Kind
mixed = stream Echo (empty (queued ∷ passing ∷ queued ∷ [])) (empty [])

-- going down, modules without queues are passed by, then comes the driver's list
next_write_queue : next_of mixed (Place.Wr A 1) ≡ Some (Of (Place.Wr A 3))
next_write_queue = refl

last_write_queue : next_of mixed (Place.Wr A 3) ≡ Some (Of (Place.Drv A))
last_write_queue = refl

-- what an echo's driver sends waits in the lowest read queue, and above the topmost one is the head
driver_of_an_echo : next_of mixed (Place.Drv A) ≡ Some (Of (Place.Rd A 3))
driver_of_an_echo = refl

topmost_read_queue : next_of mixed (Place.Rd A 1) ≡ Some (Head A)
topmost_read_queue = refl

-- a loop's driver sends up the other end, and a line consumes what is written
driver_of_a_loop : next_of (stream Loop (empty []) (empty (queued ∷ []))) (Place.Drv A) ≡ Some (Of (Place.Rd B 1))
driver_of_a_loop = refl

write_side_of_a_line : next_of (stream Line (empty (queued ∷ [])) (empty [])) (Place.Wr A 1) ≡ None
write_side_of_a_line = refl

-- what is written to a wire waits in its list at end A until it is taken; that list is no place, and moves by
-- no service
write_side_of_a_wire : next_of (stream Wire (empty (queued ∷ [])) (empty [])) (Place.Wr A 1) ≡ Some (Of (Place.Drv A))
write_side_of_a_wire = refl

behind_a_full_wire : may builtin (stream Wire (end_with [] (waiting ∷ []) bytes) (empty [])) (Place.Wr A 1) ≡ false
behind_a_full_wire = refl

behind_a_slack_wire : is_due builtin (stream Wire (end_with [] (waiting ∷ []) four) (empty [])) (Place.Wr A 1) ≡ true
behind_a_slack_wire = refl

outlet_of_a_wire : may builtin (stream Wire (end_with [] [] bytes) (empty [])) (Place.Drv A) ≡ false
outlet_of_a_wire = refl

-- what came in waits in the list of the far end, and goes up end A
input_of_a_wire : next_of (stream Wire (empty (queued ∷ [])) (empty [])) (Place.Drv B) ≡ Some (Of (Place.Rd A 1))
input_of_a_wire = refl

places_of_a_wire : place_count (stream Wire (empty (queued ∷ [])) (empty [])) ≡ 3
places_of_a_wire = refl

-- a flush of both sides empties both lists
flushed_wire : driven (stream Wire (end_with [] [] bytes) (end_with [] [] four)) A (bare (MFlush true true None)) ≡ stream Wire (empty []) (empty [])
flushed_wire = refl

-- above a closed end nothing waits
closed_end : next_of (stream Loop (empty []) (record (empty []) { is_open = false })) (Place.Drv A) ≡ None
closed_end = refl

-- five bytes fill the head, so what waits in the driver may not move; four are the low mark, and then it must
behind_a_full_head : may builtin (stream Echo (end_with bytes [] bytes) (empty [])) (Place.Drv A) ≡ false
behind_a_full_head = refl

behind_a_slack_head : is_due builtin (stream Echo (end_with four [] bytes) (empty [])) (Place.Drv A) ≡ true
behind_a_slack_head = refl

-- an echo with eight modules with queues on both sides has 17 places; those of an end that the driver lacks
-- are none
eight_modules : place_count (stream Echo (empty (queued ∷ queued ∷ queued ∷ queued ∷ queued ∷ queued ∷ queued ∷ queued ∷ [])) (empty [])) ≡ 17
eight_modules = refl

two_ends : place_count (stream Loop (empty (queued ∷ passing ∷ [])) (empty [])) ≡ 4
two_ends = refl

two_messages : message_count (stream Echo (end_with bytes [] four) (empty [])) ≡ 2
two_messages = refl
