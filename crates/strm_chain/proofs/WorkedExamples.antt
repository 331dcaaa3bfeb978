-- Small images, and what the definitions compute at them.
use Rattle.std.proofs.Common.{◌≡◌, true, false, Option, Some, None, List, [], ◌∷◌, refl}
use Rattle.strm_msg.specs.Message.{Msg, data_msg, bare}
use Rattle.strm_msg.specs.declared.kind.MsgKind.TheVariants.{MError, MFlush}
use Rattle.strm_msg.specs.declared.words.End.TheVariants.{A, B}
use Rattle.strm_msg.specs.declared.errno.Errno.TheVariants.{EIO}
use Rattle.strm_msg.specs.Marks.{WaterMarks}
use Rattle.strm_module.specs.Builtin.{builtin}
use Rattle.strm_module.specs.declared.kind.Kind.{Kind}
use Rattle.strm_module.specs.declared.kind.Kind.TheVariants.{Pass, Tee, Line}
use Rattle.strm_module.specs.declared.driver.Driver.{Driver}
use Rattle.strm_module.specs.declared.driver.Driver.TheVariants as D
use Rattle.strm_chain_end.specs.Pair.{QueuePair}
use Rattle.strm_chain_end.specs.End.{EndState}
use Rattle.strm_chain_end.specs.Change.{fresh_record}
use Rattle.strm_chain_ends.specs.declared.place.Place.TheVariants as Place
use Rattle.strm_chain.specs.declared.spot.Spot.TheVariants.{Down, Up}
use Rattle.strm_chain_ends.specs.Image.{Image}
use Rattle.strm_chain.specs.Deliver.{deliver, up_through, down_through}
use Rattle.strm_chain_ends.specs.Flow.{may}
use Rattle.strm_chain.specs.Service.{move}

abbrev five : WaterMarks
five = record { hi = 5; lo = 4 }

abbrev with_modules : List (QueuePair Kind) → EndState Kind
with_modules modules =
    record { is_open = true; head_marks = five; head = []; state = fresh_record; modules = modules; drv_marks = five; drv = [] }

abbrev chain : Driver → List (QueuePair Kind) → List (QueuePair Kind) → Image Kind
chain d a b = record { driver = d; broken = false; a = with_modules a; b = with_modules b }

abbrev pair : Kind → Option WaterMarks → Option WaterMarks → QueuePair Kind
pair kind rd wr =
    record { shape = record { serial = 1; name = record { items = 109 ∷ [] }; rd = rd; wr = wr; noenable = false; kind = kind }; rd = []; wr = [] }

abbrev aaaaa : Msg
aaaaa = data_msg 0 (97 ∷ 97 ∷ 97 ∷ 97 ∷ 97 ∷ [])

abbrev b1 : Msg
b1 = data_msg 0 (98 ∷ [])

-- an echo without modules: the message waits in the driver, then goes up, and the next finds the head full
echo_waits : (deliver builtin (chain D.Echo [] []) (Down A 1) aaaaa).a.drv ≡ aaaaa ∷ []
unfolding down_through up_through
echo_waits = refl

abbrev after_one : Image Kind
after_one = move builtin (deliver builtin (chain D.Echo [] []) (Down A 1) aaaaa) (Place.Drv A)

echo_moves : after_one.a.head ≡ aaaaa ∷ []
unfolding down_through up_through
echo_moves = refl

echo_full : may builtin (deliver builtin after_one (Down A 1) b1) (Place.Drv A) ≡ false
unfolding down_through up_through
echo_full = refl

-- a tee sends a copy up first, and then the message on
abbrev teed : Image Kind
teed = deliver builtin (chain D.Echo (pair Tee None None ∷ []) []) (Down A 1) b1

tee_first : teed.a.head ≡ b1 ∷ []
unfolding down_through up_through
tee_first = refl

tee_second : teed.a.drv ≡ b1 ∷ []
unfolding down_through up_through
tee_second = refl

-- a module with write marks queues
queued : (deliver builtin (chain D.Loop (pair Pass None (Some five) ∷ []) []) (Down A 1) b1).a.modules ≡ record (pair Pass None (Some five)) { wr = b1 ∷ [] } ∷ []
unfolding down_through up_through
queued = refl

-- through a loop to the other end, past a line discipline that keeps a partial line there
abbrev looped : Image Kind
looped = move builtin (deliver builtin (chain D.Loop [] (pair (Line []) None None ∷ [])) (Down A 1) b1) (Place.Drv A)

loop_partial : looped.b.modules ≡ pair (Line (98 ∷ [])) None None ∷ []
unfolding down_through up_through
loop_partial = refl

-- a flush of the read side that came down an end of a loop is answered up the same end
abbrev flushed : Image Kind
flushed =
    deliver builtin (record (chain D.Loop [] []) { a = record (with_modules []) { head = b1 ∷ [] }; b = record (with_modules []) { head = b1 ∷ [] } }) (Down A 1) (bare (MFlush true false None))

flush_same_end : flushed.a.head ≡ []
unfolding down_through up_through
flush_same_end = refl

flush_other_end : flushed.b.head ≡ b1 ∷ []
unfolding down_through up_through
flush_other_end = refl

-- an error from a line flushes all lists, and the partial line, by the head's flush
abbrev errored : Image Kind
errored =
    deliver builtin (record (chain D.Line (pair (Line (98 ∷ [])) None None ∷ []) []) { a = record (with_modules (pair (Line (98 ∷ [])) None None ∷ [])) { head = b1 ∷ []; drv = b1 ∷ [] } }) (Up A 1) (bare (MError (Some EIO) (Some EIO)))

error_kept : errored.a.state.rd_errno ≡ Some EIO
unfolding down_through up_through
error_kept = refl

error_flushed : errored.a.head ≡ []
unfolding down_through up_through
error_flushed = refl

error_driver : errored.a.drv ≡ []
unfolding down_through up_through
error_driver = refl

error_partial : errored.a.modules ≡ pair (Line []) None None ∷ []
unfolding down_through up_through
error_partial = refl

-- an echo has no end B: what is written there is dropped
absent_end : (deliver builtin (chain D.Echo [] []) (Down B 1) b1).b.drv ≡ []
unfolding down_through up_through
absent_end = refl
