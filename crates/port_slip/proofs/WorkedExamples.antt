-- A loop with SLIP at both ends, computed on the chain's definitions.
use Rattle.std.proofs.Common.{◌≡◌, ℕ, true, false, None, List, [], ◌∷◌, refl}
use Rattle.strm_msg.specs.Message.{data_msg, bare}
use Rattle.strm_msg.specs.declared.kind.MsgKind.TheVariants.{MFlush}
use Rattle.strm_msg.specs.declared.words.End.TheVariants.{A, B}
use Rattle.strm_msg.specs.Marks.{WaterMarks}
use Rattle.strm_module.specs.Shape.{new_shape}
use Rattle.strm_module.specs.declared.kind.Kind.TheVariants.{Pass}
use Rattle.strm_module.specs.declared.driver.Driver.TheVariants.{Loop}
use Rattle.strm_chain_end.specs.Pair.{fresh_pair}
use Rattle.strm_chain_end.specs.End.{EndState}
use Rattle.strm_chain_ends.specs.declared.place.Place.TheVariants.{Drv}
use Rattle.strm_chain.specs.declared.spot.Spot.TheVariants.{Down, Up}
use Rattle.strm_chain_ends.specs.Image.{Image, fresh}
use Rattle.strm_chain.specs.Deliver.{deliver, up_through, down_through}
use Rattle.strm_chain.specs.Service.{move}
use Rattle.port_slip.specs.Slip.{slip}
use Rattle.port_slip.specs.declared.kinds.SlipKind.{SlipKind}
use Rattle.port_slip.specs.declared.kinds.SlipKind.TheVariants.{Builtin, Slip}

abbrev marks : WaterMarks
marks = record { hi = 90; lo = 80 }

-- an end with one module, named m, that has no queues
abbrev with_kind : SlipKind → EndState SlipKind → EndState SlipKind
with_kind kind e =
    record e { modules = fresh_pair (new_shape 1 (109 ∷ []) None None kind) ∷ [] }

abbrev between : SlipKind → SlipKind → Image SlipKind
between a b =
    let loop = fresh Loop marks marks in record loop { a = with_kind a loop.a; b = with_kind b loop.b }

-- data is sent down end A, and the driver takes it across
abbrev crosses : Image SlipKind → List ℕ → Image SlipKind
crosses image bytes = move slip (deliver slip image (Down A 1) (data_msg 0 bytes)) (Drv A)

-- a datagram with an END and an ESC is a frame in the driver
framed_in_driver : (deliver slip (between (Slip [] 0) (Slip [] 0)) (Down A 1) (data_msg 0 (97 ∷ 192 ∷ 219 ∷ []))).a.drv ≡ data_msg 0 (192 ∷ 97 ∷ 219 ∷ 220 ∷ 219 ∷ 221 ∷ 192 ∷ []) ∷ []
unfolding down_through up_through
framed_in_driver = refl

-- it comes up at end B as it was
comes_up : (crosses (between (Slip [] 0) (Slip [] 0)) (97 ∷ 192 ∷ 219 ∷ [])).b.head ≡ data_msg 0 (97 ∷ 192 ∷ 219 ∷ []) ∷ []
unfolding down_through up_through
comes_up = refl

-- frames from a module that only passes on: of three in one message two go up, and the third is kept
abbrev three : Image SlipKind
three = crosses (between (Builtin Pass) (Slip [] 0)) (1 ∷ 192 ∷ 2 ∷ 192 ∷ 3 ∷ 192 ∷ [])

two_go_up : three.b.head ≡ data_msg 0 (1 ∷ []) ∷ (data_msg 0 (2 ∷ []) ∷ [])
unfolding down_through up_through
two_go_up = refl

third_is_kept : three.b ≡ record (with_kind (Slip (3 ∷ 192 ∷ []) 0) three.b) { head = three.b.head }
unfolding down_through up_through
third_is_kept = refl

-- a frame in two messages, cut within an escape
in_two : (crosses (crosses (between (Builtin Pass) (Slip [] 0)) (192 ∷ 1 ∷ 219 ∷ [])) (220 ∷ 192 ∷ [])).b.head ≡ data_msg 0 (1 ∷ 192 ∷ []) ∷ []
unfolding down_through up_through
in_two = refl

-- a flush of the read side that comes up drops what is kept
flushed : (deliver slip (crosses (between (Builtin Pass) (Slip [] 0)) (1 ∷ 2 ∷ [])) (Up B 1) (bare (MFlush true false None))).b.modules ≡ (between (Builtin Pass) (Slip [] 0)).b.modules
unfolding down_through up_through
flushed = refl
