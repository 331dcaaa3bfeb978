-- What an end of a link makes of a message that flushes nothing flushes nothing, and it makes no options.
use Rattle.std.proofs.Common.{◌≡◌, ◌≤◌, ◌+◌, ℕ, Bool, true, Option, Some, None, List, [], ◌∷◌, unwrap_or, refl, arith}
use Rattle.std.proofs.lemmas.List.Sums.{sum_by-cons}
use Rattle.std.proofs.lemmas.Bool.{and_from}
use Rattle.strm_msg.specs.Message.{Msg, data_msg}
use Rattle.strm_msg.specs.declared.kind.MsgKind.{MsgKind}
use Rattle.strm_msg.specs.declared.kind.MsgKind.TheVariants.{MData}
use Rattle.strm_msg.specs.declared.words.Side.{Side}
use Rattle.strm_msg.specs.declared.words.Side.TheVariants.{Rd, Wr}
use Rattle.strm_module.specs.Calm.{is_calm, are_calm, options_of, options_sent, MakesCalm}
use Rattle.strm_module.proofs.CalmLemmas.{same_keeps, builtin_calm}
use Rattle.port_arq.specs.Frame.{frame_bytes, frame_in}
use Rattle.port_arq.specs.Peer.{PeerValue, next_frame, heard_up}
use Rattle.port_arq.specs.declared.frame.Frame.{Frame}
use Rattle.port_arq_module.specs.Arq.{raised_up, up_action, frame_down, arq_action, arq_acts, arq_own, arq}
use Rattle.port_arq_module.specs.declared.kinds.ArqKind.{ArqKind}
use Rattle.port_arq_module.specs.declared.kinds.ArqKind.TheVariants.{Builtin, Arq}

-- what leaves is data
raised_calm : (up : Option (List ℕ)) → are_calm (raised_up up) ≡ true
raised_calm None = refl
raised_calm (Some bytes) = refl

frame_calm : (frame : Option Frame) → are_calm (frame_down frame) ≡ true
frame_calm None = refl
frame_calm (Some frame) = refl

up_calm : (peer : PeerValue) (frame : Option Frame) → are_calm (up_action peer frame).outs ≡ true
up_calm peer None = refl
up_calm peer (Some frame) = raised_calm (heard_up peer frame)

acts_calm : (peer : PeerValue) (side : Side) (kind : MsgKind) (m : Msg) → is_calm m.kind ≡ true → are_calm (arq_action peer side kind m).outs ≡ true
acts_calm peer Rd MData m h = up_calm peer (frame_in (unwrap_or m.dat []))
acts_calm peer Wr MData m h = refl
acts_calm peer Rd kind m h = and_from (is_calm m.kind) true h refl
acts_calm peer Wr kind m h = and_from (is_calm m.kind) true h refl

-- and data sets no options
one_sent : (b : Bool) (side : Side) (bytes : List ℕ) → options_sent b ((side, data_msg 0 bytes) ∷ []) ≤ 0
one_sent b side bytes =
    let e = sum_by-cons (λ (out : Side × Msg). options_of b out.1) (side, data_msg 0 bytes) [] in omega (arith, e)

raised_sent : (b : Bool) (up : Option (List ℕ)) → options_sent b (raised_up up) ≤ 0
raised_sent b None = omega arith
raised_sent b (Some bytes) = one_sent b Rd bytes

frame_sent : (b : Bool) (frame : Option Frame) → options_sent b (frame_down frame) ≤ 0
frame_sent b None = omega arith
frame_sent b (Some frame) = one_sent b Wr (frame_bytes frame)

up_sent : (b : Bool) (peer : PeerValue) (frame : Option Frame) → options_sent b (up_action peer frame).outs ≤ 0
up_sent b peer None = omega arith
up_sent b peer (Some frame) = raised_sent b (heard_up peer frame)

acts_keep : (b : Bool) (peer : PeerValue) (side : Side) (kind : MsgKind) (m : Msg) → options_sent b (arq_action peer side kind m).outs ≤ options_of b m
acts_keep b peer Rd MData m = let none = up_sent b peer (frame_in (unwrap_or m.dat [])) in omega (arith, none)
acts_keep b peer Wr MData m = omega arith
acts_keep b peer Rd kind m = same_keeps b Rd m
acts_keep b peer Wr kind m = same_keeps b Wr m

arq_keeps : (b : Bool) (kind : ArqKind) (side : Side) (m : Msg) → options_sent b (arq_acts kind side m).outs ≤ options_of b m
arq_keeps b (Builtin kind) side m = builtin_calm.makes.options b kind side m
arq_keeps b (Arq peer) side m = acts_keep b peer side m.kind m

still_calm : (kind : ArqKind) (side : Side) (m : Msg) → is_calm m.kind ≡ true → are_calm (arq_acts kind side m).outs ≡ true
still_calm (Builtin kind) side m h = builtin_calm.makes.calm kind side m h
still_calm (Arq peer) side m h = acts_calm peer side m.kind m h

own_calm : (kind : ArqKind) (side : Side) → are_calm (arq_own kind side).outs ≡ true
own_calm (Builtin kind) side = refl
own_calm (Arq peer) Rd = refl
own_calm (Arq peer) Wr = frame_calm (next_frame peer)

own_keeps : (b : Bool) (kind : ArqKind) (side : Side) → options_sent b (arq_own kind side).outs ≤ 0
own_keeps b (Builtin kind) side = omega arith
own_keeps b (Arq peer) Rd = omega arith
own_keeps b (Arq peer) Wr = frame_sent b (next_frame peer)

pub arq_calm : MakesCalm arq
arq_calm = record { calm = still_calm; options = arq_keeps; own = own_calm; own_options = own_keeps }
