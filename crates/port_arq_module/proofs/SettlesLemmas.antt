-- Each frame that is sent makes the frames that are owed fewer, so service ends.
use Rattle.std.proofs.Common.{◌≡◌, ◌<◌, ◌≤◌, ◌+◌, ◌-◌, ℕ, Bool, true, false, cond, Option, Some, None, List, [], ◌∷◌, length, is_some, refl, arith}
use Rattle.std.proofs.lemmas.Bool.{and_from}
use Rattle.std.proofs.lemmas.Option.{slice_get_within}
use Rattle.strm_chain_settling.proofs.ModuleLemmas.{data_low}
use Rattle.strm_chain_ends.proofs.CalmLemmas.{le_same}
use Rattle.strm_msg.specs.Kind.{is_high}
use Rattle.strm_msg.specs.Message.{Msg}
use Rattle.strm_msg.specs.declared.kind.MsgKind.{MsgKind}
use Rattle.strm_msg.specs.declared.kind.MsgKind.TheVariants.{MData}
use Rattle.strm_msg.specs.declared.words.Side.{Side}
use Rattle.strm_msg.specs.declared.words.Side.TheVariants.{Rd, Wr}
use Rattle.strm_module.specs.declared.turn.Turn.TheVariants.{Serves, Shut, Sends}
use Rattle.strm_chain_ends.specs.Image.{Image}
use Rattle.strm_chain_ends.specs.Order.{IsOrdered}
use Rattle.strm_chain_settling.specs.Ends.{Ends}
use Rattle.strm_chain_settling.specs.Orderly.{are_high, ups_are_high, other_side, IsOrderly}
use Rattle.strm_chain_settling.proofs.SettlingLemmas.{settling_ends, builtin_orderly}
use Rattle.strm_chain_settling.proofs.BuiltinLemmas.{builtin_ups}
use Rattle.port_arq.specs.Peer.{PeerValue, refusal, acknowledgement, unsent, frame_of, next_frame, sent_on, after_sending}
use Rattle.port_arq.specs.declared.frame.Frame.{Frame}
use Rattle.port_arq_module.specs.Arq.{frame_down, arq_action, arq_acts, arq_turn, arq_own, arq_answers, arq}
use Rattle.port_arq_module.specs.BetweenLaws.{frames_owed, debt}
use Rattle.port_arq_module.specs.declared.kinds.ArqKind.{ArqKind}
use Rattle.port_arq_module.specs.declared.kinds.ArqKind.TheVariants.{Builtin, Arq}
use Rattle.port_arq_module.proofs.AnswerLemmas.{arq_stays}

-- ---- what a message does

action_tame : (peer : PeerValue) (side : Side) (kind : MsgKind) (m : Msg) → m.kind ≡ kind → is_high m.kind ≡ true → are_high (arq_action peer side kind m).outs ≡ true
action_tame peer Rd MData m at high = absurd (data_low m at high)
action_tame peer Wr MData m at high = refl
action_tame peer Rd kind m at high = and_from (is_high m.kind) true high refl
action_tame peer Wr kind m at high = and_from (is_high m.kind) true high refl

arq_tame : (kind : ArqKind) (side : Side) (m : Msg) → is_high m.kind ≡ true → are_high (arq_acts kind side m).outs ≡ true
arq_tame (Builtin kind) side m high = builtin_orderly.tame kind side m high
arq_tame (Arq peer) side m high = action_tame peer side m.kind m refl high

action_owes : (peer : PeerValue) (side owing : Side) (kind : MsgKind) (m : Msg) → m.kind ≡ kind → is_high m.kind ≡ true → debt (arq_action peer side kind m).kind owing ≤ debt (Arq peer) owing
action_owes peer Rd owing MData m at high = absurd (data_low m at high)
action_owes peer Wr owing MData m at high = absurd (data_low m at high)
action_owes peer Rd owing kind m at high = le_same (debt (Arq peer) owing)
action_owes peer Wr owing kind m at high = le_same (debt (Arq peer) owing)

arq_owes : (kind : ArqKind) (side owing : Side) (m : Msg) → is_high m.kind ≡ true → debt (arq_acts kind side m).kind owing ≤ debt kind owing
arq_owes (Builtin kind) side owing m high = le_same 0
arq_owes (Arq peer) side owing m high = action_owes peer side owing m.kind m refl high

-- what goes down makes the read side owe nothing
down_unanswered : (peer : PeerValue) (kind : MsgKind) (m : Msg) → debt (arq_action peer Wr kind m).kind Rd ≤ 0
down_unanswered peer MData m = le_same 0
down_unanswered peer kind m = le_same 0

arq_unanswered : (kind : ArqKind) (side : Side) (m : Msg) → arq_answers kind side ≡ false → debt (arq_acts kind side m).kind (other_side side) ≤ debt kind (other_side side)
arq_unanswered (Builtin kind) side m is = le_same 0
arq_unanswered (Arq peer) Rd m is = cc
arq_unanswered (Arq peer) Wr m is = down_unanswered peer m.kind m

action_ups : (peer : PeerValue) (kind : MsgKind) (m : Msg) → ups_are_high (arq_action peer Wr kind m).outs ≡ true
action_ups peer MData m = refl
action_ups peer kind m = refl

arq_ups : (kind : ArqKind) (m : Msg) → arq.answers kind Wr ≡ false → ups_are_high (arq_acts kind Wr m).outs ≡ true
arq_ups (Builtin kind) m is = builtin_ups kind m is
arq_ups (Arq peer) m is = action_ups peer m.kind m

-- ---- what a side sends of its own

frame_ups : (frame : Option Frame) → ups_are_high (frame_down frame) ≡ true
frame_ups None = refl
frame_ups (Some frame) = refl

arq_own_ups : (kind : ArqKind) (band : Option ℕ) → arq_turn kind Wr ≡ Sends band → ups_are_high (arq_own kind Wr).outs ≡ true
arq_own_ups (Builtin kind) band turn = cc
arq_own_ups (Arq peer) band turn = frame_ups (next_frame peer)

-- a side that sends owes a frame
sends_some : (owes refuses : Bool) (band : Option ℕ) → cond owes (Sends (Some 0)) (cond refuses Shut Serves) ≡ Sends band → owes ≡ true
sends_some true refuses band turn = refl
sends_some false true band turn = cc
sends_some false false band turn = cc

ack_less : (n : ℕ) (owes : Bool) (frame : Frame) → is_some (cond owes (Some frame) None) ≡ true → n + 0 < n + cond owes 1 0
ack_less n true frame is = omega arith
ack_less n false frame is = cc

sent_less : (peer : PeerValue) (message : Option (List ℕ)) → unsent peer ≡ message → is_some (frame_of peer message) ≡ true → frames_owed (sent_on peer message) < frames_owed peer
sent_less peer (Some bytes) at is =
    let within = slice_get_within peer.waiting peer.sent bytes at in omega arith
sent_less peer None at is =
    ack_less (length peer.waiting - peer.sent) peer.owes (acknowledgement peer) is

arq_owns : (kind : ArqKind) (side : Side) (band : Option ℕ) → arq_turn kind side ≡ Sends band → debt (arq_own kind side).kind side < debt kind side
arq_owns (Builtin kind) side band turn = cc
arq_owns (Arq peer) Rd band turn = cc
arq_owns (Arq peer) Wr band turn =
    sent_less peer (unsent peer) refl (sends_some (is_some (next_frame peer)) (is_some (refusal peer)) band turn)

arq_owns_alone : (kind : ArqKind) (side : Side) (band : Option ℕ) → arq_turn kind side ≡ Sends band → debt (arq_own kind side).kind (other_side side) ≤ debt kind (other_side side)
arq_owns_alone (Builtin kind) side band turn = le_same 0
arq_owns_alone (Arq peer) Rd band turn = cc
arq_owns_alone (Arq peer) Wr band turn = le_same 0

-- ---- the law

pub arq_orderly : IsOrderly arq debt
arq_orderly =
    record {
      tame = arq_tame;
      tame_debt = arq_owes;
      unanswered = arq_unanswered;
      unanswered_ups = arq_ups;
      unanswered_own = λ kind band turn is. arq_own_ups kind band turn;
      owns = arq_owns;
      owns_alone = arq_owns_alone;
      stays = arq_stays;
    }

pub arq_settles : (image : Image ArqKind) → IsOrdered arq image → Ends arq image
arq_settles image ordered = settling_ends arq debt arq_orderly image ordered
