-- The kinds answer on the sides on which they did.
use Rattle.std.proofs.Common.{◌≡◌, ℕ, Option, Some, None, refl, unwrap_or, []}
use Rattle.strm_msg.specs.Message.{Msg}
use Rattle.strm_msg.specs.declared.kind.MsgKind.{MsgKind}
use Rattle.strm_msg.specs.declared.kind.MsgKind.TheVariants.{MData}
use Rattle.strm_msg.specs.declared.words.Side.{Side}
use Rattle.strm_msg.specs.declared.words.Side.TheVariants.{Rd, Wr}
use Rattle.strm_module.specs.Kinds.{AnswersStay}
use Rattle.strm_module.proofs.AnswerLemmas.{builtin_stays}
use Rattle.port_arq.specs.Frame.{frame_in}
use Rattle.port_arq.specs.Peer.{PeerValue, refusal, after_sending, after_hearing, timed}
use Rattle.port_arq.specs.declared.frame.Frame.{Frame}
use Rattle.port_arq_module.specs.Arq.{unless_refused, up_action, arq_action, arq_acts, arq_own, arq_answers, arq_expire, arq}
use Rattle.port_arq_module.specs.declared.kinds.ArqKind.{ArqKind}
use Rattle.port_arq_module.specs.declared.kinds.ArqKind.TheVariants.{Builtin, Arq}

ends_answer : (some other : PeerValue) (side : Side) → arq_answers (Arq some) side ≡ arq_answers (Arq other) side
ends_answer some other Rd = refl
ends_answer some other Wr = refl

up_stays : (peer : PeerValue) (frame : Option Frame) (other : Side) → arq_answers (up_action peer frame).kind other ≡ arq_answers (Arq peer) other
up_stays peer None other = refl
up_stays peer (Some frame) other = ends_answer (after_hearing peer frame) peer other

action_stays : (peer : PeerValue) (side other : Side) (kind : MsgKind) (m : Msg) → arq_answers (arq_action peer side kind m).kind other ≡ arq_answers (Arq peer) other
action_stays peer Rd other MData m = up_stays peer (frame_in (unwrap_or m.dat [])) other
action_stays peer Wr other MData m = ends_answer (unless_refused peer (unwrap_or m.dat []) (refusal peer)) peer other
action_stays peer Rd other kind m = refl
action_stays peer Wr other kind m = refl

acts_stay : (kind : ArqKind) (side other : Side) (m : Msg) → arq_answers (arq_acts kind side m).kind other ≡ arq_answers kind other
acts_stay (Builtin kind) side other m = builtin_stays.acts kind side other m
acts_stay (Arq peer) side other m = action_stays peer side other m.kind m

own_stays : (kind : ArqKind) (side other : Side) → arq_answers (arq_own kind side).kind other ≡ arq_answers kind other
own_stays (Builtin kind) side other = builtin_stays.own kind side other
own_stays (Arq peer) Rd other = refl
own_stays (Arq peer) Wr other = ends_answer (after_sending peer) peer other

expire_stays : (kind : ArqKind) (ticks : ℕ) (other : Side) → arq_answers (arq_expire kind ticks) other ≡ arq_answers kind other
expire_stays (Builtin kind) ticks other = builtin_stays.expire kind ticks other
expire_stays (Arq peer) ticks other = ends_answer (timed peer ticks) peer other

pub arq_stays : AnswersStay arq
arq_stays = record { acts = acts_stay; own = own_stays; expire = expire_stays }
