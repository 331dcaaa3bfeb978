-- The kinds answer on the sides on which they did.
use Rattle.std.proofs.Common.{◌≡◌, ℕ, false, List, refl}
use Rattle.strm_msg.specs.Message.{Msg}
use Rattle.strm_msg.specs.declared.kind.MsgKind.{MsgKind}
use Rattle.strm_msg.specs.declared.kind.MsgKind.TheVariants.{MData}
use Rattle.strm_msg.specs.declared.words.Side.{Side}
use Rattle.strm_msg.specs.declared.words.Side.TheVariants.{Rd, Wr}
use Rattle.strm_module.specs.Kinds.{AnswersStay}
use Rattle.strm_module.proofs.AnswerLemmas.{builtin_stays}
use Rattle.port_slip.specs.Slip.{slip_action, slip_acts, slip_own, slip_answers, slip}
use Rattle.port_slip.specs.declared.kinds.SlipKind.{SlipKind}
use Rattle.port_slip.specs.declared.kinds.SlipKind.TheVariants.{Builtin, Slip}

action_stays : (bytes : List ℕ) (band : ℕ) (side other : Side) (kind : MsgKind) (m : Msg) → slip_answers (slip_action bytes band side kind m).kind other ≡ false
action_stays bytes band Rd other MData m = refl
action_stays bytes band Wr other MData m = refl
action_stays bytes band Rd other kind m = refl
action_stays bytes band Wr other kind m = refl

acts_stay : (kind : SlipKind) (side other : Side) (m : Msg) → slip_answers (slip_acts kind side m).kind other ≡ slip_answers kind other
acts_stay (Builtin kind) side other m = builtin_stays.acts kind side other m
acts_stay (Slip bytes band) side other m = action_stays bytes band side other m.kind m

own_stays : (kind : SlipKind) (side other : Side) → slip_answers (slip_own kind side).kind other ≡ slip_answers kind other
own_stays (Builtin kind) side other = refl
own_stays (Slip bytes band) Rd other = refl
own_stays (Slip bytes band) Wr other = refl

pub slip_stays : AnswersStay slip
slip_stays = record { acts = acts_stay; own = own_stays; expire = λ kind ticks other. refl }
