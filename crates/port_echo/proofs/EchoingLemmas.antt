-- Each echo makes what is owed less, and nothing goes round.
use Rattle.std.proofs.Common.{◌≡◌, ◌<◌, ◌≤◌, ℕ, Bool, true, false, ◌&&◌, cond, Option, List, [], ◌∷◌, length, nat_le, refl, ap, sym, ◌∙◌, arith}
use Rattle.std.proofs.lemmas.Bool.{and_from}
use Rattle.strm_chain_settling.proofs.ModuleLemmas.{data_low}
use Rattle.strm_chain_ends.proofs.CalmLemmas.{le_same}
use Rattle.strm_msg.specs.Kind.{is_high}
use Rattle.strm_msg.specs.Message.{Msg}
use Rattle.strm_msg.specs.declared.kind.MsgKind.{MsgKind}
use Rattle.strm_msg.specs.declared.kind.MsgKind.TheVariants.{MData}
use Rattle.strm_msg.specs.declared.words.Side.{Side}
use Rattle.strm_msg.specs.declared.words.Side.TheVariants.{Rd, Wr}
use Rattle.strm_module.specs.declared.turn.Turn.TheVariants.{Serves, Shut, Sends}
use Rattle.strm_module.specs.Kinds.{AnswersStay}
use Rattle.strm_chain_ends.specs.Image.{Image}
use Rattle.strm_chain_ends.specs.Order.{IsOrdered}
use Rattle.strm_chain_settling.specs.Ends.{Ends}
use Rattle.strm_chain_settling.specs.Orderly.{are_high, other_side, IsOrderly}
use Rattle.strm_chain_settling.proofs.SettlingLemmas.{settling_ends}
use Rattle.port_echo.specs.Echoing.{owing, echoing_action, echoing_turn, echoing_own, echoing, echoing_answers, debt}
use Rattle.port_echo.specs.declared.echoing.Echoing.{Echoing}

action_tame : (owed : List ℕ) (side : Side) (kind : MsgKind) (m : Msg) → m.kind ≡ kind → is_high m.kind ≡ true → are_high (echoing_action owed side kind m).outs ≡ true
action_tame owed Rd MData m at high = absurd (data_low m at high)
action_tame owed Rd kind m at high = and_from (is_high m.kind) true high refl
action_tame owed Wr kind m at high = and_from (is_high m.kind) true high refl

action_owes : (owed : List ℕ) (side other : Side) (kind : MsgKind) (m : Msg) → m.kind ≡ kind → is_high m.kind ≡ true → debt (echoing_action owed side kind m).kind other ≤ debt (owing owed) other
action_owes owed Rd other MData m at high = absurd (data_low m at high)
action_owes owed Rd other kind m at high = le_same (debt (owing owed) other)
action_owes owed Wr other kind m at high = le_same (debt (owing owed) other)

sends_some : (owed : List ℕ) (band : Option ℕ) → echoing_turn owed Wr ≡ Sends band → 0 < length owed
sends_some [] band turn = cc
sends_some (x ∷ xs) band turn = omega arith

never_sends : (shut : Bool) (band : Option ℕ) → cond shut Shut Serves ≡ Sends band → ⊥
never_sends true band turn = cc
never_sends false band turn = cc

owes_less : (s : Echoing) (side : Side) (band : Option ℕ) → echoing_turn s.owed side ≡ Sends band → debt (echoing_own s.owed side).kind side < debt s side
owes_less s Rd band turn = absurd (never_sends (nat_le 4 (length s.owed)) band turn)
owes_less s Wr band turn = sends_some s.owed band turn

owes_alone : (s : Echoing) (side : Side) (band : Option ℕ) → echoing_turn s.owed side ≡ Sends band → debt (echoing_own s.owed side).kind (other_side side) ≤ debt s (other_side side)
owes_alone s Rd band turn = le_same (length s.owed)
owes_alone s Wr band turn = le_same 0

unanswered : (s : Echoing) (side : Side) (m : Msg) → echoing_answers side ≡ false → debt (echoing.acts s side m).kind (other_side side) ≤ debt s (other_side side)
unanswered s Rd m is = cc
unanswered s Wr m is = le_same 0

stays : AnswersStay echoing
stays = record { acts = λ s side other m. refl; own = λ s side other. refl; expire = λ s ticks other. refl }

pub echoing_orderly : IsOrderly echoing debt
echoing_orderly =
    record {
      tame = λ s side m high. action_tame s.owed side m.kind m refl high;
      tame_debt = λ s side other m high. action_owes s.owed side other m.kind m refl high;
      unanswered = unanswered;
      unanswered_ups = λ s m is. refl;
      unanswered_own = λ s band turn is. refl;
      owns = owes_less;
      owns_alone = owes_alone;
      stays = stays;
    }

pub echoing_settles : (image : Image Echoing) → IsOrdered echoing image → Ends echoing image
echoing_settles image ordered = settling_ends echoing debt echoing_orderly image ordered
