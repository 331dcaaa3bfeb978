-- What the module makes of a calm message is calm, and it makes no options.
use Rattle.std.proofs.Common.{◌≡◌, ◌≤◌, ◌==◌, ℕ, Bool, true, false, cond, None, Some, List, [], ◌∷◌, unwrap_or, refl, ap}
use Rattle.std.proofs.lemmas.Bool.{and_from}
use Rattle.strm_msg.specs.Message.{Msg, Part, ack_msg}
use Rattle.strm_msg.specs.declared.kind.MsgKind.{MsgKind}
use Rattle.strm_msg.specs.declared.kind.MsgKind.TheVariants.{MData, MIoctl}
use Rattle.strm_msg.specs.declared.words.Side.{Side}
use Rattle.strm_msg.specs.declared.words.Side.TheVariants.{Rd, Wr}
use Rattle.strm_module.specs.Kinds.{Action}
use Rattle.strm_module.specs.Calm.{is_calm, are_calm, options_by, options_of, options_sent, IsCalm}
use Rattle.strm_module.proofs.CalmLemmas.{same_keeps, other_keeps, serving_calm, data_sets_none}
use Rattle.port_sequence.specs.Sequence.{judged_action, sequence_action, sequence_acts, sequence}
use Rattle.port_sequence.specs.declared.kinds.Sequence.{Sequence}

if_calm : (b : Bool) (x y : Action Sequence) → are_calm x.outs ≡ true → are_calm y.outs ≡ true → are_calm (cond b x y).outs ≡ true
if_calm true x y p q = p
if_calm false x y p q = q

judged_calm : (s : Sequence) (m : Msg) (bytes : List ℕ) → is_calm m.kind ≡ true → are_calm (judged_action s m bytes).outs ≡ true
judged_calm s m [] h = and_from (is_calm m.kind) true h refl
judged_calm s m (number ∷ rest) h = and_from (is_calm m.kind) true h refl

acts_calm : (s : Sequence) (side : Side) (kind : MsgKind) (m : Msg) → is_calm m.kind ≡ true → are_calm (sequence_action s side kind m).outs ≡ true
acts_calm s Rd MData m h = judged_calm s m (unwrap_or m.dat []) h
acts_calm s Rd kind m h = and_from (is_calm m.kind) true h refl
acts_calm s Wr MData m h = and_from (is_calm m.kind) true h refl
acts_calm s Wr (MIoctl id cmd) m h = if_calm (cmd == 1) _ _ refl (and_from (is_calm m.kind) true h refl)
acts_calm s Wr kind m h = and_from (is_calm m.kind) true h refl

if_keeps : (b c : Bool) (m : Msg) (x y : Action Sequence) → options_sent b x.outs ≤ options_of b m → options_sent b y.outs ≤ options_of b m → options_sent b (cond c x y).outs ≤ options_of b m
if_keeps b true m x y p q = p
if_keeps b false m x y p q = q

judged_keeps : (b : Bool) (s : Sequence) (m : Msg) (bytes : List ℕ) → m.kind ≡ MData → options_sent b (judged_action s m bytes).outs ≤ options_of b m
judged_keeps b s m [] at = same_keeps b Rd m
judged_keeps b s m (number ∷ rest) at = other_keeps b Rd m (record m { dat = Some rest }) (data_sets_none b m (Some rest) at)

acts_keep : (b : Bool) (s : Sequence) (side : Side) (kind : MsgKind) (m : Msg) → m.kind ≡ kind → options_sent b (sequence_action s side kind m).outs ≤ options_of b m
acts_keep b s Rd MData m at = judged_keeps b s m (unwrap_or m.dat []) at
acts_keep b s Rd kind m at = same_keeps b Rd m
acts_keep b s Wr MData m at = other_keeps b Wr m (record m { dat = Some (s.down ∷ unwrap_or m.dat []) }) (data_sets_none b m (Some (s.down ∷ unwrap_or m.dat [])) at)
acts_keep b s Wr (MIoctl id cmd) m at = if_keeps b (cmd == 1) m _ _ (other_keeps b Rd m (ack_msg id s.lost None) refl) (same_keeps b Wr m)
acts_keep b s Wr kind m at = same_keeps b Wr m

pub sequence_calm : IsCalm sequence
sequence_calm = serving_calm sequence_acts (λ s side. false) (λ s side m h. acts_calm s side m.kind m h) (λ b s side m. acts_keep b s side m.kind m refl)
