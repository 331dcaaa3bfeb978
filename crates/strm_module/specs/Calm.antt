-- Messages that flush nothing on their way, and vocabularies that make no other of them, and no options for
-- the head.
use Rattle.std.specs.Prelude.{◌≡◌, ◌≤◌, ◌==◌, ◌&&◌, ℕ, Bool, true, false, List, is_some, sum_by, if◌then◌else◌}
use Rattle.std.specs.List.{list_all}
use Rattle.strm_msg.specs.Message.{Msg, Part}
use Rattle.strm_msg.specs.Options.{options_asked}
use Rattle.strm_msg.specs.declared.kind.MsgKind.{MsgKind}
use Rattle.strm_msg.specs.declared.kind.MsgKind.TheVariants.{MIoctl, MSetopts, MFlush, MError}
use Rattle.strm_msg.specs.declared.options.TheConstants.{SETOPTS}
use Rattle.strm_msg.specs.declared.words.Side.{Side}
use Rattle.strm_module.specs.Kinds.{OutList, Meaning}
use Rattle.strm_module.specs.declared.outs.Put.{Put}
use Rattle.strm_module.specs.declared.outs.Put.TheVariants.{Queue, Sent}

-- all kinds but a flush and an error, which a head answers with a flush
abbrev pub is_calm : MsgKind → Bool
is_calm (MFlush r w band) = false
is_calm (MError rd wr) = false
is_calm kind = true

-- all that leaves is calm
abbrev pub are_calm : OutList → Bool
are_calm outs = list_all (λ out. is_calm out.1.kind) outs

-- whether the messages that a put sends at once are calm (proofs alone cite it)
abbrev pub puts_calm : Put → Bool
puts_calm (Queue m) = true
puts_calm (Sent outs) = are_calm outs.items

-- the number of times that a message sets options of a head, where ioctls that ask for it are answered with
-- an M_SETOPTS, or are not
abbrev pub options_by : Bool → MsgKind → Part → ℕ
options_by answered (MSetopts mode prot marks) dat = 1
options_by answered (MIoctl id cmd) dat = if answered && (cmd == SETOPTS) && is_some (options_asked dat) then 1 else 0
options_by answered kind dat = 0

abbrev pub options_of : Bool → Msg → ℕ
options_of answered m = options_by answered m.kind m.dat

-- the same of all messages of a queue, and of all that leaves
abbrev pub options_held : Bool → List Msg → ℕ
options_held answered q = sum_by (options_of answered) q

abbrev pub options_sent : Bool → OutList → ℕ
options_sent answered outs = sum_by (λ out. options_of answered out.1) outs

-- the same of the message that a put queues, and of those that it sends at once (proofs alone cite it)
abbrev pub puts_options : Bool → Put → ℕ
puts_options answered (Queue m) = options_of answered m
puts_options answered (Sent outs) = options_sent answered outs.items

-- a vocabulary whose kinds make calm messages of a calm message, with options only where options came. The
-- messages of their own are calm, and set no options
pub record MakesCalm {K : Type 0} (means : Meaning K) : Type 0 where
  pub calm : (kind : K) (side : Side) (m : Msg) → is_calm m.kind ≡ true → are_calm (means.acts kind side m).outs ≡ true
  pub options : (answered : Bool) (kind : K) (side : Side) (m : Msg) → options_sent answered (means.acts kind side m).outs ≤ options_of answered m
  pub own : (kind : K) (side : Side) → are_calm (means.own kind side).outs ≡ true
  pub own_options : (answered : Bool) (kind : K) (side : Side) → options_sent answered (means.own kind side).outs ≤ 0

-- no message, and nothing that a kind sends of its own, changes the turn of a service
pub record IsSteady {K : Type 0} (means : Meaning K) : Type 0 where
  pub acts : (kind : K) (side other : Side) (m : Msg) → means.turn (means.acts kind side m).kind other ≡ means.turn kind other
  pub own : (kind : K) (side other : Side) → means.turn (means.own kind side).kind other ≡ means.turn kind other

-- service has no more to do after a message than the message itself makes
pub record IsCalm {K : Type 0} (means : Meaning K) : Type 0 where
  pub makes : MakesCalm means
  pub steady : IsSteady means
