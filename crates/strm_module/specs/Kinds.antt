-- The meaning of a vocabulary of kinds, and the rules of every vocabulary (Programmer's Guide: STREAMS,
-- "Modules").
use Rattle.std.specs.Prelude.{◌≡◌, ℕ, Bool, true, false, List, [], ◌∷◌}
use Rattle.std.specs.List.{list_all}
use Rattle.strm_msg.specs.Message.{Msg, Part, ack_msg}
use Rattle.strm_msg.specs.declared.words.Side.{Side}
use Rattle.strm_msg.specs.declared.words.Side.TheVariants.{Rd, Wr}
use Rattle.strm_module.specs.declared.turn.Turn.{Turn}
use Rattle.strm_module.specs.declared.turn.Turn.TheVariants.{Serves}

-- messages in the order in which they leave, each with its side: `Wr` goes down, `Rd` goes up
abbrev pub OutList : Type 0
OutList = List (Side × Msg)

-- the messages that a module sends, in the order in which they leave
pub record Sends : Type 0 where
  pub items : OutList

-- the read side is the way up
abbrev pub is_up : Side → Bool
is_up Rd = true
is_up Wr = false

-- all that leaves goes up
abbrev pub all_go_up : OutList → Bool
all_go_up outs = list_all (λ out. is_up out.0) outs

-- the effect of a message on a module: the kind with its state afterwards, and the messages that leave
pub record Action (K : Type 0) : Type 0 where
  pub kind : K
  pub outs : OutList

-- the actions of the kinds of a vocabulary on a message that is not queued
abbrev pub Acts : Type 0 → Type 0
Acts K = K → Side → Msg → Action K

-- the meaning of a vocabulary: the actions of its kinds on a message, the turns of their services on a side,
-- their own messages, whether ordinary messages of a side may be answered on the other, and the kind once so
-- many ticks have passed, by which nothing is sent (timeout(9F))
pub record Meaning (K : Type 0) : Type 0 where
  pub acts : Acts K
  pub turn : K → Side → Turn
  pub own : K → Side → Action K
  pub answers : K → Side → Bool
  pub expire : K → ℕ → K

-- kinds that always serve the messages that wait, send nothing of their own, and ask for no ticks
abbrev pub serving : {K : Type 0} → Acts K → (K → Side → Bool) → Meaning K
serving acts answers =
    record {
      acts = acts;
      turn = λ kind side. Serves;
      own = λ kind side. record { kind = kind; outs = [] };
      answers = answers;
      expire = λ kind ticks. kind;
    }

-- no message, nothing that a kind sends of its own, and no tick changes on which sides it answers
pub record AnswersStay {K : Type 0} (means : Meaning K) : Type 0 where
  pub acts : (kind : K) (side other : Side) (m : Msg) → means.answers (means.acts kind side m).kind other ≡ means.answers kind other
  pub own : (kind : K) (side other : Side) → means.answers (means.own kind side).kind other ≡ means.answers kind other
  pub expire : (kind : K) (ticks : ℕ) (other : Side) → means.answers (means.expire kind ticks) other ≡ means.answers kind other

-- nothing leaves
abbrev pub kept : {K : Type 0} → K → Action K
kept kind = record { kind = kind; outs = [] }

-- the message goes on along its side (putnext(9F))
abbrev pub passed_on : {K : Type 0} → K → Side → Msg → Action K
passed_on kind side m = record { kind = kind; outs = (side, m) ∷ [] }

-- a message turns round and goes back up (qreply(9F))
abbrev pub replied : {K : Type 0} → K → Msg → Action K
replied kind m = record { kind = kind; outs = (Rd, m) ∷ [] }

-- an ioctl is answered
abbrev pub answered : {K : Type 0} → K → ℕ → ℕ → Part → Action K
answered kind id rval dat = replied kind (ack_msg id rval dat)
