-- A discipline that echoes the data that comes up, within a window. A line discipline does the same on a
-- larger scale.
use Rattle.std.specs.Prelude.{ℕ, Bool, true, false, ◌==◌, nat_le, Some, List, [], ◌++◌, length, if◌then◌else◌, unwrap_or}
use Rattle.strm_msg.specs.Message.{Msg, data_msg}
use Rattle.strm_msg.specs.declared.kind.MsgKind.{MsgKind}
use Rattle.strm_msg.specs.declared.kind.MsgKind.TheVariants.{MData}
use Rattle.strm_msg.specs.declared.words.Side.{Side}
use Rattle.strm_msg.specs.declared.words.Side.TheVariants.{Rd, Wr}
use Rattle.strm_module.specs.Kinds.{Action, Acts, Meaning, kept, passed_on}
use Rattle.strm_module.specs.declared.turn.Turn.{Turn}
use Rattle.strm_module.specs.declared.turn.Turn.TheVariants.{Serves, Shut, Sends}
use Rattle.port_echo.specs.declared.echoing.TheConstants.{MOST_OWED}
use Rattle.port_echo.specs.declared.echoing.Echoing.{Echoing}

abbrev pub owing : List ℕ → Echoing
owing bytes = record { owed = bytes }

-- data on its way up goes on, and is owed on the way down; all other messages go on
abbrev pub echoing_action : List ℕ → Side → MsgKind → Msg → Action Echoing
echoing_action owed Rd MData m = passed_on (owing (owed ++ unwrap_or m.dat [])) Rd m
echoing_action owed side kind m = passed_on (owing owed) side m

abbrev pub echoing_acts : Acts Echoing
echoing_acts s side m = echoing_action s.owed side m.kind m

-- no more data comes in while too much is owed, and the bytes that are owed go down before the messages that
-- wait
abbrev pub echoing_turn : List ℕ → Side → Turn
echoing_turn owed Rd = if nat_le MOST_OWED (length owed) then Shut else Serves
echoing_turn owed Wr = if length owed == 0 then Serves else Sends (Some 0)

abbrev pub echoing_own : List ℕ → Side → Action Echoing
echoing_own owed Rd = kept (owing owed)
echoing_own owed Wr = passed_on (owing []) Wr (data_msg 0 owed)

-- the discipline answers messages that come up, and none that go down
abbrev pub echoing_answers : Side → Bool
echoing_answers Rd = true
echoing_answers Wr = false

abbrev pub echoing : Meaning Echoing
echoing = record {
  acts = echoing_acts;
  turn = λ s side. echoing_turn s.owed side;
  own = λ s side. echoing_own s.owed side;
  answers = λ s side. echoing_answers side;
  expire = λ s ticks. s;
}

-- the number of bytes that it owes
abbrev pub debt : Echoing → Side → ℕ
debt s Rd = 0
debt s Wr = length s.owed
