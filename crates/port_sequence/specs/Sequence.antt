-- The actions of the module on a message that is not queued.
use Rattle.std.specs.Prelude.{ℕ, ◌+◌, ◌-◌, ◌%◌, ◌^◌, ◌==◌, min, false, None, Some, List, [], ◌∷◌, if◌then◌else◌, unwrap_or}
use Rattle.strm_msg.specs.Message.{Msg}
use Rattle.strm_msg.specs.declared.kind.MsgKind.{MsgKind}
use Rattle.strm_msg.specs.declared.kind.MsgKind.TheVariants.{MData, MIoctl}
use Rattle.strm_msg.specs.declared.words.Side.{Side}
use Rattle.strm_msg.specs.declared.words.Side.TheVariants.{Rd, Wr}
use Rattle.strm_module.specs.Kinds.{Action, Acts, Meaning, serving, passed_on, answered}
use Rattle.port_sequence.specs.declared.kinds.Sequence.{Sequence}

-- the next number: a number has one byte, and 0 follows 255
abbrev pub after : ℕ → ℕ
after n = (n + 1) % 2 ^ 8

-- the number of steps from the expected number to this one
abbrev pub skipped : ℕ → ℕ → ℕ
skipped expected n = (n + (2 ^ 8 - expected)) % 2 ^ 8

-- the messages that are lost, with these more, up to the greatest u64
abbrev pub more_lost : ℕ → ℕ → ℕ
more_lost lost n = min (lost + n) 18446744073709551615

-- a module that has numbered and judged nothing
abbrev pub fresh : Sequence
fresh = record { down = 0; up = 0; lost = 0 }

-- data on its way down gets the next number in front
abbrev pub numbered_action : Sequence → Msg → Action Sequence
numbered_action s m =
    passed_on (record s { down = after s.down }) Wr (record m { dat = Some (s.down ∷ unwrap_or m.dat []) })

-- data on its way up, by its bytes: it goes on without its number, and the numbers that were skipped count as
-- lost; data without a byte has no number
abbrev pub judged_action : Sequence → Msg → List ℕ → Action Sequence
judged_action s m [] = passed_on s Rd m
judged_action s m (number ∷ rest) =
    passed_on (record s { up = after number; lost = more_lost s.lost (skipped s.up number) }) Rd (record m { dat = Some rest })

-- ioctl 1 asks for the number of messages that were lost; all other messages go on
abbrev pub sequence_action : Sequence → Side → MsgKind → Msg → Action Sequence
sequence_action s Wr MData m = numbered_action s m
sequence_action s Rd MData m = judged_action s m (unwrap_or m.dat [])
sequence_action s Wr (MIoctl id cmd) m = if cmd == 1 then answered s id s.lost None else passed_on s Wr m
sequence_action s side kind m = passed_on s side m

abbrev pub sequence_acts : Acts Sequence
sequence_acts s side m = sequence_action s side m.kind m

-- the service always serves the messages that wait; the module sends nothing of its own or as an answer
abbrev pub sequence : Meaning Sequence
sequence = serving sequence_acts (λ s side. false)
