-- How far a link is behind some messages: how many it has passed on, and whether it holds one.
use Rattle.std.specs.Prelude.{ℕ, zero, suc, ◌+◌, Bool, true, false, is_some, List, length}
use Rattle.strm_msg.specs.Message.{Msg}
use Rattle.strm_link.specs.declared.act.Act.{Act}
use Rattle.strm_link.specs.declared.act.Act.TheVariants.{Keep, Lose, Double, Hold}
use Rattle.strm_link.specs.declared.passage.Passage.{Passage}
use Rattle.strm_link.specs.Rule.{RuleValue, act_of, after_act}
use Rattle.strm_link.specs.Link.{LinkValue, out_of, after_of}

-- how far a link is once these messages are taken
abbrev pub passage_of : LinkValue → List Msg → Passage
passage_of link taken = record { given = length (out_of link taken); held = is_some (after_of link taken).held }

-- ---- the same by acts, whichever messages are taken (no public clause cites it)

-- before the first message
abbrev pub nothing_yet : Passage
nothing_yet = record { given = 0; held = false }

-- the number of messages that are held
abbrev pub held_count : Bool → ℕ
held_count false = 0
held_count true = 1

-- the number of messages that were passed on or are held, at most two for each that was taken
abbrev pub seen : Passage → ℕ
seen passage = passage.given + held_count passage.held

-- behind one message more
abbrev pub passage_after : Act → Passage → Passage
passage_after Keep passage = record { given = passage.given + 1 + held_count passage.held; held = false }
passage_after Lose passage = passage
passage_after Double passage = record { given = passage.given + 2 + held_count passage.held; held = false }
passage_after Hold passage = record { given = passage.given + held_count passage.held; held = true }

-- behind so many more
abbrev pub passage_behind : RuleValue → Passage → ℕ → Passage
passage_behind rule passage zero = passage
passage_behind rule passage (suc n) = passage_behind (after_act rule) (passage_after (act_of rule) passage) n
