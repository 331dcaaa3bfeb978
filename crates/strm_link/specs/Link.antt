-- Links: what becomes of the messages that are taken.
use Rattle.std.specs.Prelude.{Option, Some, None, List, [], ◌∷◌, ◌++◌}
use Rattle.std.specs.Option.{option_to_list}
use Rattle.strm_msg.specs.Message.{Msg}
use Rattle.strm_link.specs.declared.act.Act.{Act}
use Rattle.strm_link.specs.declared.act.Act.TheVariants.{Keep, Lose, Double, Hold}
use Rattle.strm_link.specs.Rule.{RuleValue, act_of, after_act}

-- a link: its rule from the next message on, and the message that it holds
pub record LinkValue : Type 0 where
  pub rule : RuleValue
  pub held : Option Msg

-- a link that holds nothing
abbrev pub fresh : RuleValue → LinkValue
fresh rule = record { rule = rule; held = None }

-- ---- one message

-- what is passed on when a message is taken, by the act and the message that is held
abbrev pub leaves : Act → Msg → Option Msg → List Msg
leaves Keep m held = m ∷ option_to_list held
leaves Lose m held = []
leaves Double m held = m ∷ m ∷ option_to_list held
leaves Hold m held = option_to_list held

-- what is held then
abbrev pub held_after : Act → Msg → Option Msg → Option Msg
held_after Keep m held = None
held_after Lose m held = held
held_after Double m held = None
held_after Hold m held = Some m

-- the link behind a message
abbrev pub passed : LinkValue → Msg → LinkValue
passed link m = record { rule = after_act link.rule; held = held_after (act_of link.rule) m link.held }

-- ---- all messages

-- all that is passed on when these messages are taken, one after another
abbrev pub out_of : LinkValue → List Msg → List Msg
out_of link [] = []
out_of link (m ∷ rest) = leaves (act_of link.rule) m link.held ++ out_of (passed link m) rest

-- the link behind them
abbrev pub after_of : LinkValue → List Msg → LinkValue
after_of link [] = link
after_of link (m ∷ rest) = after_of (passed link m) rest
