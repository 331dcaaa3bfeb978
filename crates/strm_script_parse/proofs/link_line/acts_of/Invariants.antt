use Rattle.std.proofs.Common.{◌≡◌, map, take}
use Rattle.strm_script_parse.specs.Reading.{act_of_letter}
use Rattle.strm_script_parse.proofs.link_line.acts_of.Given as goal

-- the acts of the letters so far
abbrev pub invariant-loop-letter : goal.invariant-loop-letter
invariant-loop-letter l = l.acts.items ≡ map act_of_letter (take l.letter-index l.text)
