use Rattle.std.proofs.Common.{◌≡◌, length, ◌++◌}
use Rattle.std.specs.Option.{option_map}
use Rattle.strm_script_text.specs.Text.{bytes_of}
use Rattle.strm_script_text.proofs.parts.spelt.Given as goal

-- the bytes so far, and then those that the rest spells, are those of the whole
abbrev pub invariant-loop-rest : goal.invariant-loop-rest
invariant-loop-rest l = option_map (λ bytes. l.all.items ++ bytes) (bytes_of l.rest) ≡ bytes_of l.text

abbrev pub decreases-loop-rest : goal.decreases-loop-rest
decreases-loop-rest l = length l.rest
