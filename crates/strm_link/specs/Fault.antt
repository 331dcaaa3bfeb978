-- The reasons for which a rule was not made.
use Rattle.std.specs.Prelude.{ℕ, List, codes}
use Rattle.strm_link.specs.declared.fault.RuleFault.{RuleFault}
use Rattle.strm_link.specs.declared.fault.RuleFault.TheVariants.{Acts, Draws}

abbrev pub rule_fault_number : RuleFault → ℕ
rule_fault_number Acts = 1
rule_fault_number Draws = 2

-- the texts that the faults print
abbrev pub rule_fault_text : RuleFault → List ℕ
rule_fault_text Acts = codes "the pattern of a link does not have 1 to 64 acts"
rule_fault_text Draws = codes "the odds of a link are together more than 256 of 256"
