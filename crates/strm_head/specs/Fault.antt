-- The reason for which a stream was not made.
use Rattle.std.specs.Prelude.{ℕ, List, codes}
use Rattle.strm_head.specs.declared.fault.NewFault.{NewFault}
use Rattle.strm_head.specs.declared.fault.NewFault.TheVariants.{Marks, NoMem}

-- in the order in which the faults are looked for
abbrev pub new_fault_number : NewFault → ℕ
new_fault_number Marks = 1
new_fault_number NoMem = 2

-- the text that a fault prints
abbrev pub new_fault_text : NewFault → List ℕ
new_fault_text Marks = codes "a low water mark is not below its high one"
new_fault_text NoMem = codes "no memory"
