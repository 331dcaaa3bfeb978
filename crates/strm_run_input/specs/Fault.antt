-- The reason for which a run gave no transcript.
use Rattle.std.specs.Prelude.{ℕ, List, codes}
use Rattle.strm_run_input.specs.declared.fault.RunFault.{RunFault}
use Rattle.strm_run_input.specs.declared.fault.RunFault.TheVariants.{Workers, NoSuch, NoMem, Unfinished, NoReceipt}

abbrev pub run_fault_number : RunFault → ℕ
run_fault_number Workers = 1
run_fault_number NoSuch = 2
run_fault_number NoMem = 3
run_fault_number Unfinished = 5
run_fault_number NoReceipt = 6

-- the text that the fault prints
abbrev pub run_fault_text : RunFault → List ℕ
run_fault_text Workers = codes "workers"
run_fault_text NoSuch = codes "no such stream or end"
run_fault_text NoMem = codes "no memory"
run_fault_text Unfinished = codes "unfinished"
run_fault_text NoReceipt = codes "no receipt"
