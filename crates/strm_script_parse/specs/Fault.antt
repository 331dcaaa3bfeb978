-- The texts of the faults of a script and of a play.
use Rattle.std.specs.Prelude.{ℕ, List, ◌++◌, codes}
use Rattle.std.specs.Fmt.{decimal}
use Rattle.strm_script_words.specs.Fault.{cause_number, cause_text}
use Rattle.strm_run_input.specs.Fault as runs
use Rattle.strm_script_parse.specs.declared.fault.ScriptFault.{ScriptFault}
use Rattle.strm_script_parse.specs.declared.fault.PlayFault.{PlayFault}
use Rattle.strm_script_parse.specs.declared.fault.PlayFault.TheVariants.{Script, Run}

-- the text of a script's fault: `line N: C TEXT`, with the number and the text of the cause
abbrev pub fault_text : ScriptFault → List ℕ
fault_text fault =
    codes "line " ++ decimal fault.line ++ codes ": " ++ decimal (cause_number fault.cause) ++ codes " " ++ cause_text fault.cause

-- the text of a play's fault: that of its script, or `run fault N TEXT` for its run
abbrev pub play_fault_text : PlayFault → List ℕ
play_fault_text (Script fault) = fault_text fault
play_fault_text (Run fault) = codes "run fault " ++ decimal (runs.run_fault_number fault) ++ codes " " ++ runs.run_fault_text fault
