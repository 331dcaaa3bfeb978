-- The text and the exit status of the program when it prints no transcript.
use Rattle.std.specs.Prelude.{◌≡◌, ◌≢◌, ℕ, List, [], ◌∷◌, ◌++◌, Option, None, Some, codes}
use Rattle.std.specs.IoError.{error_kind}
use Rattle.std.specs.declared.io.Error as io
use Rattle.std.specs.declared.io.ErrorKind.TheVariants as io_kinds
use Rattle.clap.specs.declared.error.Error.{Error}
use Rattle.clap.specs.declared.error.kind.ErrorKind.TheVariants.{DisplayHelp, DisplayVersion, OutOfMemory}
use Rattle.clap.specs.Words.{kind_of}
use Rattle.strm_script_parse.specs.Fault as scripts
use Rattle.strm_script_words.specs.declared.fault.Cause.TheVariants as Causes
use Rattle.strm_script_parse.specs.declared.fault.PlayFault.TheVariants as PlayFaults
use Rattle.strm_script_parse.specs.declared.loading.LoadFault.{LoadFault}
use Rattle.strm_script_parse.specs.declared.loading.LoadFault.TheVariants as LoadFaults
use Rattle.strm_run_input.specs.declared.fault.RunFault.TheVariants as RunFaults
use Rattle.strm_script_orders.specs.declared.fault.OrderCause.TheVariants as OrderCauses
use Rattle.strm_script_orders.specs.declared.fault.OrderFault.{OrderFault}
use Rattle.strm_script_orders.specs.Fault.{order_fault_text}
use Rattle.strsh_options.specs.declared.fault.Fault.{Fault}
use Rattle.strsh_options.specs.declared.fault.Fault.TheVariants.{Words, Read, Script, Order, Run, Write}

-- a line of the program, behind its name and with its line end
abbrev pub line : List ℕ → List ℕ
line text = codes "strsh: " ++ text ++ 10 ∷ []

-- the line of a fault; for a command line it is the text that `clap` has
abbrev pub fault_line : Fault → Option (List ℕ)
fault_line (Words error) = None
fault_line Read = Some (line (codes "cannot read the script"))
fault_line (Script fault) = Some (line (scripts.fault_text fault))
fault_line (Order fault) = Some (line (codes "order " ++ order_fault_text fault))
fault_line (Run fault) = Some (line (scripts.play_fault_text (PlayFaults.Run fault)))
fault_line Write = Some (line (codes "cannot write the transcript"))

-- the exit status of a fault: 2 for the command line, unless help or the version was asked for, for the
-- reading, for the script and for a spelt order; 1 for the run and the writing
abbrev pub EndsWith : Fault → ℕ → Type 0
EndsWith (Words error) status =
    (kind_of error ≡ DisplayHelp → status ≡ 0) × (kind_of error ≡ DisplayVersion → status ≡ 0) × (kind_of error ≢ DisplayHelp → kind_of error ≢ DisplayVersion → status ≡ 2)
EndsWith Read status = status ≡ 2
EndsWith (Script fault) status = status ≡ 2
EndsWith (Order fault) status = status ≡ 2
EndsWith (Run fault) status = status ≡ 1
EndsWith Write status = status ≡ 1

-- the fault of an error of the command line; out of memory is that of a run
pub record IsFaultOf (error : Error) (fault : Fault) : Type 0 where
  pub memory : kind_of error ≡ OutOfMemory → fault ≡ Run RunFaults.NoMem
  pub words : kind_of error ≢ OutOfMemory → fault ≡ Words error

-- the fault of a script that cannot be read; out of memory for its text is reported as that of a script, for
-- line 0
abbrev pub fault_of_load : LoadFault → Fault
fault_of_load LoadFaults.Read = Read
fault_of_load LoadFaults.NoMem = Script (record { line = 0; cause = Causes.NoMemory })

-- the fault of words of the command line that cannot be read: that of a script that cannot be read; out of
-- memory is that of a run
pub record IsFaultOfWords (error : io.Error) (fault : Fault) : Type 0 where
  pub memory : error_kind error ≡ io_kinds.OutOfMemory → fault ≡ Run RunFaults.NoMem
  pub read : error_kind error ≢ io_kinds.OutOfMemory → fault ≡ Read

-- the fault of a text that spells no order; out of memory is that of a run
pub record IsFaultOfOrder (order : OrderFault) (fault : Fault) : Type 0 where
  pub memory : order.cause ≡ OrderCauses.NoMemory → fault ≡ Run RunFaults.NoMem
  pub spelling : order.cause ≢ OrderCauses.NoMemory → fault ≡ Order order
