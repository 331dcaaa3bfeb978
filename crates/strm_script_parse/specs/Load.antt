-- The reason for which a script is not loaded.
use Rattle.std.specs.Prelude.{◌≡◌, ◌≢◌, ℕ, List, codes}
use Rattle.std.specs.IoError.{error_kind}
use Rattle.std.specs.declared.io.Error.{Error}
use Rattle.std.specs.declared.io.ErrorKind.TheVariants.{OutOfMemory}
use Rattle.strm_script_parse.specs.declared.loading.LoadFault.{LoadFault}
use Rattle.strm_script_parse.specs.declared.loading.LoadFault.TheVariants.{Read, NoMem}

abbrev pub load_number : LoadFault → ℕ
load_number Read = 1
load_number NoMem = 2

-- the text of a fault, as it is printed
abbrev pub load_text : LoadFault → List ℕ
load_text Read = codes "cannot read the script"
load_text NoMem = codes "no memory"

-- the fault of a reader's error: out of memory, else a failed read
pub record IsFaultOf (error : Error) (fault : LoadFault) : Type 0 where
  pub memory : error_kind error ≡ OutOfMemory → fault ≡ NoMem
  pub read : error_kind error ≢ OutOfMemory → fault ≡ Read
