-- What a run that gave a transcript has.
use Rattle.std.proofs.Common.{Result, Ok, Err, IsErrOf}
use Rattle.std.specs.Prelude.{IfOk, IfErr}
use Rattle.strm_module.specs.declared.driver.Driver.TheVariants.{Echo}
use Rattle.strm_head_calls.specs.declared.setup.Setup.{Setup}
use Rattle.strm_run_input.specs.declared.fault.RunFault.{RunFault}
use Rattle.strm_run_input.specs.declared.fault.RunFault.TheVariants.{Workers, NoSuch, NoMem, Unfinished, NoReceipt}
use Rattle.strm_run.specs.Inside.Ending.{IsLate}

-- what follows from a fact about a value follows where there is one
pub if_ok : {T E : Type 0} (P Q : T → Type 0) (r : Result T E) → ((x : T) → P x → Q x) → IfOk r P → IfOk r Q
if_ok P Q (Ok x) follows is = follows x is
if_ok P Q (Err e) follows is = is

-- a setup, where none is asked for
pub any_setup : Setup
any_setup = record { driver = Echo; head = (0, 0); drv = (0, 0); ring = 0 }

-- a fault of a run of which all is there is not that something is not there
pub none_such : {T C : Type 0} (r : Result T RunFault) → IfErr r (λ fault. IsLate fault) → IsErrOf r NoSuch → C
none_such (Ok x) late is = absurd cc
none_such (Err Workers) late is = absurd late
none_such (Err NoSuch) late is = absurd late
none_such (Err NoMem) late is = absurd cc
none_such (Err Unfinished) late is = absurd cc
none_such (Err NoReceipt) late is = absurd cc

-- and not that there are no workers for it
pub not_workers : {T C : Type 0} (r : Result T RunFault) → IfErr r (λ fault. IsLate fault) → IsErrOf r Workers → C
not_workers (Ok x) late is = absurd cc
not_workers (Err Workers) late is = absurd late
not_workers (Err NoSuch) late is = absurd late
not_workers (Err NoMem) late is = absurd cc
not_workers (Err Unfinished) late is = absurd cc
not_workers (Err NoReceipt) late is = absurd cc
