-- Which faults a run of a script may have.
use Rattle.std.proofs.Common.{◌≡◌, ◌↔◌, ℕ, Bool, true, false, not, Result, Err, IsErrOf, refl, ap}
use Rattle.strm_run_input.specs.Resolve.{is_worker_count}
use Rattle.strm_run_input.specs.declared.fault.RunFault.{RunFault}
use Rattle.strm_run_input.specs.declared.fault.RunFault.TheVariants as runs
use Rattle.strm_script_play.specs.Played.{may_have}

pub unless_false : (b : Bool) → (b ≡ false → ⊥) → b ≡ true
unless_false true refuted = refl
unless_false false refuted = absurd (refuted refl)

-- a run says when it answers `Workers` and `NoSuch`, and all is there that its scripts name
pub may_be : {T There : Type 0} (workers : ℕ) (fault : RunFault) (r : Result T RunFault) → r ≡ Err fault → IsErrOf r runs.Workers ↔ (is_worker_count workers ≡ false) → IsErrOf r runs.NoSuch ↔ ((is_worker_count workers ≡ true) × (There → ⊥)) → There → may_have workers fault ≡ true
may_be workers runs.Workers r is by_workers by_place there = ap not (by_workers.0 is)
may_be workers runs.NoSuch r is by_workers by_place there = absurd ((by_place.0 is).1 there)
may_be workers runs.NoMem r is by_workers by_place there = refl
may_be workers runs.NoReceipt r is by_workers by_place there = unless_false (is_worker_count workers) (λ out. let told = by_workers.1 out in absurd cc)
may_be workers runs.Unfinished r is by_workers by_place there = unless_false (is_worker_count workers) (λ out. let told = by_workers.1 out in absurd cc)
