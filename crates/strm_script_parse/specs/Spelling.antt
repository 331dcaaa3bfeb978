-- The result of `parse`: the plan that the script spells, unless memory runs out.
use Rattle.std.specs.Prelude.{◌≡◌, ◌⊎◌, ℕ, Result, Ok, Err}
use Rattle.strm_module.specs.declared.shape.Shape.{Shape}
use Rattle.strm_script_words.specs.declared.fault.Cause.{Cause}
use Rattle.strm_script_words.specs.declared.fault.Cause.TheVariants as causes
use Rattle.strm_script_parse.specs.Plan.{Whole, plan_view}
use Rattle.strm_script_parse.specs.Reading.{FaultAt}
use Rattle.strm_script_parse.specs.declared.fault.ScriptFault.{ScriptFault}
use Rattle.strm_script_parse.specs.declared.plan.Plan.{Plan}

-- the fault of out of memory, which is reported for line 0
pub record IsNoMemory (fault : ScriptFault) : Type 0 where
  pub line : fault.line ≡ 0
  pub cause : fault.cause ≡ causes.NoMemory

-- the fault of a line
abbrev pub fault_at : ℕ → Cause → ScriptFault
fault_at line cause = record { line = line; cause = cause }

-- the fault of a script that is too long, which is reported before any line
abbrev pub too_long : ScriptFault
too_long = fault_at 0 causes.TooLong

-- the plan is the one that is spelt; the fault is the one that reading finds, or out of memory
abbrev pub Spells : {K : Type 0} → Result (Plan (Shape K)) ScriptFault → Result (Whole K) FaultAt → Type 0
Spells (Ok plan) spelt = spelt ≡ Ok (plan_view plan)
Spells (Err fault) spelt = IsNoMemory fault ⊎ (spelt ≡ Err (record { line = fault.line; cause = fault.cause }))
