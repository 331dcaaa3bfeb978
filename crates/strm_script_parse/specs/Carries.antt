-- Carries, as the code has them (no public clause cites it).
use Rattle.std.specs.Prelude.{ℕ}
use Rattle.strm_msg.specs.declared.words.End.TheVariants.{A}
use Rattle.strm_head_calls.specs.declared.request.Request.TheVariants.{Take}
use Rattle.strm_run_input.specs.declared.script.ScriptCall.{ScriptCall}
use Rattle.strm_script_parse.specs.Reading.{Carrying}
use Rattle.strm_script_parse.specs.declared.carry_line.Carries.{Carries}

abbrev pub carrying_view : Carries → Carrying
carrying_view carries = record { link = carries.link; from = carries.from; many = carries.many }

-- the call that a carry stands for
abbrev pub take_call : {P : Type 0} → ℕ → ScriptCall P
take_call wire = record { stream = wire; call = record { end = A; request = Take } }
