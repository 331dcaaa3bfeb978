use Rattle.std.proofs.Common.{Ok, ap, sym, ◌∙◌}
use Rattle.strm_script_words.specs.Fault.{or_fault}
use Rattle.strm_script_words.specs.declared.fault.Cause.TheVariants as causes
use Rattle.strm_script_words.proofs.field.part_at.Goals as goal

-- a part that is written as its bytes are
pub returns-in-Some : goal.returns-in-Some
returns-in-Some c = ap (or_fault causes.Part) c.in-Some.ensures ∙ ap Ok (sym c.in_ok-from_slice.ensures.copy)
