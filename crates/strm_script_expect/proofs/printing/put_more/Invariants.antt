use Rattle.std.proofs.Common.{take}
use Rattle.std.specs.Io.KnownBytes.{Appends}
use Rattle.strm_script_parse.specs.Plan.{texts_in}
use Rattle.strm_script_expect.specs.Unmet.{more_choices_text}
use Rattle.strm_script_expect.proofs.printing.put_more.Given as goal

-- the choices so far are written
abbrev pub invariant-loop-choice : goal.invariant-loop-choice
invariant-loop-choice g l =
    Appends (g.W.Write.contents l.fn.w) (g.W.Write.contents l.w) (more_choices_text (texts_in (take l.choice-index l.choices)))
