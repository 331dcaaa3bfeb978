use Rattle.std.proofs.Common.{◌≡◌, [], ◌++◌, drop}
use Rattle.strm_script_text.specs.Text.{texts_of}
use Rattle.strm_script_parse.specs.Expected.{choices_from}
use Rattle.strm_script_parse.specs.Plan.{texts_in}
use Rattle.strm_script_parse.proofs.expected.choices.Given as goal

-- the choices so far, and those that the rest makes of the one that goes on
abbrev pub invariant-loop-field : goal.invariant-loop-field
invariant-loop-field l =
    texts_in l.all.items ++ choices_from l.choice.items (texts_of (drop l.field-index l.fields)) ≡ choices_from [] (texts_of l.fields)
