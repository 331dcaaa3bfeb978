use Rattle.std.proofs.Common.{◌≡◌, drop}
use Rattle.std.specs.List.{list_any}
use Rattle.std.specs.Str.{bytes_eq}
use Rattle.strm_script_parse.specs.Plan.{texts_in}
use Rattle.strm_script_expect.proofs.judging.is_one.Given as goal

-- the text is none of those so far
abbrev pub invariant-loop-choice : goal.invariant-loop-choice
invariant-loop-choice l =
    list_any (bytes_eq l.text) (texts_in (drop l.choice-index l.choices)) ≡ list_any (bytes_eq l.text) (texts_in l.choices)
