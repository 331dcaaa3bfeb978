use Rattle.std.proofs.Common.{◌≡◌, false, drop}
use Rattle.strm_script_text.specs.Text.{texts_of}
use Rattle.strm_script_parse.specs.Expected.{each_has}
use Rattle.strm_script_parse.proofs.expected.each_has.Given as goal

-- the rest decides, by whether the choice has a field so far
abbrev pub invariant-loop-text : goal.invariant-loop-text
invariant-loop-text l = each_has l.has (texts_of (drop l.text-index l.texts)) ≡ each_has false (texts_of l.texts)
