use Rattle.std.proofs.Common.{◌≡◌, ◌<◌, ◌++◌, length, All}
use Rattle.std.specs.Str.Lines.{lines}
use Rattle.strm_script_parse.specs.Section.{whole_lines, whole_text}
use Rattle.strm_script_parse.proofs.section.sections.Given as goal

-- the text is what was cut off so far, and the rest
abbrev pub invariant-loop-rest : goal.invariant-loop-rest
invariant-loop-rest g l = record {
  whole : whole_text l.all.items ++ l.rest ≡ l.text;
  lines : whole_lines l.all.items ++ lines l.rest ≡ lines l.text;
  some : All (λ section. 0 < length section.text.now) l.all.items;
}

abbrev pub decreases-loop-rest : goal.decreases-loop-rest
decreases-loop-rest g l = length l.rest
