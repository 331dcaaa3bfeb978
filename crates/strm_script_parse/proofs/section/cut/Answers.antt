use Rattle.std.proofs.Common.{◌≡◌, ◌+◌, ◌≤◌, ◌++◌, length, slice_index, take, ap, sym, ◌∙◌, arith, rules}
use Rattle.std.specs.Str.Lines.{lines}
use Rattle.std.proofs.lemmas.List.{take_rest}
use Rattle.strm_script_parse.proofs.SectionLemmas.{lines_cut}
use Rattle.strm_script_parse.proofs.section.cut.Goals as goal

pub returns-in-Some-clause-lines : goal.returns-in-Some-clause-lines
returns-in-Some-clause-lines c =
    let found = c.in-Some.ensures.1 in
    let fits : c.in-Some.at + 8 ≤ length c.args.text.now = found.fits in
    let ends : slice_index c.args.text.now c.in-Some.at ≡ 10 = search rules in
    lines_cut c.args.text.now c.in-Some.at (c.in-Some.at + 1) (omega arith) (omega (arith, fits)) ends
    ∙ ap (λ rest. lines (take (c.in-Some.at + 1) c.args.text.now) ++ lines rest) (sym (take_rest c.args.text.now (c.in-Some.at + 1)))
