use Rattle.std.proofs.Common.{rules, tests, ◌==◌, None, ◌≡◌}
use Rattle.std.proofs.lemmas.Iterator.{YieldsList-from_slice}
use Rattle.std.proofs.lemmas.Iterator.Search.{position_from_yields_List}
use Rattle.strm_script_text.specs.Text.{halves_of}
use Rattle.strm_script_text.proofs.LineLemmas.{cut_at_place, uncut_without_place}
use Rattle.strm_script_text.proofs.lines.split_once.Goals as goal

pub returns-in_err-at-clause-halves : goal.returns-in_err-at-clause-halves
returns-in_err-at-clause-halves c =
    let place = position_from_yields_List (λ other. other == c.args.byte) _ _ c.position.result c.position.ensures.ran (YieldsList-from_slice c.args.text.now cc) (λ x b q k. search (rules, tests)) in
    let uncut : None ≡ halves_of c.args.byte c.args.text.now = uncut_without_place _ _ _ _ place c.in_err-at.was in
    rw c.from_residual.ensures uncut

pub returns-clause-halves : goal.returns-clause-halves
returns-clause-halves c =
    let place = position_from_yields_List (λ other. other == c.args.byte) _ _ c.position.result c.position.ensures.ran (YieldsList-from_slice c.args.text.now cc) (λ x b q k. search (rules, tests)) in
    cut_at_place _ _ _ _ _ place c.in_ok-at.was
