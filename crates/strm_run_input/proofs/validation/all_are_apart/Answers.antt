use Rattle.std.proofs.Common.{◌≡◌, ◌+◌, true}
use Rattle.std.proofs.lemmas.List.{get_or_read, take_rest}
use Rattle.strm_run_input.specs.declared.run_link.RunLink.{RunLink}
use Rattle.strm_run_input.specs.Resolve.{are_apart}
use Rattle.strm_run_input.proofs.OnceLemmas.{pairs_more, pairs_this}
use Rattle.strm_run_input.proofs.validation.all_are_apart.Goals as goal

abbrev Apart : RunLink → RunLink → Type 0
Apart one other = are_apart one other ≡ true

pub returns-then-not-is_apart_from_all : goal.returns-then-not-is_apart_from_all
returns-then-not-is_apart_from_all c =
    let first = rw (take_rest c.args.links.now (c.loop-i.i + 1)) at c.is_apart_from_all.ensures in (
      (λ is. absurd cc),
      (λ once. absurd (cc (first.1 (pairs_this Apart c.args.links.now c.loop-i.i c.index-links-i.result (get_or_read c.args.links.now c.loop-i.i c.index-links-i.result c.loop-i-test.true c.index-links-i.is) once), c.if-not-is_apart_from_all.true))),
    )

pub loop-i-preserved : goal.loop-i-preserved
loop-i-preserved c =
    let first = rw (take_rest c.args.links.now (c.loop-i.i + 1)) at c.is_apart_from_all.ensures in
    pairs_more Apart c.args.links.now c.loop-i.i c.index-links-i.result (get_or_read c.args.links.now c.loop-i.i c.index-links-i.result c.loop-i-test.true c.index-links-i.is) (first.0 c.if-not-is_apart_from_all.false) c.loop-i.invariant
