use Rattle.std.proofs.Common.{length}
use Rattle.strm_run.proofs.LinkLemmas.{lines_linked, links_there}
use Rattle.strm_run.proofs.ThereLemmas.{run_lines_fed}
use Rattle.strm_run.proofs.running.run_named_in_order.Goals as goal

pub finish-requires-clause-lines : goal.finish-requires-clause-lines
finish-requires-clause-lines g c κs within =
    let input = c.requires.input in
    run_lines_fed g.N.RunName.run c.args.scripts.items (rw (input.setups_are, input.feeds_are, input.links_are) input.there)

pub finish-requires-clause-linked : goal.finish-requires-clause-linked
finish-requires-clause-linked g c κs within =
    let input = c.requires.input in
    lines_linked g.N.RunName.run (length c.args.scripts.items) (rw (input.setups_are, input.feeds_are, input.links_are) input.there.joined)

pub finish-requires-clause-there : goal.finish-requires-clause-there
finish-requires-clause-there g c κs within =
    let input = c.requires.input in
    links_there g.N.RunName.run (length c.args.scripts.items) (rw (input.setups_are, input.feeds_are, input.links_are) input.there.joined)
