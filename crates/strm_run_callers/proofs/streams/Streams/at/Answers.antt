use Rattle.strm_run_callers.proofs.PlayLemmas.{number_at}
use Rattle.strm_run_callers.proofs.streams.Streams.at.Goals as goal

pub returns : goal.returns
returns g c = number_at g.N.RunName.run c.self.inside.all.items c.args.number c.index.result.now c.self.invariant c.requires c.index.ensures
