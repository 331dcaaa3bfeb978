use Rattle.strm_module.proofs.ProcedureLemmas.{serve_keeps}
use Rattle.strm_module.proofs.instance.Instance.serve.Goals as goal

pub returns-clause-outs : goal.returns-clause-outs
returns-clause-outs g c = rw (← c.self.view_is) c.serve.ensures.outs

pub returns-clause-after : goal.returns-clause-after
returns-clause-after g c = rw (← c.self.view_is) c.serve.ensures.after

pub returns-clause-err : goal.returns-clause-err
returns-clause-err g c = rw (← c.self.view_is) c.serve.ensures.err

pub returns-clause-same : goal.returns-clause-same
returns-clause-same g c =
    rw (← c.self.view_is)
    (serve_keeps g.M.Kind.Kinds.means c.serve.result c.self.inside.shape c.serve.new.shape c.args.side c.args.m c.serve.ensures.after c.serve.ensures.err)
