use Rattle.strm_module.proofs.ProcedureLemmas.{own_keeps}
use Rattle.strm_module.proofs.instance.Instance.own.Goals as goal

pub returns-clause-outs : goal.returns-clause-outs
returns-clause-outs g c = rw (← c.self.view_is) c.own.ensures.outs

pub returns-clause-after : goal.returns-clause-after
returns-clause-after g c = rw (← c.self.view_is) c.own.ensures.after

pub returns-clause-err : goal.returns-clause-err
returns-clause-err g c = rw (← c.self.view_is) c.own.ensures.err

pub returns-clause-same : goal.returns-clause-same
returns-clause-same g c =
    rw (← c.self.view_is)
    (own_keeps g.M.Kind.Kinds.means c.own.result c.self.inside.shape c.own.new.shape c.args.side c.own.ensures.after c.own.ensures.err)
