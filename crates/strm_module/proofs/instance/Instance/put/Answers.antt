use Rattle.strm_module.proofs.ProcedureLemmas.{put_keeps, put_queues}
use Rattle.strm_module.proofs.instance.Instance.put.Goals as goal

pub returns-clause-answer : goal.returns-clause-answer
returns-clause-answer g c = rw (← c.self.view_is) c.put.ensures.answer

pub returns-clause-after : goal.returns-clause-after
returns-clause-after g c = rw (← c.self.view_is) c.put.ensures.after

pub returns-clause-err : goal.returns-clause-err
returns-clause-err g c = rw (← c.self.view_is) c.put.ensures.err

pub returns-clause-same : goal.returns-clause-same
returns-clause-same g c =
    rw (← c.self.view_is)
    (put_keeps g.M.Kind.Kinds.means c.put.result c.self.inside.shape c.put.new.shape c.args.side c.args.m c.put.ensures.after c.put.ensures.err)

pub returns-clause-queued : goal.returns-clause-queued
returns-clause-queued g c =
    rw (← c.self.view_is)
    (put_queues g.M.Kind.Kinds.means c.put.result c.self.inside.shape c.put.new.shape c.args.side c.args.m c.put.ensures.answer c.put.ensures.after)
