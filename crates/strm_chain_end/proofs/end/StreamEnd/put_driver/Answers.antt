use Rattle.strm_chain_end.proofs.WaitLemmas.{calm-tried}
use Rattle.strm_chain_end.proofs.end.StreamEnd.put_driver.Goals as goal

pub invariant_of-self : goal.invariant_of-self
invariant_of-self g c =
    let k = c.self.invariant in
    record {
      room = k.room;
      few = k.few;
      head_fit = k.head_fit;
      drv_fit = rw c.put.ensures.marks k.drv_fit;
      fit = k.fit;
      waits = k.waits;
      calm = calm-tried c.put.result c.self.inside.drv.messages c.put.new.self.messages c.args.m c.put.ensures.ok c.put.ensures.err c.requires k.calm;
    }

pub returns-clause-spent : goal.returns-clause-spent
returns-clause-spent g c = rw (← c.self.view_is) c.put.ensures.spent

pub returns-clause-unspent : goal.returns-clause-unspent
returns-clause-unspent g c = rw (← c.self.view_is) c.put.ensures.unspent
