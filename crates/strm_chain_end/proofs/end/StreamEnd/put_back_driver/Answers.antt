use Rattle.strm_chain_end.proofs.WaitLemmas.{calm-put_back}
use Rattle.strm_chain_end.proofs.end.StreamEnd.put_back_driver.Goals as goal

pub invariant_of-self : goal.invariant_of-self
invariant_of-self g c =
    let k = c.self.invariant in
    record {
      room = k.room;
      few = k.few;
      head_fit = k.head_fit;
      drv_fit = rw c.put_back.ensures.marks k.drv_fit;
      fit = k.fit;
      waits = k.waits;
      calm = calm-put_back c.put_back.result c.self.inside.drv.messages c.put_back.new.self.messages c.args.m c.put_back.ensures.ok c.put_back.ensures.err c.requires k.calm;
    }

pub returns-clause-spent : goal.returns-clause-spent
returns-clause-spent g c = rw (← c.self.view_is) c.put_back.ensures.spent

pub returns-clause-unspent : goal.returns-clause-unspent
returns-clause-unspent g c = rw (← c.self.view_is) c.put_back.ensures.unspent
