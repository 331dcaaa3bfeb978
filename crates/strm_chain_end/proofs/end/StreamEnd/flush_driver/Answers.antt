use Rattle.strm_chain_end.proofs.WaitLemmas.{calm-flushed_if}
use Rattle.strm_chain_end.proofs.end.StreamEnd.flush_driver.Goals as goal

pub invariant_of-self : goal.invariant_of-self
invariant_of-self g c =
    let k = c.self.invariant in
    record {
      room = k.room;
      few = k.few;
      head_fit = k.head_fit;
      drv_fit = rw c.flush_list.ensures.marks k.drv_fit;
      fit = k.fit;
      waits = k.waits;
      calm = rw c.flush_list.ensures.messages (calm-flushed_if c.args.is_named c.args.band c.self.inside.drv.messages k.calm);
    }
