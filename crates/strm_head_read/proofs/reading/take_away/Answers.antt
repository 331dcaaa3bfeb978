use Rattle.std.proofs.Common.{arith}
use Rattle.strm_head_read.proofs.ReadLemmas.{head_drops}
use Rattle.strm_head_read.proofs.reading.take_away.Goals as goal

pub loop-i-preserved : goal.loop-i-preserved
loop-i-preserved g c =
    let was = c.loop-i.invariant in
    let now = c.take_head.ensures in
    record {
      image = head_drops c.args.chain.now.image c.loop-i.chain.image c.take_head.new.self.image c.args.end c.loop-i._i was.image now.image;
      room = record {
        on_a = λ rank. omega (arith, was.room.on_a rank, now.room.on_a rank);
        on_b = λ rank. omega (arith, was.room.on_b rank, now.room.on_b rank);
      };
    }
