use Rattle.std.proofs.Common.{◌≡◌, ◌-◌}
use Rattle.strm_msg.specs.Message.{part_len}
use Rattle.strm_head_read.specs.Read.{bytes_in}
use Rattle.strm_head_read.proofs.ReadLemmas.{both_added}
use Rattle.strm_head_read.proofs.reading.add_bytes.Goals as goal

pub returns-in_ok-add_part-in-Dat-2 : goal.returns-in_ok-add_part-in-Dat-2
returns-in_ok-add_part-in-Dat-2 c =
    let left : c.saturating_sub.result ≡ c.args.most - part_len c.m.inside.ctl = cc in
    rw (c.in-Dat.is, ← c.m.view_is)
    (both_added c.args.most c.saturating_sub.result c.m.inside.ctl (bytes_in c.m.inside.dat) c.args.out.now.items c.add_part-in-Dat.new.out.items c.add_part-in-Dat-2.new.out.items left c.in_ok-add_part-in-Dat.ensures c.in_ok-add_part-in-Dat-2.ensures)
