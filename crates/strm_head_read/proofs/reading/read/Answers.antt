use Rattle.std.proofs.Common.{refl}
use Rattle.strm_head_read.proofs.ReadLemmas.{alone_reply, read_reply}
use Rattle.strm_head_read.proofs.reading.read.Goals as goal

pub returns-clause-reply : goal.returns-clause-reply
returns-clause-reply g c =
    let found = rw (c.state.ensures, c.state-2.ensures) at c.in_ok-found.ensures.bytes in
    rw (read_reply c.args.chain.now.image c.args.end c.args.max c.in_ok-found.found.bytes c.head-2.result.now.messages c.if-max-eq0.false c.head-2.ensures.messages found) at c.copy_out.ensures.reply

pub returns-then-is_single_data-clause-reply : goal.returns-then-is_single_data-clause-reply
returns-then-is_single_data-clause-reply g c =
    alone_reply c.args.chain.now.image c.args.end c.args.max c.head-then-is_alone.result.now.messages g.A.ReplyForm.says c.move_single.result c.if-max-eq0.false c.head-then-is_alone.ensures.messages (c.if-is_single_data.ensures refl) c.move_single.ensures.reply
