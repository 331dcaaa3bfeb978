use Rattle.strm_chain_end.specs.Pair.{QueuePair, messages_in}
use Rattle.strm_chain_end.proofs.WaitLemmas.{waits-sent, waits-taken}
use Rattle.strm_chain_end.proofs.pair.Pair.put.Goals as goal

pub returns-in-Sent-clause-waits : goal.returns-in-Sent-clause-waits
returns-in-Sent-clause-waits g c =
    let s : QueuePair g.row.M-Kind.Denot = record { shape = c.self.inside.instance; rd = messages_in c.self.inside.rd; wr = messages_in c.self.inside.wr } in
    rw (← c.self.view_is) (λ h. waits-sent s c.put.new.self c.behind-m.inside.kind c.flush.new.self c.flush.ensures c.put.ensures.same h)

pub returns-in_ok-queue_message-in-Queue-clause-waits : goal.returns-in_ok-queue_message-in-Queue-clause-waits
returns-in_ok-queue_message-in-Queue-clause-waits g c =
    let s : QueuePair g.row.M-Kind.Denot = record { shape = c.self.inside.instance; rd = messages_in c.self.inside.rd; wr = messages_in c.self.inside.wr } in
    let taken = rw c.in-Queue.is at c.in_ok-outs.ensures.queued in
    rw (← c.self.view_is) (λ h. waits-taken c.args.side s c.args.m c.in-Queue.m c.put.new.self c.queue_message.new.self taken c.in_ok-queue_message-in-Queue.ensures.ok h)
