use Rattle.std.proofs.Common.{◌≡◌, ◌-◌, ◌<◌, ◌≤◌, length, sym, arith}
use Rattle.strm_head_read.specs.Read.{bytes_read, reached}
use Rattle.strm_head_read.proofs.ReadLemmas.{given_more, given_stops, given_all}
use Rattle.strm_head_read.proofs.reading.whole_of.Goals as goal
use Rattle.strm_head_read.proofs.reading.whole_of.Goals.{in_default-via-in-Some+else-size_read-left, in_default-via-in_default}

pub returns-in_default-clause-count : goal.returns-in_default-clause-count
returns-in_default-clause-count c =
    let reach = reached c.args.mode c.args.prot c.args.queue.now.messages in
    let n = c.args.max in
    let bytes = c.loop-i.bytes.items in
    let ok = c.loop-i.bytes.ok.0 in
    elim c.in_default.branch [
      | in_default-via-in-Some+else-size_read-left w ↦
          let long : n - length bytes < length (bytes_read c.args.prot w.in-Some.m.now) = omega arith in
          given_stops c.args.prot n reach c.loop-i.i bytes w.in-Some.m.now c.loop-i.invariant (sym w.in-Some.ensures) long
      | in_default-via-in_default w ↦
          given_all c.args.prot n reach c.loop-i.i bytes c.loop-i.invariant (sym (rw w.in_default.is at c.reached_at.ensures))
    ]

pub loop-i-preserved : goal.loop-i-preserved
loop-i-preserved c =
    let reach = reached c.args.mode c.args.prot c.args.queue.now.messages in
    let n = c.args.max in
    let bytes = c.loop-i.bytes.items in
    let ok = c.loop-i.bytes.ok.0 in
    let m = c.in-Some.m.now in
    let left : c.from.result - c.len.result ≡ n - length bytes = omega arith in
    let fits : length (bytes_read c.args.prot m) ≤ n - length bytes = omega arith in
    given_more c.args.prot n reach c.loop-i.i bytes c.add_bytes.new.out.items m c.loop-i.invariant (sym c.in-Some.ensures) fits (rw left at c.in_ok-add_bytes-in-Some.ensures)
