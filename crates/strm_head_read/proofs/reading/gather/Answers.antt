use Rattle.std.proofs.Common.{◌≡◌, ◌-◌, length, sym, arith}
use Rattle.std.proofs.lemmas.Option.{slice_get_within}
use Rattle.strm_head_read.specs.Read.{reached}
use Rattle.strm_head_read.proofs.ReadLemmas.{reached_within, cut_bytes, cut_stays, last_bytes, full_bytes}
use Rattle.strm_head_read.proofs.reading.gather.Goals as goal
use Rattle.strm_head_read.proofs.reading.gather.Goals.{in_default-via-in-Some+else-left-gt0, in_default-via-in_default}

pub overflow_add-result : goal.overflow_add-result
overflow_add-result c =
    let reach = reached c.args.mode c.args.prot c.args.queue.now.messages in
    let here = slice_get_within reach c.in_ok-bytes.field-0.count c.in-Some.m.now (sym c.in-Some.ensures) in
    let few = c.in_ok-bytes.ensures.few in
    omega (arith, here, few, reached_within c.args.mode c.args.prot c.args.queue.now.messages)

pub returns-in_ok-rest-in-Some-clause-bytes : goal.returns-in_ok-rest-in-Some-clause-bytes
returns-in_ok-rest-in-Some-clause-bytes c =
    let whole = c.in_ok-bytes.field-0 in
    let ok = whole.bytes.ok.0 in
    let left : c.args.max - c.len.result ≡ c.args.max - length whole.bytes.items = omega arith in
    cut_bytes c.args.mode c.args.prot c.args.max c.args.queue.now.messages whole.count whole.bytes.items c.in_ok-bytes.ensures.count c.in_ok-bytes.ensures.bytes c.in-Some.m.now c.add_bytes.new.out.items (sym c.in-Some.ensures)
    (rw (c.from.ensures, left) at c.in_ok-add_bytes-in-Some.ensures)

pub returns-in_ok-rest-in-Some-clause-stays : goal.returns-in_ok-rest-in-Some-clause-stays
returns-in_ok-rest-in-Some-clause-stays c =
    let whole = c.in_ok-bytes.field-0 in
    let ok = whole.bytes.ok.0 in
    let left : c.args.max - c.len.result ≡ c.args.max - length whole.bytes.items = omega arith in
    cut_stays c.args.mode c.args.prot c.args.max c.args.queue.now.messages whole.count whole.bytes.items c.in_ok-bytes.ensures.count c.in_ok-bytes.ensures.bytes c.in-Some.m.now c.in_ok-rest-in-Some.rest (sym c.in-Some.ensures) (omega arith)
    (rw left at c.in_ok-rest-in-Some.ensures)

pub returns-in_default-clause-bytes : goal.returns-in_default-clause-bytes
returns-in_default-clause-bytes c =
    let whole = c.in_ok-bytes.field-0 in
    let ok = whole.bytes.ok.0 in
    elim c.in_default.branch [
      | in_default-via-in-Some+else-left-gt0 w ↦
          full_bytes c.args.mode c.args.prot c.args.max c.args.queue.now.messages whole.count whole.bytes.items c.in_ok-bytes.ensures.count c.in_ok-bytes.ensures.bytes (omega arith)
      | in_default-via-in_default w ↦
          last_bytes c.args.mode c.args.prot c.args.max c.args.queue.now.messages whole.count whole.bytes.items c.in_ok-bytes.ensures.count c.in_ok-bytes.ensures.bytes (sym (rw w.in_default.is at c.reached_at.ensures))
    ]
