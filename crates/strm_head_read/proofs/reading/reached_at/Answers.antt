use Rattle.std.proofs.Common.{◌≡◌, ◌<◌, length, refl, rules, arith}
use Rattle.strm_msg.specs.declared.words.ReadMode.TheVariants.{Rnorm}
use Rattle.strm_head_read.specs.Read.{bytes_read}
use Rattle.strm_head_read.proofs.ReadLemmas.{reached_behind}
use Rattle.strm_head_read.proofs.reading.reached_at.Goals as goal
use Rattle.strm_head_read.proofs.reading.reached_at.Goals.{in_default-via-in-Some+else-goes_on_to, in_default-via-in_default}

pub returns-in-Some : goal.returns-in-Some
returns-in-Some c =
    let q = c.args.queue.now.messages in
    let mode : c.args.mode ≡ Rnorm = search rules in
    let some : 0 < length (bytes_read c.args.prot c.in_ok-first.first.now) = omega arith in
    let within = rw mode at c.requires in
    let found = reached_behind c.args.prot q c.in_ok-first.first.now c.args.i c.in_ok-first.ensures some (omega arith) within in
    rw (mode, found, ← c.in-Some.ensures, ← c.goes_on_to.ensures, c.if-goes_on_to.true) refl

pub returns-in_default : goal.returns-in_default
returns-in_default c =
    let q = c.args.queue.now.messages in
    let mode : c.args.mode ≡ Rnorm = search rules in
    let some : 0 < length (bytes_read c.args.prot c.in_ok-first.first.now) = omega arith in
    let within = rw mode at c.requires in
    let found = reached_behind c.args.prot q c.in_ok-first.first.now c.args.i c.in_ok-first.ensures some (omega arith) within in
    rw (mode, found)
    (elim c.in_default.branch [
      | in_default-via-in-Some+else-goes_on_to w ↦ rw (← w.in-Some.ensures, ← w.goes_on_to.ensures, w.if-goes_on_to.false) refl
      | in_default-via-in_default w ↦ let none = rw w.in_default.is at c.at.ensures in rw (← none) refl
    ])
