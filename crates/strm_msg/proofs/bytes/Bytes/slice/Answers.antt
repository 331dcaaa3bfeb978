use Rattle.std.proofs.Common.{rules, ◌≡◌, ◌≤◌, length, slice_range, ℕ, ◌+◌, ◌-◌, subst}
use Rattle.std.specs.Prelude.{IfOk}
use Rattle.std.specs.Arc.{arc_value}
use Rattle.strm_msg.proofs.RangeLemmas.{range_of_range}
use Rattle.strm_msg.proofs.bytes.Bytes.slice.Goals as goal

-- src/bytes.rt:143:5
pub returns-in-Part : goal.returns-in-Part
returns-in-Part c =
    let r = c.deref-range.result.now in
    let is : c.args.self.now ≡ slice_range (arc_value r.whole).items r.start r.end = search (rules) in
    let ordered : r.start ≤ r.end = search (rules) in
    let same = range_of_range (arc_value r.whole).items c.args.self.now r.start r.end c.args.start c.args.end is ordered c.requires.start c.requires.end in
    subst (λ l. IfOk c.range_of-in-Part.result (λ part. part ≡ l)) same c.range_of-in-Part.ensures
