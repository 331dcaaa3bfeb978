use Rattle.std.proofs.Common.{refl, ap, arith}
use Rattle.strm_shared_entry.specs.Entry.{out_in}
use Rattle.strm_shared_log.proofs.EntryLemmas.{legal_more, call_step, no_serials}
use Rattle.strm_shared_log.proofs.LogLemmas.{called}
use Rattle.strm_shared_log.proofs.PieceLemmas.{both_longer}
use Rattle.strm_shared_log.specs.Outlet.{gone_of}
use Rattle.strm_shared_log.proofs.log.Log.enter.Goals as goal

-- where there is no room for serials, there are none
pub fill-kept-requires-after_bounds : goal.fill-kept-requires-after_bounds
fill-kept-requires-after_bounds g c κs within =
    (omega arith, λ none. no_serials g.M.Kind.Kinds.means c.self.inside.stream c.args.call.end c.args.call.request c.call-answered.result.answer c.into_parts-answer.result.0 c.call-answered.new.back.items c.args.room.event c.requires.asked.1 c.into_parts-answer.ensures.answer c.call-answered.ensures.back none)

pub invariant_of-self : goal.invariant_of-self
invariant_of-self g c =
    let means = g.M.Kind.Kinds.means in
    let longer = c.push_reserved.ensures.items in
    let parts = c.into_parts-answer in
    let back = c.call-answered.new.back.items in
    let made = c.call-answered.ensures in
    let step = call_step means c.self.inside.stream c.args.room c.args.call.end c.args.call.request c.call-answered.result parts.result.0 parts.result.2.moves parts.result.2.looks (out_in parts.result.0 back) back c.call-answered.new.self c.requires.asked.0 c.requires.asked.1 parts.ensures.answer parts.ensures.moves parts.ensures.looks (ap (λ a. out_in a back) parts.ensures.answer) made.back made.step made.looks made.bound in
    let both = both_longer (gone_of c.self.inside.outlet) _ _ _ (rw c.fill-kept.ensures.kept at longer) in
    record {
      legal = legal_more means _ _ _ _ _ _ both c.self.invariant.legal step;
      setups = c.self.invariant.setups;
      whole = c.self.invariant.whole;
    }

pub returns-clause-call : goal.returns-clause-call
returns-clause-call g c =
    let means = g.M.Kind.Kinds.means in
    let longer = c.push_reserved.ensures.items in
    let parts = c.into_parts-answer in
    let back = c.call-answered.new.back.items in
    let taken = ap (λ a. out_in a back) parts.ensures.answer in
    let made = c.call-answered.ensures in
    let step = call_step means c.self.inside.stream c.args.room c.args.call.end c.args.call.request c.call-answered.result parts.result.0 parts.result.2.moves parts.result.2.looks (out_in parts.result.0 back) back c.call-answered.new.self c.requires.asked.0 c.requires.asked.1 parts.ensures.answer parts.ensures.moves parts.ensures.looks taken made.back made.step made.looks made.bound in
    let kept = rw c.fill-kept.ensures.kept at longer in
    let both = both_longer (gone_of c.self.inside.outlet) _ _ _ kept in
    rw (← c.self.view_is)
    (c.call-answered.result.answer, parts.ensures.beside, called means _ _ c.args.room c.args.call c.call-answered.result c.call-answered.result.answer parts.result.0 parts.result.2.moves parts.result.2.looks (out_in parts.result.0 back) back c.fill-kept.result.1 c.requires.asked.0 c.requires.asked.1 refl parts.ensures.answer taken made.back step both kept refl c.fill-kept.ensures.shown)
