use Rattle.std.proofs.Common.{refl}
use Rattle.strm_shared_log.specs.Outlet.{gone_of}
use Rattle.strm_shared_log.proofs.EntryLemmas.{legal_more, landed_step}
use Rattle.strm_shared_log.proofs.LogLemmas.{landed}
use Rattle.strm_shared_log.proofs.PieceLemmas.{both_longer}
use Rattle.strm_shared_log.proofs.log.Log.arrive.Goals as goal

pub invariant_of-self-in-Taken : goal.invariant_of-self-in-Taken
invariant_of-self-in-Taken g c =
    let means = g.M.Kind.Kinds.means in
    let longer = rw c.reserve.ensures.items at c.push_reserved.ensures.items in
    let came = c.in-Taken.ensures in
    let entry = rw c.in-Ok.ensures at c.taken.ensures in
    let step = landed_step means c.self.inside.stream c.arrive.new.self c.args.m c.args.m _ _ _ c.taken.result refl entry came.0 came.1 came.2 in
    let both = both_longer (gone_of c.self.inside.outlet) _ _ _ longer in
    record {
      legal = legal_more means _ _ _ _ _ _ both c.self.invariant.legal step;
      setups = c.self.invariant.setups;
      whole = c.self.invariant.whole;
    }

pub invariant_of-self-in-Broke : goal.invariant_of-self-in-Broke
invariant_of-self-in-Broke g c =
    let means = g.M.Kind.Kinds.means in
    let longer = rw (c.reserve.ensures.items, c.plain.ensures) at c.push_reserved-in-Broke.ensures.items in
    let step = landed_step means c.self.inside.stream c.arrive.new.self c.args.m c.args.m _ _ _ c.in-Ok.entry.value refl c.in-Ok.ensures c.in-Broke.ensures refl (λ calm. tt) in
    let both = both_longer (gone_of c.self.inside.outlet) _ _ _ longer in
    record {
      legal = legal_more means _ _ _ _ _ _ both c.self.invariant.legal step;
      setups = c.self.invariant.setups;
      whole = c.self.invariant.whole;
    }

pub returns-in-Taken-clause-landed : goal.returns-in-Taken-clause-landed
returns-in-Taken-clause-landed g c =
    let longer = rw c.reserve.ensures.items at c.push_reserved.ensures.items in
    let came = c.in-Taken.ensures in
    let entry = rw c.in-Ok.ensures at c.taken.ensures in
    let both = both_longer (gone_of c.self.inside.outlet) _ _ _ longer in
    rw (← c.self.view_is)
    (landed g.M.Kind.Kinds.means _ _ c.args.m c.args.m _ _ _ c.taken.result refl entry came.0 came.1 came.2 both longer refl)

pub returns-in-Broke-clause-landed : goal.returns-in-Broke-clause-landed
returns-in-Broke-clause-landed g c =
    let longer = rw (c.reserve.ensures.items, c.plain.ensures) at c.push_reserved-in-Broke.ensures.items in
    let both = both_longer (gone_of c.self.inside.outlet) _ _ _ longer in
    rw (← c.self.view_is)
    (landed g.M.Kind.Kinds.means _ _ c.args.m c.args.m _ _ _ c.in-Ok.entry.value refl c.in-Ok.ensures c.in-Broke.ensures refl (λ calm. tt) both longer refl)
