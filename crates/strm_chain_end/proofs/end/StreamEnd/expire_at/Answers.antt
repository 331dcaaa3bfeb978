use Rattle.std.proofs.Common.{◌≡◌, ◌<◌, ◌-◌, length, Some, refl, rules}
use Rattle.strm_chain_end.specs.End.{pair_at}
use Rattle.strm_chain_end.specs.Modules.{waits_well}
use Rattle.strm_chain_end.proofs.EndLemmas.{identities-set, fit-set, pair_at-found, expired_found}
use Rattle.strm_chain_end.proofs.WaitLemmas.{all-set}
use Rattle.strm_chain_end.proofs.end.StreamEnd.expire_at.Goals as goal

pub invariant_of-self : goal.invariant_of-self
invariant_of-self g c =
    let k = c.self.invariant in
    record {
      room = k.room;
      few = search rules;
      head_fit = k.head_fit;
      drv_fit = k.drv_fit;
      fit = fit-set c.self.inside.pairs.items (c.from-i.result - 1) c.expire.new.self c.index_mut.result.now c.index_mut.ensures.value c.expire.ensures.identity k.fit;
      waits = all-set waits_well c.self.inside.pairs.items (c.from-i.result - 1) c.expire.new.self c.index_mut.result.now c.index_mut.ensures.value (search rules) c.expire.ensures.waits k.waits;
      calm = k.calm;
    }

pub returns-clause-state : goal.returns-clause-state
returns-clause-state g c =
    let xs = c.self.inside.pairs.items in
    let d = c.index_mut.result.now in
    let i = c.from-i.result in
    let pos : 0 < i = search rules in
    let in_list : i - 1 < length xs = search rules in
    let found : pair_at xs i ≡ Some d = pair_at-found xs i d pos in_list c.index_mut.ensures.value in
    let e = c.args.self.now.state in
    let at : pair_at e.modules i ≡ Some d = rw (← c.self.view_is) found in
    rw (← c.from-i.ensures, expired_found g.M.Kind.Kinds.means e i d c.args.ticks pos at, ← c.self.view_is) (search rules)

pub returns-clause-same : goal.returns-clause-same
returns-clause-same g c =
    rw (← c.self.view_is)
    (record {
      is_open = refl;
      drv_marks = refl;
      modules = identities-set c.self.inside.pairs.items (c.from-i.result - 1) c.expire.new.self c.index_mut.result.now c.index_mut.ensures.value c.expire.ensures.identity;
      ids = record { next = refl; pending = refl; kept = λ _. refl; asked = refl; answer = λ _. refl };
    })
