use Rattle.std.proofs.Common.{◌-◌, refl, rules}
use Rattle.strm_chain_end.specs.Modules.{waits_well}
use Rattle.strm_chain_end.proofs.EndLemmas.{identities-set, fit-set}
use Rattle.strm_chain_end.proofs.WaitLemmas.{all-set}
use Rattle.strm_chain_end.proofs.end.StreamEnd.take_queue.Goals as goal

pub invariant_of-self : goal.invariant_of-self
invariant_of-self g c =
    let k = c.self.invariant in
    record {
      room = k.room;
      few = search rules;
      head_fit = k.head_fit;
      drv_fit = k.drv_fit;
      fit = fit-set c.self.inside.pairs.items (c.from-i.result - 1) c.take.new.self c.index_mut.result.now c.index_mut.ensures.value c.take.ensures.identity k.fit;
      waits = all-set waits_well c.self.inside.pairs.items (c.from-i.result - 1) c.take.new.self c.index_mut.result.now c.index_mut.ensures.value (search rules) c.take.ensures.waits k.waits;
      calm = k.calm;
    }

pub returns-clause-same : goal.returns-clause-same
returns-clause-same g c =
    rw (← c.self.view_is)
    (record {
      is_open = refl;
      drv_marks = refl;
      modules = identities-set c.self.inside.pairs.items (c.from-i.result - 1) c.take.new.self c.index_mut.result.now c.index_mut.ensures.value c.take.ensures.identity;
      ids = record { next = refl; pending = refl; kept = λ _. refl; asked = refl; answer = λ _. refl };
    })
