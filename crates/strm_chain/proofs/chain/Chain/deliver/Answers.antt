use Rattle.std.proofs.Common.{◌∙◌, sym, refl}
use Rattle.strm_chain.proofs.QuietLemmas.{same_end, same_trans}
use Rattle.strm_chain.proofs.chain.Chain.deliver.Goals as goal

pub returns-then-is_broken-clause-ok : goal.returns-then-is_broken-clause-ok
returns-then-is_broken-clause-ok g c = tt

pub returns-then-is_broken-clause-whole : goal.returns-then-is_broken-clause-whole
returns-then-is_broken-clause-whole g c = tt

pub returns-then-is_broken-clause-same : goal.returns-then-is_broken-clause-same
returns-then-is_broken-clause-same g c = tt

pub returns-then-is_broken-clause-refused : goal.returns-then-is_broken-clause-refused
returns-then-is_broken-clause-refused g c =
    let image = c.self.inside.ends.image in
    rw (← c.self.view_is)
    (record { is_broken = sym c.is_broken.ensures ∙ c.if-is_broken.true; driver = refl; on_a = same_end image.a; on_b = same_end image.b; again = λ _. refl })

pub returns-in-Err-clause-ok : goal.returns-in-Err-clause-ok
returns-in-Err-clause-ok g c = tt

pub returns-in-Err-clause-whole : goal.returns-in-Err-clause-whole
returns-in-Err-clause-whole g c = tt

pub returns-in-Err-clause-same : goal.returns-in-Err-clause-same
returns-in-Err-clause-same g c = tt

pub returns-in-Ok-clause-ok : goal.returns-in-Ok-clause-ok
returns-in-Ok-clause-ok g c =
    rw (c.put_back_hops.ensures, ← c.in_ok-m.ensures) (c.in-Ok.ensures.ok ∙ (rw (c.take_hops-hops.ensures.empty, c.take_hops-hops.ensures.same) at c.in_ok-hop.ensures.image) ∙ c.first_hop-hop.ensures)

pub returns-in-Ok-clause-whole : goal.returns-in-Ok-clause-whole
returns-in-Ok-clause-whole g c = rw (← c.self.view_is) (sym c.is_broken.ensures ∙ c.if-is_broken.false)

pub returns-in-Ok-clause-same : goal.returns-in-Ok-clause-same
returns-in-Ok-clause-same g c =
    rw (c.put_back_hops.ensures, ← c.take_hops-hops.ensures.same)
    (same_trans c.take_hops-hops.new.self.image c.hop.new.self.image c.deliver_all.new.self.image c.hop.ensures.same c.deliver_all.ensures.same)

pub returns-in-Ok-clause-refused : goal.returns-in-Ok-clause-refused
returns-in-Ok-clause-refused g c = tt
