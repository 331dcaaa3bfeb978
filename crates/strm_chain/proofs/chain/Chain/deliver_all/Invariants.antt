use Rattle.std.proofs.Common.{◌≡◌, true}
use Rattle.strm_chain_ends.specs.Same.{SameModules}
use Rattle.strm_module.specs.Calm.{IsCalm}
use Rattle.strm_chain.specs.Count.{options_carried, Grows, are_calm_hops}
use Rattle.strm_chain.specs.Hop.{deliver_all, load}
use Rattle.strm_chain.proofs.chain.Chain.deliver_all.Given as goal

abbrev pub invariant-loop-hop : goal.invariant-loop-hop
invariant-loop-hop g l = record {
  image : deliver_all g.M.Kind.Kinds.means l.self.image l.hops.items ≡ deliver_all g.M.Kind.Kinds.means l.initial.self.image l.initial.hops.items;
  same : SameModules l.initial.self.image l.self.image;
  grows : IsCalm g.M.Kind.Kinds.means → are_calm_hops l.initial.hops.items ≡ true → Grows l.initial.self (options_carried l.initial.self.image l.initial.hops.items) l.self (options_carried l.initial.self.image l.hops.items) × (are_calm_hops l.hops.items ≡ true);
  given : l.self.run.given ≡ l.initial.self.run.given;
}

abbrev pub decreases-loop-hop : goal.decreases-loop-hop
decreases-loop-hop g l = load l.hops.items
