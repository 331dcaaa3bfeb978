use Rattle.std.proofs.Common.{◌≡◌}
use Rattle.strm_chain_ends.specs.Image.{end_of, with_end}
use Rattle.strm_chain_ends.proofs.TickLemmas.{expired_first}
use Rattle.strm_chain.proofs.chain.Chain.tick.Given as goal

-- the ticks have passed for the modules before
abbrev pub invariant-loop-i : goal.invariant-loop-i
invariant-loop-i g l = record {
  image : l.self.image ≡ with_end l.initial.self.image l.end (expired_first g.M.Kind.Kinds.means (end_of l.initial.self.image l.end) l.i l.ticks);
  rooms : l.self.rooms ≡ l.initial.self.rooms;
}
