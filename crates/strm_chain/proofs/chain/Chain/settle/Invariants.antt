use Rattle.std.proofs.Common.{◌≡◌, ◌<◌, ◌≤◌, ◌+◌, ◌-◌, ◌*◌, ◌^◌, false, [], length}
use Rattle.strm_chain_ends.specs.Same.{SameModules}
use Rattle.strm_chain_ends.specs.Flow.{NoneMay}
use Rattle.strm_module.specs.Calm.{IsCalm}
use Rattle.strm_chain_ends.specs.Count.{message_count, place_count, options_count}
use Rattle.strm_chain.specs.Count.{looks_at_most}
use Rattle.strm_chain.specs.Service.{Leads}
use Rattle.strm_chain.proofs.chain.Chain.settle.Given as goal

abbrev pub invariant-loop-place : goal.invariant-loop-place
invariant-loop-place g l = record {
  empty : l.hops.items ≡ [];
  leads : Leads g.M.Kind.Kinds.means l.initial.self.image l.moves l.self.image;
  same : SameModules l.initial.self.image l.self.image;
  whole : l.initial.self.image.broken ≡ false;
  still : NoneMay g.M.Kind.Kinds.means l.initial.self.image → l.self.image ≡ l.initial.self.image;
  least : length l.moves ≤ l.self.run.given;
  most : IsCalm g.M.Kind.Kinds.means → l.self.run.given + length l.self.run.items + message_count l.initial.self.image + options_count l.self.image ≤ place_count l.initial.self.image + 3 * length l.moves + message_count l.self.image + options_count l.initial.self.image;
  own : l.self.run.given + length l.self.run.items ≤ looks_at_most l.moves;
  counted : length l.moves < 18446744073709551616;
}

-- a turn moves a place, and then at most 40 are enabled, or leaves one enabled place fewer
abbrev pub decreases-loop-place : goal.decreases-loop-place
decreases-loop-place g l = 41 * (2 ^ 64 - length l.moves) + length l.self.run.items
