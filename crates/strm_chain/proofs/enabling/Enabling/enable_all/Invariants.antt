use Rattle.std.proofs.Common.{◌≡◌, ◌<◌, true, ℕ, is_some}
use Rattle.strm_chain_ends.specs.Flow.{offer_of}
use Rattle.strm_chain.specs.Number.{place_of}
use Rattle.strm_chain.specs.Enabled.{is_enabled, ArePlaces}
use Rattle.strm_chain.proofs.enabling.Enabling.enable_all.Given as goal

-- each place of a number before has been woken
abbrev pub invariant-loop-number : goal.invariant-loop-number
invariant-loop-number g l =
    ((n : ℕ) → n < l.number → is_some (offer_of g.M.Kind.Kinds.means l.ends.image (place_of n)) ≡ true → is_enabled l.self.run (place_of n) ≡ true)
    × (l.self.run.given ≡ l.initial.self.run.given)
    × ArePlaces l.ends.image l.self.run.items
