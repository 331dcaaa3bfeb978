use Rattle.std.proofs.Common.{◌≡◌, map, take}
use Rattle.strm_run.proofs.opening.rings_of.Given as goal

-- the rings of the setups so far are made
abbrev pub invariant-loop-setup : goal.invariant-loop-setup
invariant-loop-setup l = map (λ ring. ring.setup) l.rings.items ≡ take l.setup-index l.setups
