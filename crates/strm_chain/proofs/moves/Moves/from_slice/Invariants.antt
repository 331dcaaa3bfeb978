use Rattle.std.proofs.Common.{◌≡◌, take}
use Rattle.strm_chain.proofs.moves.Moves.from_slice.Given as goal

-- the places so far
abbrev pub invariant-loop-place : goal.invariant-loop-place
invariant-loop-place l = l.moves ≡ take l.place-index l.fn.places
