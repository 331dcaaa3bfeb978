use Rattle.std.proofs.Common.{◌≡◌, ◌+◌, ◌≤◌, ◌++◌, length, map, Some, vec_len, vec_capacity}
use Rattle.strm_module.specs.declared.driver.TheConstants.{MOST_MODULES}
use Rattle.strm_chain_end.proofs.end.take_modules.Given as goal

abbrev pub invariant-loop-pairs : goal.invariant-loop-pairs
invariant-loop-pairs g l = record {
  instances : l.instances.items ++ map (λ s. Some s.shape) l.pairs.items ≡ map (λ s. Some s.shape) l.initial.pairs.items;
  few : length l.instances.items + length l.pairs.items ≤ MOST_MODULES;
  capacity : vec_capacity l.pairs ≡ vec_capacity l.initial.pairs;
}

abbrev pub decreases-loop-pairs : goal.decreases-loop-pairs
decreases-loop-pairs g l = vec_len l.pairs
