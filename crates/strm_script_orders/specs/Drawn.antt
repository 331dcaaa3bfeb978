-- The orders that are drawn.
use Rattle.std.specs.Prelude.{ℕ}
use Rattle.rand_pcg.specs.Lcg.{Lcg, started, increment_of}
use Rattle.rand_pcg.specs.Pcg.{multiplier_64}
use Rattle.strm_script_orders.specs.declared.drawn.TheConstants.{STREAM}

-- the generator that a seed starts: the PCG32 of this seed and of the stream 54
abbrev pub generator_of : ℕ → Lcg
generator_of seed = started 64 multiplier_64 seed (increment_of 64 STREAM)
