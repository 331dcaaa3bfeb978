-- The setup of a stream.
use Rattle.std.specs.Prelude.{ℕ, ◌&&◌, ◌||◌, not, nat_le, nat_lt, Bool}
use Rattle.strm_module.specs.Driver.{is_line}
use Rattle.strm_head_calls.specs.declared.setup.Setup.{Setup}
use Rattle.strm_head_calls.specs.declared.setup.TheConstants.{MOST_RING}

-- each pair is a high mark and a lower one
abbrev pub are_marks : ℕ × ℕ → ℕ × ℕ → Bool
are_marks head drv = nat_lt head.1 head.0 && nat_lt drv.1 drv.0

-- each low mark is below its high one
abbrev pub is_fit : Setup → Bool
is_fit setup = are_marks setup.head setup.drv

-- a line and a wire are fed through a ring of 1 to `MOST_RING` messages; the other drivers have none
abbrev pub is_ring : Setup → Bool
is_ring setup = not (is_line setup.driver) || (nat_le 1 setup.ring && nat_le setup.ring MOST_RING)
