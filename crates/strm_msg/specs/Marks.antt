-- Water marks (Programmer's Guide: STREAMS, "Flow Control").
use Rattle.std.specs.Prelude.{ℕ}

-- the marks at which a band of a queue is full, and at which it is slack, in bytes
pub record WaterMarks : Type 0 where
  pub hi : ℕ
  pub lo : ℕ
