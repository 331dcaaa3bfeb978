-- Bytes at the front of a buffer.
use Rattle.std.specs.Prelude.{ℕ, Some, None, List, ◌++◌, length, take, drop}
use Rattle.strm_msg.specs.Message.{Part}

-- a buffer with bytes at its front, as many as it has room for, and its earlier bytes behind them
abbrev pub filled : List ℕ → List ℕ → List ℕ
filled bytes buffer = take (length buffer) bytes ++ drop (length bytes) buffer

-- a buffer with a part at its front; as it was if there is no part
abbrev pub filled_if : Part → List ℕ → List ℕ
filled_if None buffer = buffer
filled_if (Some bytes) buffer = filled bytes buffer
