-- The purpose of the module.
use Rattle.std.specs.Prelude.{◌≡◌, ℕ, ◌<◌, ◌≤◌, ◌^◌, List}
use Rattle.strm_msg.specs.Message.{Msg, data_msg}
use Rattle.strm_msg.specs.declared.words.Side.TheVariants.{Rd, Wr}
use Rattle.strm_module.specs.Kinds.{passed_on}
use Rattle.port_sequence.specs.Sequence.{sequence_acts, after}
use Rattle.port_sequence.specs.declared.kinds.Sequence.{Sequence}

-- data that one module sends down goes up as the same data at another that expects its number, and the other
-- counts no more as lost
abbrev pub NumberedArrives : Type 0
NumberedArrives =
    (s t : Sequence) (band : ℕ) (bytes : List ℕ) → t.up ≡ s.down → s.down < 2 ^ 8 → t.lost ≤ 18446744073709551615 →
    (sent : Msg)
    × (sequence_acts s Wr (data_msg band bytes) ≡ passed_on (record s { down = after s.down }) Wr sent)
    × (sequence_acts t Rd sent ≡ passed_on (record t { up = after t.up }) Rd (data_msg band bytes))
