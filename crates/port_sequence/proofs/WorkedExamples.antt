-- What the module makes of messages, computed from the definitions alone.
use Rattle.std.proofs.Common.{◌≡◌, ℕ, None, [], ◌∷◌, refl}
use Rattle.strm_msg.specs.Message.{data_msg, ioctl_msg, ack_msg}
use Rattle.strm_msg.specs.declared.words.Side.TheVariants.{Rd, Wr}
use Rattle.strm_module.specs.Kinds.{passed_on, replied}
use Rattle.port_sequence.specs.Sequence.{sequence_acts}
use Rattle.port_sequence.specs.declared.kinds.Sequence.{Sequence}

-- a module of these numbers, which has lost so many
abbrev at : ℕ → ℕ → ℕ → Sequence
at down up lost = record { down = down; up = up; lost = lost }

numbers_data : sequence_acts (at 255 7 0) Wr (data_msg 3 (97 ∷ [])) ≡ passed_on (at 0 7 0) Wr (data_msg 3 (255 ∷ 97 ∷ []))
numbers_data = refl

two_were_lost : sequence_acts (at 0 254 5) Rd (data_msg 3 (0 ∷ 97 ∷ [])) ≡ passed_on (at 0 1 7) Rd (data_msg 3 (97 ∷ []))
two_were_lost = refl

without_a_number : sequence_acts (at 0 7 0) Rd (data_msg 3 []) ≡ passed_on (at 0 7 0) Rd (data_msg 3 [])
without_a_number = refl

is_asked : sequence_acts (at 0 7 9) Wr (ioctl_msg 4 1 None) ≡ replied (at 0 7 9) (ack_msg 4 9 None)
is_asked = refl
