-- A whole message in numbers and bytes (msgb(9S), datab(9S) and iocblk(9S)).
use Rattle.std.specs.Prelude.{◌≡◌, ◌<◌, ℕ, ◌+◌, ◌||◌, nat_eq, Bool, true, false, Option, Some, None, List, [], ◌∷◌, ◌++◌, option_map, is_some, if◌then◌else◌}
use Rattle.std.specs.Option.{option_and_then}
use Rattle.std.specs.Int.{to_be_bytes, w32}
use Rattle.strm_msg.specs.Message.{Msg, Part, is_formed, bare, ioctl_msg, ack_msg}
use Rattle.strm_msg.specs.declared.kind.MsgKind.{MsgKind}
use Rattle.strm_msg.specs.declared.kind.MsgKind.TheVariants.{MIoctl, MSetopts, MIocack, MIocnak, MFlush, MError}
use Rattle.strm_msg.specs.declared.errno.Errno.{Errno}
use Rattle.strm_msg.specs.declared.words.ReadMode.{ReadMode}
use Rattle.strm_msg.specs.declared.words.ReadMode.TheVariants.{Rnorm, Rmsgn, Rmsgd}
use Rattle.strm_msg.specs.declared.words.Prot.{Prot}
use Rattle.strm_msg.specs.declared.words.Prot.TheVariants as Prots
use Rattle.strm_c_numbers.specs.declared.whole.Whole.{Whole}
use Rattle.strm_c_numbers.specs.Numbers.{errno_number, kind_number, length_of, band_of}
use Rattle.strm_c_numbers.specs.Messages.{errno_of, message_of}

-- the byte of a side in an M_ERROR: its errno, or NOERROR
abbrev pub side_byte : Option Errno → ℕ
side_byte None = 255
side_byte (Some errno) = errno_number errno

-- the bytes of an M_SETOPTS, in the format in which an ioctl asks for options
abbrev pub mode_byte : Option ReadMode → ℕ
mode_byte None = 0
mode_byte (Some Rnorm) = 1
mode_byte (Some Rmsgn) = 2
mode_byte (Some Rmsgd) = 3

abbrev pub prot_byte : Option Prot → ℕ
prot_byte None = 0
prot_byte (Some Prots.Norm) = 1
prot_byte (Some Prots.Dat) = 2
prot_byte (Some Prots.Dis) = 3

abbrev pub marks_bytes : Option (ℕ × ℕ) → List ℕ
marks_bytes None = 0 ∷ []
marks_bytes (Some marks) = 1 ∷ (to_be_bytes w32 marks.0 ++ to_be_bytes w32 marks.1)

-- the data of a message as bytes. An M_ERROR has two, one for each side, and an M_SETOPTS has 3 or 11
abbrev pub kind_data : MsgKind → Part → Part
kind_data (MError rd wr) dat = Some (side_byte rd ∷ (side_byte wr ∷ []))
kind_data (MSetopts mode prot marks) dat = Some (mode_byte mode ∷ (prot_byte prot ∷ marks_bytes marks))
kind_data kind dat = dat

abbrev pub data_of : Msg → Part
data_of m = kind_data m.kind m.dat

-- the flags of a flush: FLUSHR is 1, FLUSHW is 2, and FLUSHBAND is 4
abbrev pub flag_if : Bool → ℕ → ℕ
flag_if true flag = flag
flag_if false flag = 0

abbrev pub flush_flags : Bool → Bool → Option ℕ → ℕ
flush_flags r w flushed = flag_if r 1 + flag_if w 2 + flag_if (is_some flushed) 4

abbrev pub flushed_band : Option ℕ → ℕ
flushed_band None = 0
flushed_band (Some band) = band

-- the numbers that each message has
abbrev pub common_numbers : Msg → Whole
common_numbers m =
    record { id = 0; rval = 0; kind = kind_number m.kind; band = m.band; flags = 0; error = 0; cmd = 0; ctl_len = length_of m.ctl; dat_len = length_of (data_of m) }

-- and those of its kind
abbrev pub with_kind : MsgKind → Whole → Whole
with_kind (MIoctl id cmd) whole = record whole { id = id; cmd = cmd }
with_kind (MIocack id rval) whole = record whole { id = id; rval = rval }
with_kind (MIocnak id errno) whole = record whole { id = id; error = errno_number errno }
with_kind (MFlush r w flushed) whole = record whole { band = flushed_band flushed; flags = flush_flags r w flushed }
with_kind kind whole = whole

-- a message in numbers
abbrev pub whole_of : Msg → Whole
whole_of m = with_kind m.kind (common_numbers m)

-- the further number of a message: the errno of an M_ERROR without data, or the flags of a flush
abbrev pub number_in : Whole → ℕ
number_in whole = if nat_eq whole.kind 138 then whole.error else whole.flags

-- the message of these numbers and parts, if they make one: M_IOCTL is 0x0e, M_IOCACK 0x81 and M_IOCNAK 0x82,
-- and the others are those of a line
abbrev pub whole_message : Whole → Part → Part → Option Msg
whole_message whole ctl dat =
    if nat_eq whole.kind 14 then Some (ioctl_msg whole.id whole.cmd dat)
    else if nat_eq whole.kind 129 then Some (ack_msg whole.id whole.rval dat)
    else if nat_eq whole.kind 130 then option_map (λ errno. bare (MIocnak whole.id errno)) (errno_of whole.error)
    else option_and_then (λ band. message_of whole.kind band ctl dat (number_in whole)) (band_of whole.band)

-- the data of an M_SETOPTS and an M_ERROR say what it is, and are no part of the message
abbrev pub is_told_by_data : ℕ → Bool
is_told_by_data kind = nat_eq kind 16 || nat_eq kind 138

-- a message with no byte in its parts
abbrev pub emptied : Msg → Msg
emptied m = record m { ctl = option_map (λ bytes. []) m.ctl; dat = option_map (λ bytes. []) m.dat }

-- the numbers of a kind are within what C can say: the band of a flush is one, and the low mark of options is
-- below the high one, which has 32 bits
abbrev pub HasFitNumbers : MsgKind → Type 0
HasFitNumbers (MFlush r w (Some band)) = band < 256
HasFitNumbers (MSetopts mode prot (Some marks)) = (marks.1 < marks.0) × (marks.0 < 4294967296)
HasFitNumbers kind = Unit {0}

-- a message that is told in numbers and bytes is made of them again
abbrev pub WholeReturns : Type 0
WholeReturns = (m : Msg) → is_formed m.kind m.band m.ctl m.dat ≡ true → HasFitNumbers m.kind → m.band < 256 → whole_message (whole_of m) m.ctl (data_of m) ≡ Some m
