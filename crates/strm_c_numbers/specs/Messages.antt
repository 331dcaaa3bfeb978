-- The message that is handed in from a line or a wire, by the number of its kind, its parts, and a further
-- number.
use Rattle.std.specs.Prelude.{ℕ, ◌-◌, nat_eq, nat_le, Option, Some, None, [], ◌∷◌, if◌then◌else◌, option_map}
use Rattle.std.specs.Option.{option_and_then}
use Rattle.strm_msg.specs.Message.{Msg, Part, bare, data_msg, proto_msg, pcproto_msg}
use Rattle.strm_msg.specs.Options.{options_asked}
use Rattle.strm_msg.specs.declared.kind.MsgKind.{MsgKind}
use Rattle.strm_msg.specs.declared.kind.MsgKind.TheVariants.{MSetopts, MFlush, MHangup, MError}
use Rattle.strm_msg.specs.declared.errno.Errno.{Errno}
use Rattle.strm_msg.specs.declared.errno.Errno.TheVariants.{EBADF, ENOSR, EINVAL, ERANGE, ENXIO, EBADMSG, ENODATA, EAGAIN, ETIME, EIO, EPROTO}
use Rattle.strm_c_numbers.specs.Numbers.{sides_of}

-- the errno of a number of errno.h
abbrev pub errno_of : ℕ → Option Errno
errno_of n =
    if nat_eq n 9 then Some EBADF else if nat_eq n 63 then Some ENOSR else if nat_eq n 22 then Some EINVAL
    else if nat_eq n 34 then Some ERANGE else if nat_eq n 6 then Some ENXIO else if nat_eq n 74 then Some EBADMSG
    else if nat_eq n 61 then Some ENODATA else if nat_eq n 11 then Some EAGAIN else if nat_eq n 62 then Some ETIME
    else if nat_eq n 5 then Some EIO else if nat_eq n 71 then Some EPROTO else None

-- a flush of the sides that flags name; FLUSHBAND, which is 4, makes it a flush of one band
abbrev pub flush_msg : ℕ → ℕ → Option Msg
flush_msg band flags =
    if nat_le flags 3 then option_map (λ sides. bare (MFlush sides.0 sides.1 None)) (sides_of flags)
    else option_map (λ sides. bare (MFlush sides.0 sides.1 (Some band))) (sides_of (flags - 4))

-- a byte of an error: an errno, or NOERROR, which is 255 and leaves the side as it is
abbrev pub side_errno_of : ℕ → Option (Option Errno)
side_errno_of byte = if nat_eq byte 255 then Some None else option_map (λ errno. Some errno) (errno_of byte)

-- the error of a byte for reading and one for writing
abbrev pub error_of_sides : ℕ → ℕ → Option Msg
error_of_sides read write =
    option_and_then (λ rd. option_map (λ wr. bare (MError rd wr)) (side_errno_of write)) (side_errno_of read)

-- an error: its bytes are one for both sides, or one for reading and one for writing; without data it is the
-- error of a number, for both sides
abbrev pub error_msg : Part → ℕ → Option Msg
error_msg None number = option_map (λ errno. bare (MError (Some errno) (Some errno))) (errno_of number)
error_msg (Some (both ∷ [])) number = error_of_sides both both
error_msg (Some (read ∷ (write ∷ []))) number = error_of_sides read write
error_msg (Some bytes) number = None

-- the message of the options that are asked for
abbrev pub options_msg : Option MsgKind → Option Msg
options_msg (Some (MSetopts mode prot marks)) = Some (bare (MSetopts mode prot marks))
options_msg asked = None

-- a message without parts, by the number of its kind: M_SETOPTS is 0x10, M_FLUSH 0x86, M_HANGUP 0x89 and
-- M_ERROR 0x8a. Its data say what is set, and which errors; a further number has the flags of a flush
abbrev pub bare_of : ℕ → ℕ → Part → ℕ → Option Msg
bare_of kind band dat number =
    if nat_eq kind 16 then options_msg (options_asked dat)
    else if nat_eq kind 134 then flush_msg band number
    else if nat_eq kind 137 then Some (bare MHangup)
    else if nat_eq kind 138 then error_msg dat number
    else None

-- the message of a kind by its number in sys/stream.h: M_DATA is 0x00, M_PROTO 0x01 and M_PCPROTO 0x83
abbrev pub message_of : ℕ → ℕ → Part → Part → ℕ → Option Msg
message_of kind band ctl dat number =
    if nat_eq kind 0 then option_map (λ bytes. data_msg band bytes) dat
    else if nat_eq kind 1 then option_map (λ bytes. proto_msg band bytes dat) ctl
    else if nat_eq kind 131 then option_map (λ bytes. pcproto_msg bytes dat) ctl
    else bare_of kind band dat number
