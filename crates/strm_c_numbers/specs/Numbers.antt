-- The numbers of errors, kinds of message, sides, modes and lengths in C (errno(3), stropts.h and
-- sys/stream.h of System V Release 4).
use Rattle.std.specs.Prelude.{ℕ, ◌+◌, nat_eq, nat_le, min, Bool, true, false, Option, Some, None, length, if◌then◌else◌, ℤ, pos, negsuc}
use Rattle.strm_msg.specs.Message.{Part}
use Rattle.strm_msg.specs.declared.kind.MsgKind.{MsgKind}
use Rattle.strm_msg.specs.declared.kind.MsgKind.TheVariants.{MData, MProto, MPcproto, MIoctl, MSetopts, MIocack, MIocnak, MFlush, MHangup, MError}
use Rattle.strm_msg.specs.declared.errno.Errno.{Errno}
use Rattle.strm_msg.specs.declared.errno.Errno.TheVariants.{EBADF, ENOSR, EINVAL, ERANGE, ENXIO, EBADMSG, ENODATA, EAGAIN, ETIME, EIO, EPROTO}
use Rattle.strm_msg.specs.declared.words.End.{End}
use Rattle.strm_msg.specs.declared.words.End.TheVariants as Ends
use Rattle.strm_msg.specs.declared.words.Side.{Side}
use Rattle.strm_msg.specs.declared.words.Side.TheVariants as Sides
use Rattle.strm_msg.specs.declared.words.ReadMode.{ReadMode}
use Rattle.strm_msg.specs.declared.words.ReadMode.TheVariants.{Rnorm, Rmsgn, Rmsgd}
use Rattle.strm_msg.specs.declared.words.Prot.{Prot}
use Rattle.strm_msg.specs.declared.words.Prot.TheVariants as Prots

-- the numbers of errno.h on Linux
abbrev pub errno_number : Errno → ℕ
errno_number EBADF = 9
errno_number ENOSR = 63
errno_number EINVAL = 22
errno_number ERANGE = 34
errno_number ENXIO = 6
errno_number EBADMSG = 74
errno_number ENODATA = 61
errno_number EAGAIN = 11
errno_number ETIME = 62
errno_number EIO = 5
errno_number EPROTO = 71

-- the numbers of the kinds of message in sys/stream.h: M_DATA, M_PROTO, M_IOCTL, M_SETOPTS, M_IOCACK,
-- M_IOCNAK, M_PCPROTO, M_FLUSH, M_HANGUP and M_ERROR
abbrev pub kind_number : MsgKind → ℕ
kind_number MData = 0
kind_number MProto = 1
kind_number (MIoctl id cmd) = 14
kind_number (MSetopts mode prot marks) = 16
kind_number (MIocack id rval) = 129
kind_number (MIocnak id errno) = 130
kind_number MPcproto = 131
kind_number (MFlush r w flushed) = 134
kind_number MHangup = 137
kind_number (MError rd wr) = 138

-- the end of a number
abbrev pub end_of : ℕ → Option End
end_of n = if nat_eq n 0 then Some Ends.A else if nat_eq n 1 then Some Ends.B else None

-- the side of a number
abbrev pub side_of : ℕ → Option Side
side_of n = if nat_eq n 0 then Some Sides.Rd else if nat_eq n 1 then Some Sides.Wr else None

-- the band of a number
abbrev pub band_of : ℕ → Option ℕ
band_of n = if nat_le n 255 then Some n else None

-- the sides of a flush, the read side first: FLUSHR is 1 and FLUSHW is 2
abbrev pub sides_of : ℕ → Option (Bool × Bool)
sides_of flags =
    if nat_eq flags 0 then Some (false, false) else if nat_eq flags 1 then Some (true, false) else if nat_eq flags 2 then Some (false, true)
    else if nat_eq flags 3 then Some (true, true) else None

-- the treatment of message bounds by reads: RNORM is 0, RMSGD is 1 and RMSGN is 2
abbrev pub mode_of : ℕ → Option ReadMode
mode_of n = if nat_eq n 0 then Some Rnorm else if nat_eq n 1 then Some Rmsgd else if nat_eq n 2 then Some Rmsgn else None

-- the treatment of control, in fours: RPROTDAT is 1, RPROTDIS is 2 and RPROTNORM is 4, also if none is given
abbrev pub prot_of : ℕ → Option Prot
prot_of n =
    if nat_eq n 0 then Some Prots.Norm else if nat_eq n 1 then Some Prots.Dat else if nat_eq n 2 then Some Prots.Dis
    else if nat_eq n 4 then Some Prots.Norm else None

abbrev pub mode_number : ReadMode → ℕ
mode_number Rnorm = 0
mode_number Rmsgd = 1
mode_number Rmsgn = 2

-- the number of both
abbrev pub read_number : ReadMode → Prot → ℕ
read_number mode Prots.Norm = mode_number mode + 16
read_number mode Prots.Dat = mode_number mode + 4
read_number mode Prots.Dis = mode_number mode + 8

-- a number as an int; the greatest int if it is greater
abbrev pub int_of : ℕ → ℤ
int_of n = pos (min n 2147483647)

-- the length of a part, -1 if there is none
abbrev pub length_of : Part → ℤ
length_of None = negsuc 0
length_of (Some bytes) = int_of (length bytes)
