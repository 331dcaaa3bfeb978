-- A message that is told in numbers and bytes is made of them again.
use Rattle.std.proofs.Common.{◌≡◌, ◌<◌, ℕ, ◌==◌, ◌&&◌, nat_le, nat_lt, Bool, true, false, is_none, is_some, Option, Some, None, ◌∷◌, refl, ap₂, ◌∙◌, arith}
use Rattle.std.specs.Int.{from_be_bytes, to_be_bytes, w32}
use Rattle.std.proofs.lemmas.Nat.{from_be_bytes-to_be_bytes_4}
use Rattle.std.proofs.lemmas.Bool.{and_parts, eqb-true, le-leb, lt-ltb}
use Rattle.strm_msg.specs.Message.{Msg, Part, is_formed, bare}
use Rattle.strm_msg.specs.Options as options
use Rattle.strm_msg.specs.declared.kind.MsgKind.{MsgKind}
use Rattle.strm_msg.specs.declared.kind.MsgKind.TheVariants.{MData, MProto, MPcproto, MIoctl, MSetopts, MIocack, MIocnak, MFlush, MHangup, MError}
use Rattle.strm_msg.specs.declared.errno.Errno.{Errno}
use Rattle.strm_msg.specs.declared.errno.Errno.TheVariants.{EBADF, ENOSR, EINVAL, ERANGE, ENXIO, EBADMSG, ENODATA, EAGAIN, ETIME, EIO, EPROTO}
use Rattle.strm_msg.specs.declared.words.ReadMode.{ReadMode}
use Rattle.strm_msg.specs.declared.words.ReadMode.TheVariants.{Rnorm, Rmsgn, Rmsgd}
use Rattle.strm_msg.specs.declared.words.Prot.{Prot}
use Rattle.strm_msg.specs.declared.words.Prot.TheVariants as Prots
use Rattle.strm_c_numbers.specs.Numbers.{errno_number, band_of}
use Rattle.strm_c_numbers.specs.Messages.{errno_of, side_errno_of}
use Rattle.strm_c_numbers.specs.Whole.{side_byte, mode_byte, prot_byte, marks_bytes, HasFitNumbers, whole_of, data_of, whole_message, WholeReturns}

errno_returns : (errno : Errno) → errno_of (errno_number errno) ≡ Some errno
errno_returns EBADF = refl
errno_returns ENOSR = refl
errno_returns EINVAL = refl
errno_returns ERANGE = refl
errno_returns ENXIO = refl
errno_returns EBADMSG = refl
errno_returns ENODATA = refl
errno_returns EAGAIN = refl
errno_returns ETIME = refl
errno_returns EIO = refl
errno_returns EPROTO = refl

side_returns : (errno : Option Errno) → side_errno_of (side_byte errno) ≡ Some errno
side_returns None = refl
side_returns (Some EBADF) = refl
side_returns (Some ENOSR) = refl
side_returns (Some EINVAL) = refl
side_returns (Some ERANGE) = refl
side_returns (Some ENXIO) = refl
side_returns (Some EBADMSG) = refl
side_returns (Some ENODATA) = refl
side_returns (Some EAGAIN) = refl
side_returns (Some ETIME) = refl
side_returns (Some EIO) = refl
side_returns (Some EPROTO) = refl

mode_returns : (mode : Option ReadMode) → options.mode_of (mode_byte mode) ≡ Some mode
mode_returns None = refl
mode_returns (Some Rnorm) = refl
mode_returns (Some Rmsgn) = refl
mode_returns (Some Rmsgd) = refl

prot_returns : (prot : Option Prot) → options.prot_of (prot_byte prot) ≡ Some prot
prot_returns None = refl
prot_returns (Some Prots.Norm) = refl
prot_returns (Some Prots.Dat) = refl
prot_returns (Some Prots.Dis) = refl

at_most : (n : ℕ) → n < 256 → nat_le n 255 ≡ true
at_most n fits = le-leb n 255 (omega (arith, fits))

below : (lo hi : ℕ) → lo < hi → nat_lt lo hi ≡ true
below lo hi fits = lt-ltb lo hi fits

band_returns : (band : ℕ) → band < 256 → band_of band ≡ Some band
band_returns band small = rw (at_most band small) refl

marks_return : (a b : ℕ) (hi lo : ℕ) → lo < hi → hi < 4294967296 → options.marks_in (a ∷ (b ∷ marks_bytes (Some (hi, lo)))) ≡ Some (Some (hi, lo))
marks_return a b hi lo fit small =
    let hi_is : from_be_bytes w32 (to_be_bytes w32 hi) ≡ hi = from_be_bytes-to_be_bytes_4 hi small in
    let lo_is : from_be_bytes w32 (to_be_bytes w32 lo) ≡ lo = from_be_bytes-to_be_bytes_4 lo (omega (arith, fit, small)) in
    ap₂ (λ (h l : ℕ). options.marks_if_fit h l) hi_is lo_is ∙ rw (below lo hi fit) refl

options_return : (mode : Option ReadMode) (prot : Option Prot) (marks : Option (ℕ × ℕ)) → HasFitNumbers (MSetopts mode prot marks) → options.options_in (mode_byte mode ∷ (prot_byte prot ∷ marks_bytes marks)) ≡ Some (MSetopts mode prot marks)
options_return mode prot None fits = rw (mode_returns mode) rw (prot_returns prot) refl
options_return mode prot (Some marks) fits =
    rw (mode_returns mode) rw (prot_returns prot) rw (marks_return (mode_byte mode) (prot_byte prot) marks.0 marks.1 fits.0 fits.1) refl

-- a message of these parts
abbrev made : MsgKind → ℕ → Part → Part → Msg
made kind band ctl dat = record { kind = kind; band = band; ctl = ctl; dat = dat }

abbrev Returns : Msg → Type 0
Returns m = whole_message (whole_of m) m.ctl (data_of m) ≡ Some m

all_three : (one two three : Bool) → (one && two && three) ≡ true → (one ≡ true) × (two ≡ true) × (three ≡ true)
all_three true true true is = (refl, refl, refl)
all_three true true false is = absurd cc
all_three true false three is = absurd cc
all_three false two three is = absurd cc

is_no_part : (part : Part) → is_none part ≡ true → part ≡ None
is_no_part None is = refl
is_no_part (Some bytes) is = absurd cc

-- of a message without parts and of band 0 it is what it is of the bare message
as_bare : (kind : MsgKind) (band : ℕ) (ctl dat : Part) → ((band == 0) && is_none ctl && is_none dat) ≡ true → Returns (bare kind) → Returns (made kind band ctl dat)
as_bare kind band ctl dat formed returns =
    let is = all_three (band == 0) (is_none ctl) (is_none dat) formed in
    rw (eqb-true band 0 is.0) rw (is_no_part ctl is.1) rw (is_no_part dat is.2) returns

flush_returns : (r w : Bool) (flushed : Option ℕ) → HasFitNumbers (MFlush r w flushed) → Returns (bare (MFlush r w flushed))
flush_returns false false None fits = refl
flush_returns false true None fits = refl
flush_returns true false None fits = refl
flush_returns true true None fits = refl
flush_returns false false (Some band) fits = rw (at_most band fits) refl
flush_returns false true (Some band) fits = rw (at_most band fits) refl
flush_returns true false (Some band) fits = rw (at_most band fits) refl
flush_returns true true (Some band) fits = rw (at_most band fits) refl

data_returns : (band : ℕ) (ctl dat : Part) → (is_none ctl && is_some dat) ≡ true → band < 256 → Returns (made MData band ctl dat)
data_returns band None (Some dat) formed small = rw (at_most band small) refl
data_returns band None None formed small = absurd cc
data_returns band (Some ctl) dat formed small = absurd cc

proto_returns : (band : ℕ) (ctl dat : Part) → is_some ctl ≡ true → band < 256 → Returns (made MProto band ctl dat)
proto_returns band (Some ctl) dat formed small = rw (at_most band small) refl
proto_returns band None dat formed small = absurd cc

pcproto_returns : (band : ℕ) (ctl dat : Part) → ((band == 0) && is_some ctl) ≡ true → Returns (made MPcproto band ctl dat)
pcproto_returns band (Some ctl) dat formed = rw (eqb-true band 0 (and_parts (band == 0) true formed).0) refl
pcproto_returns band None dat formed = absurd (let no : false ≡ true = (and_parts (band == 0) false formed).1 in cc)

-- of the kinds of ioctls that have data or none
ioctl_returns : (kind : MsgKind) (band : ℕ) (ctl dat : Part) → ((band == 0) && is_none ctl) ≡ true → Returns (made kind 0 None dat) → Returns (made kind band ctl dat)
ioctl_returns kind band ctl dat formed returns =
    let is = and_parts (band == 0) (is_none ctl) formed in
    rw (eqb-true band 0 is.0) rw (is_no_part ctl is.1) returns

whole_returns : (kind : MsgKind) (band : ℕ) (ctl dat : Part) → is_formed kind band ctl dat ≡ true → HasFitNumbers kind → band < 256 → Returns (made kind band ctl dat)
whole_returns MData band ctl dat formed fits small = data_returns band ctl dat formed small
whole_returns MProto band ctl dat formed fits small = proto_returns band ctl dat formed small
whole_returns MPcproto band ctl dat formed fits small = pcproto_returns band ctl dat formed
whole_returns (MIoctl id cmd) band ctl dat formed fits small = ioctl_returns (MIoctl id cmd) band ctl dat formed refl
whole_returns (MIocack id rval) band ctl dat formed fits small = ioctl_returns (MIocack id rval) band ctl dat formed refl
whole_returns (MIocnak id errno) band ctl dat formed fits small = as_bare (MIocnak id errno) band ctl dat formed (rw (errno_returns errno) refl)
whole_returns (MSetopts mode prot marks) band ctl dat formed fits small = as_bare (MSetopts mode prot marks) band ctl dat formed (rw (options_return mode prot marks fits) refl)
whole_returns (MFlush r w flushed) band ctl dat formed fits small = as_bare (MFlush r w flushed) band ctl dat formed (flush_returns r w flushed fits)
whole_returns MHangup band ctl dat formed fits small = as_bare MHangup band ctl dat formed refl
whole_returns (MError rd wr) band ctl dat formed fits small = as_bare (MError rd wr) band ctl dat formed (rw (side_returns rd) rw (side_returns wr) refl)

pub returns : WholeReturns
returns m formed fits small = whole_returns m.kind m.band m.ctl m.dat formed fits small
