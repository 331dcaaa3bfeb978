-- Requests that an ioctl makes of a driver: settings for the stream head, in this project's own format of 3
-- bytes or 11.
use Rattle.std.specs.Prelude.{ℕ, ◌+◌, ◌==◌, ◌&&◌, nat_lt, Option, Some, None, List, [], ◌∷◌, length, slice_index, if◌then◌else◌}
use Rattle.std.specs.Int.{from_be_bytes, w32}
use Rattle.strm_msg.specs.declared.kind.MsgKind.{MsgKind}
use Rattle.strm_msg.specs.declared.kind.MsgKind.TheVariants.{MSetopts}
use Rattle.strm_msg.specs.declared.words.ReadMode.{ReadMode}
use Rattle.strm_msg.specs.declared.words.ReadMode.TheVariants.{Rnorm, Rmsgn, Rmsgd}
use Rattle.strm_msg.specs.declared.words.Prot.{Prot}
use Rattle.strm_msg.specs.declared.words.Prot.TheVariants.{Norm, Dat, Dis}
use Rattle.strm_msg.specs.Message.{Part}

-- the read mode that a byte stands for, where 0 keeps the one that is set
abbrev pub mode_of : ℕ → Option (Option ReadMode)
mode_of b =
    if b == 0 then Some None else (if b == 1 then Some (Some Rnorm) else (if b == 2 then Some (Some Rmsgn) else (if b == 3 then Some (Some Rmsgd) else None)))

-- the treatment of control parts that a byte stands for, where 0 keeps the one that is set
abbrev pub prot_of : ℕ → Option (Option Prot)
prot_of b =
    if b == 0 then Some None else (if b == 1 then Some (Some Norm) else (if b == 2 then Some (Some Dat) else (if b == 3 then Some (Some Dis) else None)))

-- four bytes from here on as a number, greatest first
abbrev pub number_at : List ℕ → ℕ → ℕ
number_at bytes i =
    from_be_bytes w32 (slice_index bytes i ∷ (slice_index bytes (i + 1) ∷ (slice_index bytes (i + 2) ∷ (slice_index bytes (i + 3) ∷ []))))

-- marks of which the low one is below the high one
abbrev pub marks_if_fit : ℕ → ℕ → Option (Option (ℕ × ℕ))
marks_if_fit hi lo = if nat_lt lo hi then Some (Some (hi, lo)) else None

-- the marks, if they follow: the third byte says so. The high one is first, and nothing else follows
abbrev pub marks_in : List ℕ → Option (Option (ℕ × ℕ))
marks_in bytes =
    if (slice_index bytes 2 == 0) && (length bytes == 3) then Some None else (if (slice_index bytes 2 == 1) && (length bytes == 11) then marks_if_fit (number_at bytes 3) (number_at bytes 7) else None)

abbrev pub options_of : Option (Option ReadMode) → Option (Option Prot) → Option (Option (ℕ × ℕ)) → Option MsgKind
options_of (Some mode) (Some prot) (Some marks) = Some (MSetopts mode prot marks)
options_of mode prot marks = None

-- the options that bytes ask for, if they are a request
abbrev pub options_in : List ℕ → Option MsgKind
options_in bytes =
    if nat_lt (length bytes) 3 then None else options_of (mode_of (slice_index bytes 0)) (prot_of (slice_index bytes 1)) (marks_in bytes)

-- the options that a part asks for
abbrev pub options_asked : Part → Option MsgKind
options_asked None = None
options_asked (Some bytes) = options_in bytes
