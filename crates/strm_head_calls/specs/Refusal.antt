-- Refusals of calls, their numbers and errnos (streamio(7), getmsg(2), putmsg(2): "Errors").
use Rattle.std.specs.Prelude.{ℕ, ◌==◌, Bool, false, Option, Some, None, List, [], ◌∷◌, codes, if◌then◌else◌}
use Rattle.std.specs.List.{list_any}
use Rattle.strm_msg.specs.declared.errno.Errno.{Errno}
use Rattle.strm_msg.specs.declared.errno.Errno.TheVariants.{EBADF, ENOSR, EINVAL, ERANGE, ENXIO, EBADMSG, ENODATA, EAGAIN}
use Rattle.strm_head_calls.specs.declared.refusal.Refusal.{Refusal}
use Rattle.strm_head_calls.specs.declared.refusal.Refusal.TheVariants.{Closed, Broken, ReadError, WriteError, Invalid, TooLong, HungUp, BadMessage, NoMessage, WouldWait, NoMemory}

-- the number of a refusal
abbrev pub refusal_number : Refusal → ℕ
refusal_number Closed = 1
refusal_number Broken = 2
refusal_number (ReadError errno) = 3
refusal_number (WriteError errno) = 11
refusal_number Invalid = 4
refusal_number TooLong = 5
refusal_number HungUp = 6
refusal_number BadMessage = 7
refusal_number NoMessage = 8
refusal_number WouldWait = 9
refusal_number NoMemory = 10

-- the numbers, in the order in which refusals are looked for
abbrev pub looking_order : List ℕ
looking_order = 1 ∷ 2 ∷ 3 ∷ 11 ∷ 4 ∷ 5 ∷ 6 ∷ 7 ∷ 8 ∷ 9 ∷ 10 ∷ []

-- whether one number is before another in a list
abbrev pub stands_before : List ℕ → ℕ → ℕ → Bool
stands_before [] one other = false
stands_before (n ∷ ns) one other = if n == one then list_any (λ later. later == other) ns else stands_before ns one other

-- whether one refusal is looked for before another
abbrev pub is_before : Refusal → Refusal → Bool
is_before refusal later = stands_before looking_order (refusal_number refusal) (refusal_number later)

abbrev pub errno_of : Refusal → Errno
errno_of Closed = EBADF
errno_of Broken = ENOSR
errno_of (ReadError errno) = errno
errno_of (WriteError errno) = errno
errno_of Invalid = EINVAL
errno_of TooLong = ERANGE
errno_of HungUp = ENXIO
errno_of BadMessage = EBADMSG
errno_of NoMessage = ENODATA
errno_of WouldWait = EAGAIN
errno_of NoMemory = ENOSR

-- the text that a refusal prints
abbrev pub refusal_text : Refusal → List ℕ
refusal_text Closed = codes "the end is closed"
refusal_text Broken = codes "the stream is broken"
refusal_text (ReadError errno) = codes "an error of the read side came up"
refusal_text (WriteError errno) = codes "an error of the write side came up"
refusal_text Invalid = codes "the call does not take an argument"
refusal_text TooLong = codes "a part is too long"
refusal_text HungUp = codes "the end is hung up"
refusal_text BadMessage = codes "the first message has control"
refusal_text NoMessage = codes "no message is there"
refusal_text WouldWait = codes "the call would have to wait"
refusal_text NoMemory = codes "no memory"

-- the first refusal that holds, of a list in the order in which refusals are looked for: whether each holds,
-- and the refusal. A call is refused with this one
abbrev pub first_that_holds : List (Bool × Refusal) → Option Refusal
first_that_holds [] = None
first_that_holds (row ∷ rows) = if row.0 then Some row.1 else first_that_holds rows
