-- The words of the fields of a script and of a transcript.
use Rattle.std.specs.Prelude.{◌≡◌, ℕ, Bool, true, false, List, [], ◌∷◌, length, Option, codes}
use Rattle.std.specs.List.{find}
use Rattle.std.specs.Str.{bytes_eq}
use Rattle.strm_msg.specs.declared.errno.Errno.{Errno}
use Rattle.strm_msg.specs.declared.errno.Errno.TheVariants.{EBADF, ENOSR, EINVAL, ERANGE, ENXIO, EBADMSG, ENODATA, EAGAIN, ETIME, EIO, EPROTO}
use Rattle.strm_msg.specs.declared.words.ReadMode.{ReadMode}
use Rattle.strm_msg.specs.declared.words.ReadMode.TheVariants.{Rnorm, Rmsgn, Rmsgd}
use Rattle.strm_msg.specs.declared.words.Prot.{Prot}
use Rattle.strm_msg.specs.declared.words.Prot.TheVariants as prots
use Rattle.strm_msg.specs.declared.words.Side.{Side}
use Rattle.strm_msg.specs.declared.words.Side.TheVariants as sides
use Rattle.strm_head_calls.specs.declared.request.Priority.{Priority}
use Rattle.strm_head_calls.specs.declared.request.Priority.TheVariants as priorities
use Rattle.strm_head_calls.specs.declared.request.PutFlag.{PutFlag}
use Rattle.strm_head_calls.specs.declared.request.PutFlag.TheVariants as puts
use Rattle.strm_head_calls.specs.declared.request.Wanted.{Wanted}
use Rattle.strm_head_calls.specs.declared.request.Wanted.TheVariants as wanted
use Rattle.strm_head_calls.specs.declared.request.GetFlag.{GetFlag}
use Rattle.strm_head_calls.specs.declared.request.GetFlag.TheVariants as gets

-- the value of a text, among values that have words
abbrev pub named : {A : Type 0} → (A → List ℕ) → List A → List ℕ → Option A
named word all text = find (λ one. bytes_eq (word one) text) all

-- a text of this length names the same among these values as among all
abbrev pub AreEnough : {A : Type 0} → (A → List ℕ) → List A → ℕ → List A → Type 0
AreEnough word all n some = (text : List ℕ) → length text ≡ n → named word some text ≡ named word all text

-- the priority of a putmsg
abbrev pub priority_word : Priority → List ℕ
priority_word priorities.Norm = codes "norm"
priority_word priorities.Hipri = codes "hipri"

abbrev pub all_priorities : List Priority
all_priorities = priorities.Norm ∷ priorities.Hipri ∷ []

-- the flag of a putpmsg
abbrev pub put_word : PutFlag → List ℕ
put_word puts.Zero = codes "zero"
put_word puts.Band = codes "band"
put_word puts.Hipri = codes "hipri"

abbrev pub all_puts : List PutFlag
all_puts = puts.Zero ∷ puts.Band ∷ puts.Hipri ∷ []

-- the message that a getmsg or a peek takes
abbrev pub wanted_word : Wanted → List ℕ
wanted_word wanted.Any = codes "any"
wanted_word wanted.Hipri = codes "hipri"

abbrev pub all_wanted : List Wanted
all_wanted = wanted.Any ∷ wanted.Hipri ∷ []

-- the message that a getpmsg takes
abbrev pub get_word : GetFlag → List ℕ
get_word gets.Zero = codes "zero"
get_word gets.Any = codes "any"
get_word gets.Band = codes "band"
get_word gets.Hipri = codes "hipri"

abbrev pub all_gets : List GetFlag
all_gets = gets.Zero ∷ gets.Any ∷ gets.Band ∷ gets.Hipri ∷ []

-- the treatment of message bounds by reads
abbrev pub mode_word : ReadMode → List ℕ
mode_word Rnorm = codes "rnorm"
mode_word Rmsgn = codes "rmsgn"
mode_word Rmsgd = codes "rmsgd"

abbrev pub all_modes : List ReadMode
all_modes = Rnorm ∷ Rmsgn ∷ Rmsgd ∷ []

-- the treatment of control by reads
abbrev pub prot_word : Prot → List ℕ
prot_word prots.Norm = codes "norm"
prot_word prots.Dat = codes "dat"
prot_word prots.Dis = codes "dis"

abbrev pub all_prots : List Prot
all_prots = prots.Norm ∷ prots.Dat ∷ prots.Dis ∷ []

-- the queue of a side
abbrev pub side_word : Side → List ℕ
side_word sides.Rd = codes "rd"
side_word sides.Wr = codes "wr"

abbrev pub all_queues : List Side
all_queues = sides.Rd ∷ sides.Wr ∷ []

-- the sides of a flush, read and write
abbrev pub flush_word : Bool → Bool → List ℕ
flush_word true true = codes "rw"
flush_word true false = codes "r"
flush_word false true = codes "w"
flush_word false false = codes "none"

abbrev pub all_sides : List (Bool × Bool)
all_sides = (true, true) ∷ (true, false) ∷ (false, true) ∷ (false, false) ∷ []

-- whether an ioctl is dropped whose answer has not come
abbrev pub drop_word : Bool → List ℕ
drop_word true = codes "drop"
drop_word false = codes "keep"

abbrev pub all_drops : List Bool
all_drops = true ∷ false ∷ []

abbrev pub all_errnos : List Errno
all_errnos = EBADF ∷ ENOSR ∷ EINVAL ∷ ERANGE ∷ ENXIO ∷ EBADMSG ∷ ENODATA ∷ EAGAIN ∷ ETIME ∷ EIO ∷ EPROTO ∷ []
