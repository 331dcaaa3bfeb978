-- The next queue, as the number of the module that has it (bcanput(9F): the next queue that has a service
-- procedure).
use Rattle.std.specs.Prelude.{ℕ, ◌+◌, ◌-◌, Bool, Option, Some, None, List, length, if◌then◌else◌, is_some, slice_get, suc, zero}
use Rattle.strm_msg.specs.declared.words.Side.{Side}
use Rattle.strm_msg.specs.declared.words.Side.TheVariants.{Rd, Wr}
use Rattle.strm_msg.specs.Marks.{WaterMarks}
use Rattle.strm_chain_end.specs.Pair.{QueuePair}
use Rattle.strm_chain_end.specs.End.{EndState, pair_at}
use Rattle.strm_chain_end.specs.Modules.{Identity}
use Rattle.strm_chain_end.specs.Canput.{Fill, fill_on}

abbrev pub marks_for : Side → Identity → Option WaterMarks
marks_for Rd i = i.rd
marks_for Wr i = i.wr

-- the marks of a side's queue
abbrev pub marks_at : Side → Option Identity → Option WaterMarks
marks_at side None = None
marks_at side (Some i) = marks_for side i

-- modules are counted from 1, which is the topmost
abbrev pub identity_at : List Identity → ℕ → Option Identity
identity_at ids zero = None
identity_at ids (suc i) = slice_get ids i

-- whether module i has a queue of a side
abbrev pub has_queue : Side → List Identity → ℕ → Bool
has_queue side ids i = is_some (marks_at side (identity_at ids i))

-- the first of n numbers from i on
abbrev pub first_from : (ℕ → Bool) → ℕ → ℕ → Option ℕ
first_from f i zero = None
first_from f i (suc n) = if f i then Some i else first_from f (i + 1) n

-- the last number below n
abbrev pub last_below : (ℕ → Bool) → ℕ → Option ℕ
last_below f zero = None
last_below f (suc n) = if f n then Some n else last_below f n

-- the module whose write queue is the first below module i, and below the head where i is 0
abbrev pub next_below : List Identity → ℕ → Option ℕ
next_below ids i = first_from (has_queue Wr ids) (i + 1) (length ids - i)

-- the module whose read queue is the first above module i, and above all k of them where i is k + 1
abbrev pub next_above : List Identity → ℕ → Option ℕ
next_above ids i = last_below (has_queue Rd ids) i

abbrev pub queue_found : {K : Type 0} → Option (QueuePair K) → Side → Option Fill
queue_found None side = None
queue_found (Some s) side = fill_on side s

-- the queue of a module, where it has one
abbrev pub queue_at : {K : Type 0} → EndState K → Side → ℕ → Option Fill
queue_at e side i = queue_found (pair_at e.modules i) side

-- the queue of the module with this number, else the one after the modules (proofs alone cite it)
abbrev pub or_at : (ℕ → Option Fill) → Option Fill → Option ℕ → Option Fill
or_at queue after None = after
or_at queue after (Some i) = queue i
