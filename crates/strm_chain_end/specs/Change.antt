-- The changes that the calls of an end make (streamio(7): I_PUSH, I_POP, I_STR, I_SRDOPT; close(2)).
use Rattle.std.specs.Prelude.{ℕ, ◌+◌, ◌==◌, ◌&&◌, nat_lt, Bool, false, Option, Some, None, List, [], ◌∷◌, length, drop, if◌then◌else◌}
use Rattle.strm_msg.specs.declared.words.ReadMode.{ReadMode}
use Rattle.strm_msg.specs.declared.words.ReadMode.TheVariants.{Rnorm}
use Rattle.strm_msg.specs.declared.words.Prot.{Prot}
use Rattle.strm_msg.specs.declared.words.Prot.TheVariants.{Norm}
use Rattle.strm_msg.specs.Marks.{WaterMarks}
use Rattle.strm_module.specs.Shape.{queues_on}
use Rattle.strm_module.specs.declared.shape.Shape.{Shape}
use Rattle.strm_module.specs.declared.driver.TheConstants.{MOST_MODULES}
use Rattle.strm_msg.specs.Message.{Msg}
use Rattle.strm_msg.specs.declared.words.Side.{Side}
use Rattle.strm_chain_end.specs.Pair.{QueuePair, fresh_pair, with_list}
use Rattle.strm_chain_end.specs.End.{EndState, pair_at, set_pair}
use Rattle.strm_chain_end.specs.declared.record.Record.{Record}

-- a module is pushed just below the head (I_PUSH)
abbrev pub inserted : {K : Type 0} → EndState K → Shape K → EndState K
inserted e s = record e { modules = fresh_pair s ∷ e.modules }

-- the end after a pop: the topmost module is popped, and the messages of its queues are discarded (I_POP)
abbrev pub removed : {K : Type 0} → EndState K → EndState K
removed e = record e { modules = drop 1 e.modules }

-- whether another module may be pushed: the end is open and has not as many as there can be
abbrev pub has_room : {K : Type 0} → EndState K → Bool
has_room e = e.is_open && nat_lt (length e.modules) MOST_MODULES

-- a module has a queue on a side, and its service procedure there is the program's
abbrev pub found_programs : {K : Type 0} → Option (QueuePair K) → Side → Bool
found_programs None side = false
found_programs (Some s) side = s.shape.noenable && queues_on s.shape side

abbrev pub is_programs : {K : Type 0} → EndState K → ℕ → Side → Bool
is_programs e i side = found_programs (pair_at e.modules i) side

-- the queue of a module has these messages in the place of its own (getq(9F), putbq(9F)); without the module
-- nothing changes
abbrev pub found_with : {K : Type 0} → EndState K → ℕ → Option (QueuePair K) → Side → List Msg → EndState K
found_with e i None side q = e
found_with e i (Some s) side q = record e { modules = set_pair e.modules i (with_list s side q) }

abbrev pub with_queue : {K : Type 0} → EndState K → ℕ → Side → List Msg → EndState K
with_queue e i side q = found_with e i (pair_at e.modules i) side q

-- the record of a head that reads so from now on (I_SRDOPT)
abbrev pub with_mode : Record → ReadMode → Prot → Record
with_mode r mode prot = record r { mode = mode; prot = prot }

-- the id after this one, none after the greatest u64
abbrev pub id_after : ℕ → Option ℕ
id_after id = if id == 18446744073709551615 then None else Some (id + 1)

-- the next id is taken, and an answer to it is awaited (I_STR)
abbrev pub awaiting : Record → Option ℕ → Record
awaiting r None = r
awaiting r (Some id) = record r { next = id_after id; pending = Some id }

abbrev pub awaiting_next : Record → Record
awaiting_next r = awaiting r r.next

-- the id that was taken last is given back
abbrev pub id_given_back : Record → Record
id_given_back r = record r { next = r.pending; pending = None }

-- no answer is awaited or kept any longer
abbrev pub awaiting_none : Record → Record
awaiting_none r = record r { pending = None; kept = None }

-- the next id is taken, and an answer to it is asked for later, of which none has come
abbrev pub asking : Record → Option ℕ → Record
asking r None = r
asking r (Some id) = record r { next = id_after id; asked = Some id; answer = None }

abbrev pub asking_next : Record → Record
asking_next r = asking r r.next

-- the id that was taken last is given back
abbrev pub asked_given_back : Record → Record
asked_given_back r = record r { next = r.asked; asked = None }

-- no answer is asked for or kept for it any longer
abbrev pub asking_none : Record → Record
asking_none r = record r { asked = None; answer = None }

-- a closed end: without modules, without messages in its head, and without an answer that is asked for later
-- (close(2)); the driver's list stays
abbrev pub closed : {K : Type 0} → EndState K → EndState K
closed e = record e { is_open = false; head = []; modules = []; state = asking_none e.state }

-- the record of a new stream's head
abbrev pub fresh_record : Record
fresh_record = record { hung = false; rd_errno = None; wr_errno = None; mode = Rnorm; prot = Norm; next = Some 1; pending = None; kept = None; asked = None; answer = None }

abbrev pub fresh_end : {K : Type 0} → Bool → WaterMarks → WaterMarks → EndState K
fresh_end is_open head drv =
    record { is_open = is_open; head_marks = head; head = []; state = fresh_record; modules = []; drv_marks = drv; drv = [] }
