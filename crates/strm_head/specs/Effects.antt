-- The effect of a call before any queue moves, by the call: its first refusal that holds, or the change that
-- it makes.
use Rattle.std.specs.Prelude.{ℕ, ◌≡◌, ◌≢◌, ◌&&◌, ◌||◌, not, Bool, true, false, Option, Some, None, is_none, List, [], ◌∷◌, ◌++◌, map, zero, suc}
use Rattle.std.specs.List.{list_all}
use Rattle.strm_msg.specs.declared.errno.Errno.{Errno}
use Rattle.strm_msg.specs.declared.words.End.{End}
use Rattle.strm_module.specs.Kinds.{Meaning}
use Rattle.strm_module.specs.declared.shape.Shape.{Shape}
use Rattle.strm_chain_ends.specs.Image.{Image, end_of}
use Rattle.strm_chain_ends.specs.Flow.{NoneMay}
use Rattle.strm_head_calls.specs.declared.request.Request.{Request}
use Rattle.strm_head_calls.specs.declared.request.Request.TheVariants.{Putmsg, Putpmsg, Getmsg, Getpmsg, Read, Write, Push, Nread, Peek, SetRead, GetRead, Canput, Ckband, Getband, Pop, Look, Find, Str, Strput, Strget, Flush, FlushBand, Close, Take, Service, Tick, Poll}
use Rattle.strm_head_calls.specs.declared.refusal.Refusal.{Refusal}
use Rattle.strm_head_calls.specs.declared.refusal.Refusal.TheVariants.{Closed, Broken, ReadError, WriteError, NoMemory}
use Rattle.strm_head_calls.specs.declared.answer.Answer.{Answer}
use Rattle.strm_head_calls.specs.declared.answer.Answer.TheVariants.{Done, Refused, Broke}
use Rattle.strm_head_calls.specs.Refusal.{first_that_holds, is_before}
use Rattle.strm_head_calls.specs.Effect.{Effect}
use Rattle.strm_head_calls.specs.Calls.{changes_modules}
use Rattle.strm_head_calls.specs.Service.{is_question}
use Rattle.strm_head_msg.specs.Send.{putmsg_refusals, putpmsg_refusals, write_refusals, putmsg_effect, putpmsg_effect, write_effect}
use Rattle.strm_head_read.specs.Read.{read_refusals, read_effect}
use Rattle.strm_head_msg.specs.Take.{getmsg_refusals, getpmsg_refusals, getmsg_effect, getpmsg_effect, peek_effect, shows_nothing}
use Rattle.strm_head_ioctl.specs.Ask.{is_empty, getband_refusals, nread_effect, canput_effect, ckband_effect, getband_effect}
use Rattle.strm_head_ioctl.specs.Options.{set_read_effect, get_read_effect}
use Rattle.strm_head_ioctl.specs.Modules.{push_refusals, pop_refusals, look_refusals, push_effect, pop_effect, look_effect}
use Rattle.strm_head_ioctl.specs.Names.{find_refusals, list_effect, find_effect}
use Rattle.strm_head_ioctl.specs.Ioctl.{str_refusals, str_effect}
use Rattle.strm_head_ioctl.specs.Later.{strput_refusals, strput_effect, strget_refusals, strget_effect}
use Rattle.strm_head_ioctl.specs.Flush.{flush_refusals, flush_effect, flush_band_effect}
use Rattle.strm_head_ioctl.specs.Close.{hangs_up, close_effect}
use Rattle.strm_head_ioctl.specs.Outside.{take_refusals, take_effect}
use Rattle.strm_head_ioctl.specs.Poll.{poll_effect}
use Rattle.strm_head_ioctl.specs.Tick.{tick_refusals, tick_effect}
use Rattle.strm_head_service.specs.Serve.{service_refusals, service_effect, sends_on, finds_nothing}

-- the refusals of a call of its kind alone, in the order in which they are looked for: whether each holds,
-- and the refusal
abbrev pub own_refusals : {K : Type 0} → Meaning K → Image K → End → Request (Shape K) → List (Bool × Refusal)
own_refusals means image e (Putmsg flag parts) = putmsg_refusals image e parts.ctl parts.dat flag
own_refusals means image e (Putpmsg band flag parts) = putpmsg_refusals image e parts.ctl parts.dat band flag
own_refusals means image e (Getmsg maxctl maxdat flag) = getmsg_refusals image e flag
own_refusals means image e (Getpmsg maxctl maxdat band flag) = getpmsg_refusals image e band flag
own_refusals means image e (Read max) = read_refusals image e max
own_refusals means image e (Write dat) = write_refusals image e dat
own_refusals means image e (Push shape) = push_refusals means image e shape
own_refusals means image e Getband = getband_refusals image e
own_refusals means image e Pop = pop_refusals image e
own_refusals means image e Look = look_refusals image e
own_refusals means image e (Find name) = find_refusals name
own_refusals means image e (Str cmd dat) = str_refusals image e dat
own_refusals means image e (Strput cmd dat) = strput_refusals image e dat
own_refusals means image e (Strget drops) = strget_refusals image e drops
own_refusals means image e (Flush r w) = flush_refusals image e r w
own_refusals means image e (FlushBand band r w) = flush_refusals image e r w
own_refusals means image e Take = take_refusals image e
own_refusals means image e (Service name side call) = service_refusals image e name.items side call
own_refusals means image e (Tick ticks) = tick_refusals ticks
own_refusals means image e request = []

-- the errors that a call looks at, that of the read side and that of the write side: calls that receive look
-- at the first, calls that send at the second, a close, a take, a service call, a tick and a poll at neither,
-- and all others at both
abbrev pub errors_looked_at : {P : Type 0} → Request P → Bool × Bool
errors_looked_at (Getmsg maxctl maxdat flag) = (true, false)
errors_looked_at (Getpmsg maxctl maxdat band flag) = (true, false)
errors_looked_at (Read max) = (true, false)
errors_looked_at Nread = (true, false)
errors_looked_at (Peek maxctl maxdat flag) = (true, false)
errors_looked_at (Ckband band) = (true, false)
errors_looked_at Getband = (true, false)
errors_looked_at (Putmsg flag parts) = (false, true)
errors_looked_at (Putpmsg band flag parts) = (false, true)
errors_looked_at (Write dat) = (false, true)
errors_looked_at (Canput band) = (false, true)
errors_looked_at Close = (false, false)
errors_looked_at Take = (false, false)
errors_looked_at (Service name side call) = (false, false)
errors_looked_at (Tick ticks) = (false, false)
errors_looked_at Poll = (false, false)
errors_looked_at request = (true, true)

-- the refusal by an error that came up, of the calls that look at it
abbrev pub error_refusal : Bool → Option Errno → (Errno → Refusal) → List (Bool × Refusal)
error_refusal looks None refusal = []
error_refusal looks (Some errno) refusal = (looks, refusal errno) ∷ []

-- the error of the read side, and then that of the write side
abbrev pub error_refusals : Bool × Bool → Option Errno → Option Errno → List (Bool × Refusal)
error_refusals looks rd wr = error_refusal looks.0 rd (λ errno. ReadError errno) ++ error_refusal looks.1 wr (λ errno. WriteError errno)

-- the errors that came up to an end and that a call looks at
abbrev pub errors_at : {K : Type 0} → Image K → End → Request (Shape K) → List (Bool × Refusal)
errors_at image e request =
    let state = (end_of image e).state in error_refusals (errors_looked_at request) state.rd_errno state.wr_errno

-- the refusals of a close: a closed end
abbrev pub closed_refusals : {K : Type 0} → Image K → End → List (Bool × Refusal)
closed_refusals image e = (not (end_of image e).is_open, Closed) ∷ []

-- the refusals of every call but a close, a take, a service call and a poll, in this order: a closed end, a
-- broken stream, the errors that came up and that it looks at
abbrev pub common_refusals : {K : Type 0} → Image K → End → Request (Shape K) → List (Bool × Refusal)
common_refusals image e request =
    (not (end_of image e).is_open, Closed) ∷ (image.broken, Broken) ∷ errors_at image e request

-- all refusals of a call, in the order in which they are looked for. An end is closed also after an error,
-- and on a broken stream. A take is made outside of the stream, a service call below the head, and a poll
-- reports the refusals of the others
abbrev pub refusals : {K : Type 0} → Meaning K → Image K → End → Request (Shape K) → List (Bool × Refusal)
refusals means image e Close = closed_refusals image e
refusals means image e Take = take_refusals image e
refusals means image e (Service name side call) = service_refusals image e name.items side call
refusals means image e Poll = []
refusals means image e request = common_refusals image e request ++ own_refusals means image e request

-- the calls that share most refusals: all but a close, a take, a service call and a poll
abbrev pub is_common : {P : Type 0} → Request P → Bool
is_common Close = false
is_common Take = false
is_common (Service name side call) = false
is_common Poll = false
is_common request = true

-- the calls that are refused on a broken stream: all but a close and a poll
abbrev pub finds_whole : {P : Type 0} → Request P → Bool
finds_whole Close = false
finds_whole Poll = false
finds_whole request = true

-- the refusal of a call: the first that holds
abbrev pub refusal_of : {K : Type 0} → Meaning K → Image K → End → Request (Shape K) → Option Refusal
refusal_of means image e request = first_that_holds (refusals means image e request)

-- whether refusals are in order: none is looked for before one that is before it
abbrev pub are_in_order : List (Bool × Refusal) → Bool
are_in_order [] = true
are_in_order (row ∷ rows) = list_all (λ later. not (is_before later.1 row.1)) rows && are_in_order rows

-- the effect of a call
abbrev pub effect_of : {K : Type 0} → Meaning K → Image K → End → Request (Shape K) → Effect (Image K) K
effect_of means image e (Putmsg flag parts) = putmsg_effect means image e parts.ctl parts.dat flag
effect_of means image e (Putpmsg band flag parts) = putpmsg_effect means image e parts.ctl parts.dat band flag
effect_of means image e (Getmsg maxctl maxdat flag) = getmsg_effect image e maxctl maxdat
effect_of means image e (Getpmsg maxctl maxdat band flag) = getpmsg_effect image e maxctl maxdat
effect_of means image e (Read max) = read_effect image e max
effect_of means image e (Write dat) = write_effect means image e dat
effect_of means image e (Push shape) = push_effect image e shape
effect_of means image e Nread = nread_effect image e
effect_of means image e (Peek maxctl maxdat flag) = peek_effect image e maxctl maxdat flag
effect_of means image e (SetRead mode prot) = set_read_effect image e mode prot
effect_of means image e GetRead = get_read_effect image e
effect_of means image e (Canput band) = canput_effect image e band
effect_of means image e (Ckband band) = ckband_effect image e band
effect_of means image e Getband = getband_effect image e
effect_of means image e Pop = pop_effect image e
effect_of means image e Look = look_effect image e
effect_of means image e Request.List = list_effect image e
effect_of means image e (Find name) = find_effect image e name
effect_of means image e (Str cmd dat) = str_effect means image e cmd dat
effect_of means image e (Strput cmd dat) = strput_effect means image e cmd dat
effect_of means image e (Strget drops) = strget_effect image e
effect_of means image e (Flush r w) = flush_effect means image e r w
effect_of means image e (FlushBand band r w) = flush_band_effect means image e band r w
effect_of means image e Close = close_effect means image e
effect_of means image e Take = take_effect image e
effect_of means image e (Service name side call) = service_effect means image e name.items side call
effect_of means image e (Tick ticks) = tick_effect means image e ticks
effect_of means image e Poll = poll_effect image e

-- the calls that never run out of memory
abbrev pub takes_no_memory : {P : Type 0} → Request P → Bool
takes_no_memory Nread = true
takes_no_memory (SetRead mode prot) = true
takes_no_memory GetRead = true
takes_no_memory (Canput band) = true
takes_no_memory (Ckband band) = true
takes_no_memory Getband = true
takes_no_memory Poll = true
takes_no_memory Look = true
takes_no_memory Request.List = true
takes_no_memory (Find name) = true
takes_no_memory (Service name side call) = is_question call
takes_no_memory request = false

-- a call that has nothing to send, or finds nothing to take. It is a putmsg and a putpmsg without parts, and
-- a read of no bytes. Where no message waits it is a getmsg, a getpmsg and a read, which a hung up end does
-- not refuse. Of a closed wire that holds no output it is a take, and a getq, which is the same. Of an ioctl
-- that has no answer it is a strget
abbrev pub has_nothing_to_do : {K : Type 0} → Image K → End → Request (Shape K) → Bool
has_nothing_to_do image e (Putmsg flag parts) = is_none parts.ctl && is_none parts.dat
has_nothing_to_do image e (Putpmsg band flag parts) = is_none parts.ctl && is_none parts.dat
has_nothing_to_do image e (Getmsg maxctl maxdat flag) = is_empty (end_of image e).head
has_nothing_to_do image e (Getpmsg maxctl maxdat band flag) = is_empty (end_of image e).head
has_nothing_to_do image e (Read zero) = true
has_nothing_to_do image e (Read (suc n)) = is_empty (end_of image e).head
has_nothing_to_do image e Take = is_empty (end_of image e).drv
has_nothing_to_do image e (Service name side call) = finds_nothing image e name.items call
has_nothing_to_do image e (Strget drops) = is_none (end_of image e).state.answer
has_nothing_to_do image e request = false

-- the calls that never run out of memory on a stream as it is: those that only say or set something, those
-- that have nothing to do, and a peek that shows nothing
abbrev pub takes_no_memory_at : {K : Type 0} → Image K → End → Request (Shape K) → Bool
takes_no_memory_at image e (Peek maxctl maxdat flag) = shows_nothing image e maxctl maxdat flag
takes_no_memory_at image e request = takes_no_memory request || has_nothing_to_do image e request

-- the calls that send no message. A putmsg and a putpmsg send one of their parts. A write, an ioctl and a
-- flush send one each, and so does a putnext. A close sends a hangup to the other end of a loop that is still
-- open
abbrev pub sends_no_message : {K : Type 0} → Image K → End → Request (Shape K) → Bool
sends_no_message image e (Putmsg flag parts) = is_none parts.ctl && is_none parts.dat
sends_no_message image e (Putpmsg band flag parts) = is_none parts.ctl && is_none parts.dat
sends_no_message image e (Write dat) = false
sends_no_message image e (Str cmd dat) = false
sends_no_message image e (Strput cmd dat) = false
sends_no_message image e (Flush r w) = false
sends_no_message image e (FlushBand band r w) = false
sends_no_message image e (Service name side call) = not (sends_on call)
sends_no_message image e Close = not (hangs_up image e)
sends_no_message image e request = true

-- the calls that change the stream before anything takes memory: those that put modules in or take them out,
-- and a tick
abbrev pub changes_first : {P : Type 0} → Request P → Bool
changes_first (Tick ticks) = true
changes_first request = changes_modules request

-- whether out of memory can refuse the call
abbrev pub can_lack_memory : {P : Type 0} → Request P → Bool
can_lack_memory request = not (takes_no_memory request) && not (changes_first request)

-- the calls whose reply is the answer to an ioctl
abbrev pub awaits_answer : {P : Type 0} → Request P → Bool
awaits_answer (Str cmd dat) = true
awaits_answer request = false

-- the module that a refused call hands back
abbrev pub pushed_of : {P : Type 0} → Request P → List (Option P)
pushed_of (Push instance) = Some instance ∷ []
pushed_of request = []

abbrev pub handed_out : {P : Type 0} → List P → List (Option P)
handed_out modules = map (λ s. Some s) modules

-- the image of a stream on which a call has begun
abbrev pub begun_of : {K : Type 0} → Meaning K → Image K → End → Request (Shape K) → Image K
begun_of means image e request = (effect_of means image e request).image

-- none of a call's own refusals holds
abbrev pub HasNoOwnRefusal : {K : Type 0} → Meaning K → Image K → End → Request (Shape K) → Type 0
HasNoOwnRefusal means image e request = first_that_holds (own_refusals means image e request) ≡ None

-- the modules that a call hands out, topmost first
abbrev pub handed_by : {K : Type 0} → Meaning K → Image K → End → Request (Shape K) → List (Option (Shape K))
handed_by means image e request = handed_out (effect_of means image e request).out

-- the modules that come back of a call: that of a refused push, or those that the call has taken out, topmost
-- first
abbrev pub back_of : {K : Type 0} → Meaning K → Image K → End → Request (Shape K) → Answer → List (Option (Shape K))
back_of means image e request (Refused refusal) = pushed_of request
back_of means image e request (Done reply) = handed_by means image e request
back_of means image e request Broke = handed_by means image e request

-- the modules of a list, by their serials
abbrev pub serials_of : {K : Type 0} → List (Shape K) → List ℕ
serials_of shapes = map (λ s. s.serial) shapes

-- the serials of the modules that a call has taken out, topmost first; a refused one takes none
abbrev pub out_of : {K : Type 0} → Meaning K → Image K → End → Request (Shape K) → Answer → List ℕ
out_of means image e request (Refused refusal) = []
out_of means image e request (Done reply) = serials_of (effect_of means image e request).out
out_of means image e request Broke = serials_of (effect_of means image e request).out

-- whether memory ran out, before any change or after one
abbrev pub is_no_memory : Refusal → Bool
is_no_memory NoMemory = true
is_no_memory refusal = false

abbrev pub wants_memory : Answer → Bool
wants_memory (Done reply) = false
wants_memory (Refused refusal) = is_no_memory refusal
wants_memory Broke = true

-- a call that never runs out of memory does not
abbrev pub HasItsMemory : {K : Type 0} → Image K → End → Request (Shape K) → Answer → Type 0
HasItsMemory image e request answer = takes_no_memory_at image e request ≡ true → wants_memory answer ≡ false

-- a call that sends no message breaks no stream on which no place may move once it has begun
abbrev pub BreaksNone : {K : Type 0} → Meaning K → Image K → End → Request (Shape K) → Answer → Type 0
BreaksNone means image e request answer =
    sends_no_message image e request ≡ true → NoneMay means (begun_of means image e request) → answer ≢ Broke

-- the refusals of a call are looked for in the one order of all refusals (`looking_order`)
abbrev pub AreRefusalsInOrder : {K : Type 0} → Meaning K → Type 0
AreRefusalsInOrder {K = K} means = (image : Image K) (e : End) (request : Request (Shape K)) → are_in_order (refusals means image e request) ≡ true
