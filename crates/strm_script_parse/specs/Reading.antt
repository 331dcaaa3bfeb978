-- The reading of a script from left to right: its plan, or its first fault.
use Rattle.std.specs.Prelude.{ℕ, zero, suc, ◌+◌, ◌<◌, ◌==◌, ◌||◌, ◌&&◌, Bool, not, nat_lt, nat_le, Option, Some, None, List, [], ◌∷◌, ◌++◌, length, Result, Ok, Err, codes, map, is_some, position, replicate, slice_get, if◌then◌else◌, slice_index}
use Rattle.std.specs.Str.{bytes_eq}
use Rattle.std.specs.Str.Lines.{lines}
use Rattle.std.specs.List.{list_any, list_all}
use Rattle.strm_msg.specs.Message.{Msg}
use Rattle.strm_msg.specs.declared.words.End.TheVariants.{A}
use Rattle.strm_link.specs.declared.act.Act.{Act}
use Rattle.strm_link.specs.declared.act.Act.TheVariants.{Keep, Lose, Double, Hold}
use Rattle.strm_link.specs.declared.rule.TheConstants.{MOST_ACTS, DRAWS}
use Rattle.strm_link.specs.Rule.{RuleValue, Pattern, Drawn, generator_of}
use Rattle.strm_script_text.specs.Bytes.{is_allowed}
use Rattle.strm_script_text.specs.Text.{name_of, fields_of}
use Rattle.strm_module.specs.declared.driver.Driver.{Driver}
use Rattle.strm_module.specs.declared.driver.Driver.TheVariants.{Echo, Loop, Line, Wire}
use Rattle.strm_module.specs.Driver.{is_line, is_wire}
use Rattle.strm_head_calls.specs.declared.setup.Setup.{Setup}
use Rattle.strm_head_calls.specs.declared.setup.TheConstants.{MOST_RING}
use Rattle.strm_run_input.specs.declared.script.Await.{Await}
use Rattle.strm_script_words.specs.Fault.{◌>>=◌, or_fault}
use Rattle.strm_script_words.specs.Field.{number_at, marks_at}
use Rattle.strm_script_words.specs.Naming.{KindWords}
use Rattle.strm_script_words.specs.Table.{Told, verb_named, is_push, arity_at, request_at}
use Rattle.strm_script_words.specs.Arrival.{message_named, message_at}
use Rattle.strm_script_words.specs.declared.fault.Cause.{Cause}
use Rattle.strm_script_words.specs.declared.fault.Cause.TheVariants as causes
use Rattle.strm_script_words.specs.declared.service.TheConstants.{MOST_ID}
use Rattle.strm_script_words.specs.declared.verb.Verb.{Verb}
use Rattle.strm_script_words.specs.declared.verb.Verb.TheVariants.{Take}
use Rattle.strm_script_words.specs.declared.arrival.MessageWord.{MessageWord}
use Rattle.strm_script_parse.specs.Expected.{call_fields, reply_fields, are_choices, expected_of}
use Rattle.strm_script_parse.specs.Plan.{Call, Expect, Process, Fed, Linked, Streams, Whole, Place, Nowhere, In_process, In_feed, Partial}
use Rattle.strm_script_parse.specs.Sound.{is_by_one}
use Rattle.strm_script_parse.specs.Targets.{stream_names, stream_at, target_of}
use Rattle.strm_script_parse.specs.declared.plan.TheConstants.{LONGEST}
use Rattle.strm_script_parse.specs.declared.draft.TheConstants.{MOST_STREAMS, MOST_PROCESSES, MOST_CALLS, MOST_AWAITS, MOST_MESSAGES, MOST_LINKS, LONGEST_LINE}
use Rattle.strm_script_parse.specs.declared.parsing.TheConstants.{LONGEST_SCRIPT}

-- a name that none of these is
abbrev pub fresh_name : List (List ℕ) → List ℕ → Result (List ℕ) Cause
fresh_name used text = do
  chosen ← or_fault causes.Name (name_of LONGEST text)
  if list_any (bytes_eq chosen) used then Err causes.Name else Ok chosen

-- the name of a new stream
abbrev pub stream_name : Streams → List ℕ → Result (List ℕ) Cause
stream_name streams text = fresh_name (stream_names streams) text

-- the plan once the process or feed that goes on at this place has ended
abbrev pub ended_at : {K : Type 0} → Partial K → Place K → Partial K
ended_at d Nowhere = record d { place = Nowhere }
ended_at d (In_process process) = record d { processes = d.processes ++ process ∷ []; place = Nowhere }
ended_at d (In_feed feed) = record d { feeds = d.feeds ++ feed ∷ []; place = Nowhere }

-- the plan once nothing goes on any more
abbrev pub ended : {K : Type 0} → Partial K → Partial K
ended d = ended_at d d.place

-- ---- stream NAME DRIVER H D, and RING for a line or a wire

-- the driver of a word
abbrev pub driver_at : List ℕ → Result Driver Cause
driver_at text =
    if bytes_eq text (codes "echo") then Ok Echo
    else (if bytes_eq text (codes "loop") then Ok Loop else (if bytes_eq text (codes "line") then Ok Line else (if bytes_eq text (codes "wire") then Ok Wire else Err causes.UnknownWord)))

-- the ring of a number from 1 to the greatest ring
abbrev pub ring_at : List ℕ → Result ℕ Cause
ring_at text = number_at MOST_RING text >>= λ ring. if nat_le 1 ring then Ok ring else Err causes.Number

-- the ring behind the marks; a stream without a ring counts as one with room for one message
abbrev pub rings_at : Driver → List (List ℕ) → Result ℕ Cause
rings_at driver [] = if is_line driver then Err causes.Fields else Ok 1
rings_at driver (ring ∷ []) = if is_line driver then ring_at ring else Err causes.Fields
rings_at driver texts = Err causes.Fields

-- the number of fields that follow DRIVER
abbrev pub setup_arity : Driver → ℕ
setup_arity driver = if is_line driver then 3 else 2

-- the setup of a stream of this driver
unfoldable pub setup_at : Driver → List (List ℕ) → Result Setup Cause
setup_at driver (head ∷ drv ∷ texts) = do
  above ← marks_at head
  below ← marks_at drv
  ring ← rings_at driver texts
  Ok (record { driver = driver; head = above; drv = below; ring = ring })
setup_at driver texts = Err causes.Fields

-- the name and the setup of a new stream
abbrev pub declared_at : Streams → Driver → List ℕ → List (List ℕ) → Result (List ℕ × Setup) Cause
declared_at streams driver name texts = do
  chosen ← stream_name streams name
  setup ← setup_at driver texts
  Ok (chosen, setup)

-- whether there is room for one more stream
abbrev pub has_room : Streams → Bool
has_room streams = nat_lt (length streams) MOST_STREAMS

-- the plan with one more stream
abbrev pub with_stream : {K : Type 0} → Partial K → List ℕ × Setup → Result (Partial K) Cause
with_stream d stream =
    if has_room d.streams then Ok (record d { streams = d.streams ++ stream ∷ [] }) else Err causes.TooMany

-- the plan with the stream of a line that has the number of fields of its driver
abbrev pub setup_onto : {K : Type 0} → Partial K → Driver → List ℕ → List (List ℕ) → Result (Partial K) Cause
setup_onto d driver name texts = declared_at d.streams driver name texts >>= λ stream. with_stream d stream

-- the plan behind a stream line; the driver decides how many fields there are, so its word is checked before
-- their number
unfoldable pub stream_onto : {K : Type 0} → Partial K → List (List ℕ) → Result (Partial K) Cause
stream_onto d (name ∷ driver ∷ texts) = do
  kind ← driver_at driver
  if length texts == setup_arity kind then setup_onto d kind name texts else Err causes.Fields
stream_onto d texts = Err causes.Fields

-- ---- process NAME

-- the names of processes, in order
abbrev pub process_names : {K : Type 0} → List (Process K) → List (List ℕ)
process_names processes = map (λ process. process.name) processes

-- whether a process has this name
abbrev pub has_process : {K : Type 0} → List (Process K) → List ℕ → Bool
has_process processes name = list_any (bytes_eq name) (process_names processes)

-- the name of a new process; `line` stands for arrivals in a transcript, so no process has that name
abbrev pub process_name : {K : Type 0} → List (Process K) → List ℕ → Result (List ℕ) Cause
process_name processes text = do
  chosen ← fresh_name (process_names processes) text
  if bytes_eq chosen (codes "line") then Err causes.Name else Ok chosen

-- the plan with a new process of this name, which goes on
abbrev pub with_process : {K : Type 0} → Partial K → List ℕ → Result (Partial K) Cause
with_process d chosen =
    if nat_lt (length d.processes) MOST_PROCESSES then Ok (record d { place = In_process (record { name = chosen; calls = []; expected = []; awaits = [] }) }) else Err causes.TooMany

-- the plan behind a process line
unfoldable pub process_onto : {K : Type 0} → Partial K → List (List ℕ) → Result (Partial K) Cause
process_onto d (name ∷ []) = process_name d.processes name >>= λ chosen. with_process d chosen
process_onto d texts = Err causes.Fields

-- ---- feed NAME

-- whether the stream has a feed
abbrev pub has_feed : List Fed → ℕ → Bool
has_feed feeds number = list_any (λ feed. feed.stream == number) feeds

-- whether a link leads to the stream
abbrev pub leads_to : List Linked → ℕ → Bool
leads_to links number = list_any (λ link. link.to == number) links

-- the plan with a new feed, for a line or a wire that has none, and to which no link leads
abbrev pub with_feed : {K : Type 0} → Partial K → ℕ × Driver → Result (Partial K) Cause
with_feed d found =
    if is_line found.1 && not (has_feed d.feeds found.0 || leads_to d.links found.0) then Ok (record d { place = In_feed (record { stream = found.0; messages = [] }) })
    else Err causes.OutOfPlace

-- the plan behind a feed line
unfoldable pub feed_onto : {K : Type 0} → Partial K → List (List ℕ) → Result (Partial K) Cause
feed_onto d (name ∷ []) = or_fault causes.NoSuch (stream_at d.streams name) >>= λ found. with_feed d found
feed_onto d texts = Err causes.Fields

-- ---- link NAME FROM TO, and its rule

-- whether a letter stands for an act
abbrev pub is_letter : ℕ → Bool
is_letter letter = (letter == 107) || (letter == 120) || (letter == 100) || (letter == 104)

-- the act of a letter: k, x, d and h keep, lose, double and hold
abbrev pub act_of_letter : ℕ → Act
act_of_letter letter =
    if letter == 120 then Lose else (if letter == 100 then Double else (if letter == 104 then Hold else Keep))

-- whether each letter of a text stands for an act
abbrev pub are_letters : List ℕ → Bool
are_letters text = list_all is_letter text

-- the pattern of 1 to 64 letters
abbrev pub acts_at : List ℕ → Result RuleValue Cause
acts_at text =
    if nat_le 1 (length text) && nat_le (length text) MOST_ACTS && are_letters text then Ok (Pattern (map act_of_letter text))
    else Err causes.Part

-- a number of draws
abbrev pub draws_at : List ℕ → Result ℕ Cause
draws_at text = number_at DRAWS text

-- the odds of so many draws, and a seed
abbrev pub drawn_at : ℕ → ℕ → ℕ → ℕ → Result RuleValue Cause
drawn_at seed lose double hold =
    if nat_le (lose + double + hold) DRAWS then Ok (Drawn (record { lose = lose; double = double; hold = hold }) (generator_of seed))
    else Err causes.Number

-- the seed, and how many of 256 draws lose, double and hold: at most 256 together
abbrev pub odds_at : List ℕ → List ℕ → List ℕ → List ℕ → Result RuleValue Cause
odds_at seed lose double hold = do
  start ← number_at MOST_ID seed
  losing ← draws_at lose
  doubling ← draws_at double
  holding ← draws_at hold
  drawn_at start losing doubling holding

-- the number of fields of a rule, by its word; there may be none
abbrev pub rule_arity : List (List ℕ) → Result ℕ Cause
rule_arity [] = Ok 0
rule_arity (word ∷ texts) =
    if bytes_eq word (codes "acts") then Ok 2 else (if bytes_eq word (codes "seed") then Ok 5 else Err causes.UnknownWord)

-- the rule of these fields, of which there are as many as its word says; where there are none all is kept
abbrev pub rule_at : List (List ℕ) → Result RuleValue Cause
rule_at [] = Ok (Pattern (Keep ∷ []))
rule_at (word ∷ acts ∷ []) = acts_at acts
rule_at (word ∷ seed ∷ lose ∷ double ∷ hold ∷ []) = odds_at seed lose double hold
rule_at texts = Err causes.Fields

-- the names of links, in order
abbrev pub link_names : List Linked → List (List ℕ)
link_names links = map (λ link. link.name) links

-- whether a link has this name
abbrev pub has_link : List Linked → List ℕ → Bool
has_link links name = list_any (bytes_eq name) (link_names links)

-- the name of a new link
abbrev pub link_name : List Linked → List ℕ → Result (List ℕ) Cause
link_name links text = fresh_name (link_names links) text

-- the number of the wire that a field names
abbrev pub wire_at : Streams → List ℕ → Result ℕ Cause
wire_at streams text =
    or_fault causes.NoSuch (stream_at streams text) >>= λ found. if is_wire found.1 then Ok found.0 else Err causes.OutOfPlace

-- the same of one that has no feed, and to which no link leads
abbrev pub free_wire_at : Streams → List Fed → List Linked → List ℕ → Result ℕ Cause
free_wire_at streams feeds links text =
    wire_at streams text >>= λ wire. if has_feed feeds wire || leads_to links wire then Err causes.OutOfPlace else Ok wire

-- a new link, whose fields are read from left to right; no process carries on it yet
unfoldable pub linked_at : Streams → List Fed → List Linked → List ℕ → List ℕ → List ℕ → List (List ℕ) → Result Linked Cause
linked_at streams feeds links name from to texts = do
  chosen ← link_name links name
  taken ← wire_at streams from
  reached ← free_wire_at streams feeds links to
  rule ← rule_at texts
  Ok (record { name = chosen; from = taken; to = reached; rule = rule; by = None })

-- a link line; the word behind TO decides how many fields there are, so it is checked before their number
unfoldable pub link_at : Streams → List Fed → List Linked → List (List ℕ) → Result Linked Cause
link_at streams feeds links (name ∷ from ∷ to ∷ texts) =
    rule_arity texts >>= λ arity. if length texts == arity then linked_at streams feeds links name from to texts else Err causes.Fields
link_at streams feeds links texts = Err causes.Fields

-- the plan with one more link
abbrev pub with_link : {K : Type 0} → Partial K → Linked → Result (Partial K) Cause
with_link d link =
    if nat_lt (length d.links) MOST_LINKS then Ok (record d { links = d.links ++ link ∷ [] }) else Err causes.TooMany

-- the plan behind a link line
unfoldable pub link_onto : {K : Type 0} → Partial K → List (List ℕ) → Result (Partial K) Cause
link_onto d texts = link_at d.streams d.feeds d.links texts >>= λ link. with_link d link

-- ---- VERB NAME:END ..

-- the number of declared modules, with that of this call
abbrev pub modules_after : Verb → ℕ → ℕ
modules_after verb modules = if is_push verb then modules + 1 else modules

-- a call that has its number of fields, read from left to right
abbrev pub placed_call : {K : Type 0} → KindWords K → Streams → ℕ → Verb → List ℕ → List (List ℕ) → Result (Call K) Cause
placed_call words streams serial verb target texts = do
  place ← or_fault causes.NoSuch (target_of streams target)
  asked ← request_at words serial verb texts
  Ok (record { stream = place.0; end = place.1; asked = asked })

-- a call, by its fields and those of the expected replies; first it is checked that there are as many fields
-- as there have to be, and for a push the word of its kind before that
unfoldable pub call_at : {K : Type 0} → KindWords K → Streams → ℕ → Verb → List (List ℕ) → Option (List (List ℕ)) → Result (Call K) Cause
call_at words streams serial verb [] replies = Err causes.Fields
call_at words streams serial verb (target ∷ texts) replies =
    arity_at words verb texts >>= λ arity. if are_choices replies && (length texts == arity) then placed_call words streams serial verb target texts else Err causes.Fields

-- the plan with one more call of the process that goes on, and the replies that are expected of it
abbrev pub with_call : {K : Type 0} → Partial K → Process K → Verb → Call K → List Expect → Result (Partial K) Cause
with_call d process verb call expected =
    if nat_lt (length process.calls) MOST_CALLS then Ok (record d { modules = modules_after verb d.modules; place = In_process (record process { calls = process.calls ++ call ∷ []; expected = process.expected ++ expected }) })
    else Err causes.TooMany

-- the plan behind a call line of this number; a push declares the next module
unfoldable pub call_onto : {K : Type 0} → KindWords K → ℕ → Partial K → Process K → Verb → List (List ℕ) → Result (Partial K) Cause
call_onto words n d process verb texts =
    call_at words d.streams (d.modules + 1) verb (call_fields texts) (reply_fields texts) >>= λ call. with_call d process verb call (expected_of n (length process.calls) (reply_fields texts))

-- ---- await NAME

-- the next call of a process awaits the feed of this stream
abbrev pub await_of : {K : Type 0} → Process K → ℕ → Await
await_of process stream = record { call = length process.calls; stream = stream }

-- the plan with one more await of the process that goes on, of a line or a wire
abbrev pub with_await : {K : Type 0} → Partial K → Process K → ℕ × Driver → Result (Partial K) Cause
with_await d process found =
    if is_line found.1 then (if nat_lt (length process.awaits) MOST_AWAITS then Ok (record d { place = In_process (record process { awaits = process.awaits ++ await_of process found.0 ∷ [] }) }) else Err causes.TooMany)
    else Err causes.OutOfPlace

-- the only field of a line
abbrev pub only_field : List (List ℕ) → Result (List ℕ) Cause
only_field (text ∷ []) = Ok text
only_field texts = Err causes.Fields

-- the plan behind an await line; the stream need not have a feed
unfoldable pub await_onto : {K : Type 0} → Partial K → Process K → List (List ℕ) → Result (Partial K) Cause
await_onto d process texts = do
  name ← only_field texts
  found ← or_fault causes.NoSuch (stream_at d.streams name)
  with_await d process found

-- ---- carry NAME, and COUNT

-- some carries: the number of their link, the wire that it takes from, and how many they are
pub record Carrying : Type 0 where
  pub link : ℕ
  pub from : ℕ
  pub many : ℕ

-- the number of the link of this name
abbrev pub link_of : List Linked → List ℕ → Option ℕ
link_of links wanted = position (bytes_eq wanted) (link_names links)

-- the number of carries; one, if it is left out
abbrev pub count_at : List (List ℕ) → Result ℕ Cause
count_at [] = Ok 1
count_at (text ∷ texts) = number_at MOST_CALLS text >>= λ many. if nat_le 1 many then Ok many else Err causes.Number

-- whether this process carries on a link from this wire
abbrev pub carries_from : ℕ → ℕ → Linked → Bool
carries_from process wire link = is_by_one (Some process) link.by && (wire == link.from)

abbrev pub any_carries : List Linked → ℕ → ℕ → Bool
any_carries links process wire = list_any (carries_from process wire) links

-- whether this process may carry on a link from this wire, on which that process carries, if one does: no
-- other does, and this one carries on no other link from that wire
abbrev pub may_carry : List Linked → ℕ → ℕ → Option ℕ → Bool
may_carry links process wire None = not (any_carries links process wire)
may_carry links process wire (Some by) = by == process

-- so many carries of this process on the link of this number, if it may carry on it; it has so many calls
-- already
abbrev pub carrying : List Linked → ℕ → ℕ → ℕ → Linked → ℕ → Result Carrying Cause
carrying links process calls number link many =
    if may_carry links process link.from link.by then (if nat_le (calls + many) MOST_CALLS then Ok (record { link = number; from = link.from; many = many }) else Err causes.TooMany)
    else Err causes.OutOfPlace

-- the carries of a line with the name of a link, and the number of carries if that is not left out
abbrev pub carried_at : List Linked → ℕ → ℕ → List ℕ → List (List ℕ) → Result Carrying Cause
carried_at links process calls name texts = do
  number ← or_fault causes.NoSuch (link_of links name)
  many ← count_at texts
  link ← or_fault causes.NoSuch (slice_get links number)
  carrying links process calls number link many

-- the carries of a line of this process, read from left to right
unfoldable pub carry_at : List Linked → ℕ → ℕ → List (List ℕ) → Result Carrying Cause
carry_at links process calls [] = Err causes.Fields
carry_at links process calls (name ∷ texts) =
    if nat_le (length texts) 1 then carried_at links process calls name texts else Err causes.Fields

-- the call that a carry stands for: a take at end `a` of the wire that the link takes from
abbrev pub take_from : {K : Type 0} → ℕ → Call K
take_from wire = record { stream = wire; end = A; asked = Told Take [] }

-- these links, where this process carries on the one of this number
abbrev pub carried_by : ℕ → List Linked → ℕ → List Linked
carried_by process [] number = []
carried_by process (link ∷ links) zero = record link { by = Some process } ∷ links
carried_by process (link ∷ links) (suc number) = link ∷ carried_by process links number

-- the plan with these carries of the process that goes on, which is its link's carrier from then on
abbrev pub with_carries : {K : Type 0} → Partial K → Process K → Carrying → Partial K
with_carries d process carries =
    record d { links = carried_by (length d.processes) d.links carries.link; place = In_process (record process { calls = process.calls ++ replicate carries.many (take_from carries.from) }) }

-- the plan behind a carry line
unfoldable pub carry_onto : {K : Type 0} → Partial K → Process K → List (List ℕ) → Result (Partial K) Cause
carry_onto d process texts =
    carry_at d.links (length d.processes) (length process.calls) texts >>= λ carries. Ok (with_carries d process carries)

-- ---- a message of a feed

-- the feed with one more message
abbrev pub with_message : Fed → Msg → Result Fed Cause
with_message feed m =
    if nat_lt (length feed.messages) MOST_MESSAGES then Ok (record { stream = feed.stream; messages = feed.messages ++ m ∷ [] })
    else Err causes.TooMany

-- the feed behind a message line
unfoldable pub message_onto : Fed → MessageWord → List (List ℕ) → Result Fed Cause
message_onto feed word texts = message_at word texts >>= λ m. with_message feed m

-- ---- a line

-- the word of an await
abbrev pub is_await : List ℕ → Bool
is_await word = bytes_eq word (codes "await")

-- the word of a carry
abbrev pub is_carry : List ℕ → Bool
is_carry word = bytes_eq word (codes "carry")

-- the word of a link
abbrev pub is_link : List ℕ → Bool
is_link word = bytes_eq word (codes "link")

-- the cause of the fault of a word that cannot be here: out of place if it could be elsewhere
abbrev pub outside : List ℕ → Cause
outside word = if is_some (verb_named word) || is_some (message_named word) || is_await word || is_carry word then causes.OutOfPlace else causes.UnknownWord

-- the plan behind the line of a process that begins with this word
abbrev pub process_line_onto : {K : Type 0} → KindWords K → ℕ → Partial K → Process K → List ℕ → List (List ℕ) → Result (Partial K) Cause
process_line_onto words n d process word texts =
    if is_await word then await_onto d process texts
    else if is_carry word then carry_onto d process texts
    else or_fault (outside word) (verb_named word) >>= λ verb. call_onto words n d process verb texts

-- the feed behind a line of it that begins with this word
abbrev pub fed_onto : Fed → List ℕ → List (List ℕ) → Result Fed Cause
fed_onto feed word texts = or_fault (outside word) (message_named word) >>= λ m. message_onto feed m texts

-- the plan behind a call, an await or a carry of the process that goes on, or a message of the feed that goes on;
-- `flush` is a message in a feed, and a call elsewhere
abbrev pub inner_onto : {K : Type 0} → KindWords K → ℕ → Partial K → Place K → List ℕ → List (List ℕ) → Result (Partial K) Cause
inner_onto words n d Nowhere word texts = Err (outside word)
inner_onto words n d (In_process process) word texts = process_line_onto words n d process word texts
inner_onto words n d (In_feed feed) word texts = fed_onto feed word texts >>= λ after. Ok (record d { place = In_feed after })

-- the plan behind a link, which ends what goes on, or another line of what goes on
abbrev pub other_onto : {K : Type 0} → KindWords K → ℕ → Partial K → Place K → List ℕ → List (List ℕ) → Result (Partial K) Cause
other_onto words n d place word texts =
    if is_link word then link_onto (ended_at d place) texts else inner_onto words n d place word texts

-- the plan behind the line of this number that begins with this word
unfoldable pub word_onto : {K : Type 0} → KindWords K → ℕ → Partial K → List ℕ → List (List ℕ) → Result (Partial K) Cause
word_onto words n d word texts =
    if bytes_eq word (codes "stream") then stream_onto (ended d) texts
    else (if bytes_eq word (codes "process") then process_onto (ended d) texts
    else (if bytes_eq word (codes "feed") then feed_onto (ended d) texts else other_onto words n d d.place word texts))

-- the plan behind a line of these fields; a line without fields adds nothing
abbrev pub fields_onto : {K : Type 0} → KindWords K → ℕ → Partial K → List (List ℕ) → Result (Partial K) Cause
fields_onto words n d [] = Ok d
fields_onto words n d (word ∷ texts) = word_onto words n d word texts

-- a line has more bytes than it may have
abbrev pub IsTooLong : List ℕ → Type 0
IsTooLong line = LONGEST_LINE < length line

-- the fields of a line without its LF and the CR before it; its length is checked first; a comment has none,
-- and nothing else of it is checked
abbrev pub fields_in : List ℕ → Result (List (List ℕ)) Cause
fields_in line =
    if nat_lt LONGEST_LINE (length line) then Err causes.TooLong
    else (if slice_index line 0 == 35 then Ok [] else (if list_all is_allowed line then Ok (fields_of line) else Err causes.Byte))

-- the plan behind a line of this number
unfoldable pub line_onto : {K : Type 0} → KindWords K → ℕ → Partial K → List ℕ → Result (Partial K) Cause
line_onto words n d line = fields_in line >>= λ texts. fields_onto words n d texts

-- ---- all lines

-- a fault at its line, counted from 1, with the cause
pub record FaultAt : Type 0 where
  pub line : ℕ
  pub cause : Cause

-- the plan of a script that ends here
abbrev pub plan_of : {K : Type 0} → Partial K → Whole K
plan_of d = record { streams = (ended d).streams; processes = (ended d).processes; feeds = (ended d).feeds; links = (ended d).links }

-- the reading of the other lines behind a line that was read; a fault gets the number of its line
abbrev pub then_lines : {K : Type 0} → ℕ → Result (Partial K) Cause → (Partial K → Result (Whole K) FaultAt) → Result (Whole K) FaultAt
then_lines n (Ok d) others = others d
then_lines n (Err cause) others = Err (record { line = n; cause = cause })

-- the reading of lines, one after another, behind that many that were read
unfoldable pub lines_onto : {K : Type 0} → KindWords K → ℕ → Partial K → List (List ℕ) → Result (Whole K) FaultAt
lines_onto words n d [] = Ok (plan_of d)
lines_onto words n d (line ∷ others) = then_lines (n + 1) (line_onto words (n + 1) d line) (λ e. lines_onto words (n + 1) e others)

-- the plan before the first line
abbrev pub nothing_yet : {K : Type 0} → Partial K
nothing_yet = record { streams = []; processes = []; feeds = []; links = []; modules = 0; place = Nowhere }

-- the plan that the lines of a text spell, or their first fault
abbrev pub lines_spelt : {K : Type 0} → KindWords K → List ℕ → Result (Whole K) FaultAt
lines_spelt words bytes = lines_onto words 0 nothing_yet (lines bytes)

-- the plan that a script spells, or its first fault; the length of the whole is checked before any line
abbrev pub spelt : {K : Type 0} → KindWords K → List ℕ → Result (Whole K) FaultAt
spelt words bytes = if nat_lt LONGEST_SCRIPT (length bytes) then Err (record { line = 0; cause = causes.TooLong }) else lines_spelt words bytes
