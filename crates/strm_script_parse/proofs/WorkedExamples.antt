-- Each limit, computed at the number itself: the greatest that is taken, and the next, which is not. Those of
-- calls and of a stream's modules are computed in `strm_head`, and those of the command line in
-- `strsh_options`.
use Rattle.std.proofs.Common.{◌≡◌, ℕ, true, false, Some, None, List, [], ◌∷◌, length, replicate, codes, Result, Ok, Err, is_ok, refl}
use Rattle.strm_msg.specs.Message.{data_msg, ioctl_msg, pcproto_msg}
use Rattle.strm_msg.specs.declared.words.Side.TheVariants.{Rd}
use Rattle.strm_link.specs.declared.act.Act.TheVariants.{Keep, Lose, Double, Hold}
use Rattle.strm_link.specs.Rule.{Pattern, Drawn, generator_of}
use Rattle.strm_module.specs.Builtin.{builtin}
use Rattle.strm_module.specs.Calm.{options_of}
use Rattle.strm_module.specs.Module.{serve_of}
use Rattle.strm_module.specs.Shape.{is_name, is_split, new_shape}
use Rattle.strm_module.specs.declared.shape.Shape.{Shape}
use Rattle.strm_module.specs.declared.kind.Kind.{Kind}
use Rattle.strm_module.specs.declared.kind.Kind.TheVariants as kinds
use Rattle.strm_module.specs.declared.driver.Driver.TheVariants.{Line, Wire}
use Rattle.strm_head_calls.specs.Setup.{is_ring}
use Rattle.strm_head_calls.specs.declared.setup.Setup.{Setup}
use Rattle.strm_run_input.specs.Resolve.{is_worker_count}
use Rattle.strm_script_words.specs.Arrival.{message_at}
use Rattle.strm_script_words.specs.Field.{Number, marks_at, maximum_at, number_at, part_at, part_upto}
use Rattle.strm_script_words.specs.Push.{builtin_words}
use Rattle.strm_script_words.specs.Table.{Asked, Told, request_at}
use Rattle.strm_script_words.specs.declared.arrival.MessageWord.TheVariants as messages
use Rattle.strm_script_words.specs.declared.fault.Cause.{Cause}
use Rattle.strm_script_words.specs.declared.fault.Cause.TheVariants as causes
use Rattle.strm_script_words.specs.declared.verb.Verb.{Verb}
use Rattle.strm_script_words.specs.declared.verb.Verb.TheVariants as verbs
use Rattle.strm_script_parse.specs.Plan.{Call, Fed, Linked, Partial, Process, Streams}
use Rattle.strm_script_parse.specs.Expected.{are_choices, call_fields, expected_of, reply_fields}
use Rattle.strm_script_parse.specs.Reading.{Carrying, acts_at, carried_by, carry_at, fields_in, fresh_name, has_room, link_at, linked_at, lines_onto, may_carry, nothing_yet, odds_at, outside, spelt, with_await, with_call, with_link, with_message, with_process}
use Rattle.strm_script_parse.specs.declared.loading.TheConstants.{MOST_READ}
use Rattle.std.specs.Str.Lines.{lines}

-- ---- modules

abbrev module_of : Kind → Shape Kind
module_of kind = new_shape 1 (109 ∷ []) None None kind

longest_name : is_name (replicate 8 97) ≡ true
longest_name = refl

name_too_long : is_name (replicate 9 97) ≡ false
name_too_long = refl

greatest_split : is_split 4096 ≡ true
greatest_split = refl

split_too_great : is_split 4097 ≡ false
split_too_great = refl

-- the kind of a line discipline that has no rest yet, when a LF and so many other bytes have come
abbrev keeps : ℕ → Kind
keeps many = (serve_of builtin (module_of (kinds.Line [])) Rd (data_msg 0 (10 ∷ replicate many 97))).shape.kind

longest_rest_is_kept : keeps 4096 ≡ kinds.Line (replicate 4096 97)
longest_rest_is_kept = refl

longer_rest_is_not_kept : keeps 4097 ≡ kinds.Line []
longer_rest_is_not_kept = refl

-- how often an ioctl of this command sets options, with data that ask for a read mode
abbrev sets : ℕ → ℕ
sets cmd = options_of true (ioctl_msg 7 cmd (Some (1 ∷ 0 ∷ 0 ∷ [])))

command_that_sets_options : sets 16 ≡ 1
command_that_sets_options = refl

command_that_sets_none : sets 17 ≡ 0
command_that_sets_none = refl

-- ---- streams

-- a line through a ring of so many messages
abbrev ringed : ℕ → Setup
ringed ring = record { driver = Line; head = (16, 4); drv = (16, 4); ring = ring }

greatest_ring : is_ring (ringed 4096) ≡ true
greatest_ring = refl

ring_too_great : is_ring (ringed 4097) ≡ false
ring_too_great = refl

-- ---- runs

most_workers : is_worker_count 64 ≡ true
most_workers = refl

too_many_workers : is_worker_count 65 ≡ false
too_many_workers = refl

-- ---- fields of scripts

longest_number : number_at 9 (codes "00000000000000000009") ≡ Ok 9
longest_number = refl

number_too_long : number_at 9 (codes "000000000000000000009") ≡ Err causes.Number
number_too_long = refl

most_times : part_at (codes "*65535:61") ≡ Ok (replicate 65535 97)
most_times = refl

too_many_times : part_at (codes "*65536:61") ≡ Err causes.Part
too_many_times = refl

greatest_maximum : maximum_at (codes "65535") ≡ Ok (Some 65535)
greatest_maximum = refl

maximum_too_great : maximum_at (codes "65536") ≡ Err causes.Number
maximum_too_great = refl

greatest_mark : marks_at (codes "4294967295/0") ≡ Ok (4294967295, 0)
greatest_mark = refl

mark_too_great : marks_at (codes "4294967296/0") ≡ Err causes.Number
mark_too_great = refl

-- whether a band has room is asked
abbrev asks : List ℕ → Result (Asked Kind) Cause
asks band = request_at builtin_words 1 verbs.Canput (band ∷ [])

greatest_band : asks (codes "255") ≡ Ok (Told verbs.Canput (Number 255 ∷ []))
greatest_band = refl

band_too_great : asks (codes "256") ≡ Err causes.Number
band_too_great = refl

-- control and data, of so many bytes each
greatest_parts : message_at messages.Pcproto (codes "*1024:61" ∷ codes "*4096:61" ∷ []) ≡ Ok (pcproto_msg (replicate 1024 97) (Some (replicate 4096 97)))
unfolding part_upto
greatest_parts = refl

too_much_control : message_at messages.Pcproto (codes "*1025:61" ∷ codes "*4096:61" ∷ []) ≡ Err causes.Part
unfolding part_upto
too_much_control = refl

too_much_data : message_at messages.Pcproto (codes "*1024:61" ∷ codes "*4097:61" ∷ []) ≡ Err causes.Part
unfolding part_upto
too_much_data = refl

-- ---- lines of scripts

longest_stream_name : fresh_name [] (replicate 16 97) ≡ Ok (replicate 16 97)
longest_stream_name = refl

stream_name_too_long : fresh_name [] (replicate 17 97) ≡ Err causes.Name
stream_name_too_long = refl

-- so many streams
abbrev declared : ℕ → Streams
declared many = replicate many (115 ∷ [], ringed 1)

sixty_fourth_stream : has_room (declared 63) ≡ true
sixty_fourth_stream = refl

sixty_fifth_stream : has_room (declared 64) ≡ false
sixty_fifth_stream = refl

abbrev nothing : Partial Kind
nothing = nothing_yet

-- so many processes have ended
abbrev ended : ℕ → Partial Kind
ended many = record nothing { processes = replicate many (record { name = 112 ∷ []; calls = []; expected = []; awaits = [] }) }

process_256 : is_ok (with_process (ended 255) (113 ∷ [])) ≡ true
process_256 = refl

process_257 : with_process (ended 256) (113 ∷ []) ≡ Err causes.TooMany
process_257 = refl

call_65536 : (d : Partial Kind) (process : Process Kind) (verb : Verb) (call : Call Kind) → length process.calls ≡ 65535 → is_ok (with_call d process verb call []) ≡ true
call_65536 d process verb call many = rw many refl

call_65537 : (d : Partial Kind) (process : Process Kind) (verb : Verb) (call : Call Kind) → length process.calls ≡ 65536 → with_call d process verb call [] ≡ Err causes.TooMany
call_65537 d process verb call many = rw many refl

-- of a line
await_65536 : (d : Partial Kind) (process : Process Kind) → length process.awaits ≡ 65535 → is_ok (with_await d process (0, Line)) ≡ true
await_65536 d process many = rw many refl

await_65537 : (d : Partial Kind) (process : Process Kind) → length process.awaits ≡ 65536 → with_await d process (0, Line) ≡ Err causes.TooMany
await_65537 d process many = rw many refl

message_65536 : (feed : Fed) → length feed.messages ≡ 65535 → is_ok (with_message feed (data_msg 0 [])) ≡ true
message_65536 feed many = rw many refl

message_65537 : (feed : Fed) → length feed.messages ≡ 65536 → with_message feed (data_msg 0 []) ≡ Err causes.TooMany
message_65537 feed many = rw many refl

-- of a comment, which has no fields
longest_line : fields_in (35 ∷ replicate 16383 97) ≡ Ok []
longest_line = refl

line_too_long : fields_in (35 ∷ replicate 16384 97) ≡ Err causes.TooLong
line_too_long = refl

longest_script : (bytes : List ℕ) → length bytes ≡ 1048576 → spelt builtin_words bytes ≡ lines_onto builtin_words 0 nothing (lines bytes)
longest_script bytes many = rw many refl

script_too_long : (bytes : List ℕ) → length bytes ≡ 1048577 → spelt builtin_words bytes ≡ Err (record { line = 0; cause = causes.TooLong })
script_too_long bytes many = rw many refl

most_that_is_read : MOST_READ ≡ 1048577
most_that_is_read = refl

-- ---- the replies that a call expects

-- the fields of `write s:a =c`, and others behind them
abbrev write_line : List (List ℕ) → List (List ℕ)
write_line others = codes "s:a" ∷ codes "=c" ∷ others

fields_of_the_call : call_fields (write_line (codes ":" ∷ codes "1" ∷ codes "|" ∷ codes "EAGAIN" ∷ [])) ≡ write_line []
fields_of_the_call = refl

two_choices : expected_of 5 2 (reply_fields (write_line (codes ":" ∷ codes "1" ∷ codes "|" ∷ codes "ENOSR" ∷ codes "broke" ∷ []))) ≡ record { call = 2; line = 5; choices = codes " 1" ∷ codes " ENOSR broke" ∷ [] } ∷ []
two_choices = refl

nothing_expected : expected_of 5 2 (reply_fields (write_line [])) ≡ []
nothing_expected = refl

-- a choice without a field, at each place
no_choice : are_choices (reply_fields (write_line (codes ":" ∷ []))) ≡ false
no_choice = refl

no_first_choice : are_choices (reply_fields (write_line (codes ":" ∷ codes "|" ∷ codes "1" ∷ []))) ≡ false
no_first_choice = refl

no_last_choice : are_choices (reply_fields (write_line (codes ":" ∷ codes "1" ∷ codes "|" ∷ []))) ≡ false
no_last_choice = refl

no_middle_choice : are_choices (reply_fields (write_line (codes ":" ∷ codes "1" ∷ codes "|" ∷ codes "|" ∷ codes "2" ∷ []))) ≡ false
no_middle_choice = refl

-- a second `:` is a field of a reply
second_colon : reply_fields (write_line (codes ":" ∷ codes ":" ∷ [])) ≡ Some (codes ":" ∷ [])
second_colon = refl

-- the first field is NAME:END, whatever it is
colon_in_place_of_a_target : call_fields (codes ":" ∷ codes "=c" ∷ []) ≡ codes ":" ∷ codes "=c" ∷ []
colon_in_place_of_a_target = refl

-- ---- links

-- 1 to 64 letters
four_acts : acts_at (codes "kxdh") ≡ Ok (Pattern (Keep ∷ Lose ∷ Double ∷ Hold ∷ []))
four_acts = refl

most_acts : acts_at (replicate 64 120) ≡ Ok (Pattern (replicate 64 Lose))
most_acts = refl

too_many_acts : acts_at (replicate 65 120) ≡ Err causes.Part
too_many_acts = refl

no_act : acts_at (codes "kq") ≡ Err causes.Part
no_act = refl

all_odds : odds_at (codes "18446744073709551615") (codes "128") (codes "64") (codes "64") ≡ Ok (Drawn (record { lose = 128; double = 64; hold = 64 }) (generator_of 18446744073709551615))
all_odds = refl

more_than_all : odds_at (codes "7") (codes "128") (codes "64") (codes "65") ≡ Err causes.Number
more_than_all = refl

odds_too_great : odds_at (codes "7") (codes "257") (codes "0") (codes "0") ≡ Err causes.Number
odds_too_great = refl

-- two wires and a line: u, v and n
abbrev wire_setup : Setup
wire_setup = record { driver = Wire; head = (16, 4); drv = (16, 4); ring = 1 }

abbrev three : Streams
three = (codes "u", wire_setup) ∷ (codes "v", wire_setup) ∷ (codes "n", ringed 1) ∷ []

-- the link of a line on these streams, where the link `k` leads to v already, or nothing yet
abbrev link_to_v : Linked
link_to_v = record { name = codes "k"; from = 0; to = 1; rule = Pattern (Keep ∷ []); by = None }

abbrev second : List (List ℕ) → Result Linked Cause
second texts = link_at three [] (link_to_v ∷ []) texts

abbrev first : List (List ℕ) → Result Linked Cause
first texts = link_at three [] [] texts

keeps_all : first (codes "k" ∷ codes "u" ∷ codes "v" ∷ []) ≡ Ok link_to_v
unfolding link_at linked_at
keeps_all = refl

-- the faults of a link line, in order
two_fields : second (codes "k" ∷ codes "x" ∷ []) ≡ Err causes.Fields
unfolding link_at linked_at
two_fields = refl

no_such_rule : second (codes "k" ∷ codes "x" ∷ codes "x" ∷ codes "act" ∷ codes "k" ∷ codes "k" ∷ []) ≡ Err causes.UnknownWord
unfolding link_at linked_at
no_such_rule = refl

too_many_fields : second (codes "k" ∷ codes "x" ∷ codes "x" ∷ codes "acts" ∷ codes "q" ∷ codes "k" ∷ []) ≡ Err causes.Fields
unfolding link_at linked_at
too_many_fields = refl

taken_name : second (codes "k" ∷ codes "x" ∷ codes "x" ∷ codes "acts" ∷ codes "q" ∷ []) ≡ Err causes.Name
unfolding link_at linked_at
taken_name = refl

no_wire : second (codes "l" ∷ codes "x" ∷ codes "x" ∷ codes "acts" ∷ codes "q" ∷ []) ≡ Err causes.NoSuch
unfolding link_at linked_at
no_wire = refl

from_a_line : second (codes "l" ∷ codes "n" ∷ codes "x" ∷ codes "acts" ∷ codes "q" ∷ []) ≡ Err causes.OutOfPlace
unfolding link_at linked_at
from_a_line = refl

to_the_same : second (codes "l" ∷ codes "u" ∷ codes "v" ∷ codes "acts" ∷ codes "q" ∷ []) ≡ Err causes.OutOfPlace
unfolding link_at linked_at
to_the_same = refl

bad_letter : second (codes "l" ∷ codes "u" ∷ codes "u" ∷ codes "acts" ∷ codes "q" ∷ []) ≡ Err causes.Part
unfolding link_at linked_at
bad_letter = refl

abbrev linked : ℕ → Partial Kind
linked many = record nothing { links = replicate many link_to_v }

link_64 : is_ok (with_link (linked 63) link_to_v) ≡ true
link_64 = refl

link_65 : with_link (linked 64) link_to_v ≡ Err causes.TooMany
link_65 = refl

-- ---- carries

-- a carry line of process 3, which has 65530 calls, with the link `k`
abbrev carry_line : List (List ℕ) → Result Carrying Cause
carry_line texts = carry_at (link_to_v ∷ []) 3 65530 texts

carries_once : carry_line (codes "k" ∷ []) ≡ Ok (record { link = 0; from = 0; many = 1 })
unfolding carry_at
carries_once = refl

most_carries : carry_line (codes "k" ∷ codes "6" ∷ []) ≡ Ok (record { link = 0; from = 0; many = 6 })
unfolding carry_at
most_carries = refl

too_many_carries : carry_line (codes "k" ∷ codes "7" ∷ []) ≡ Err causes.TooMany
unfolding carry_at
too_many_carries = refl

no_carries : carry_line (codes "k" ∷ codes "0" ∷ []) ≡ Err causes.Number
unfolding carry_at
no_carries = refl

no_link : carry_line (codes "u" ∷ codes "0" ∷ []) ≡ Err causes.NoSuch
unfolding carry_at
no_link = refl

-- no reply is expected of a carry
no_replies : carry_line (codes "k" ∷ codes ":" ∷ codes "EAGAIN" ∷ []) ≡ Err causes.Fields
unfolding carry_at
no_replies = refl

-- process 3 carries on a link from wire 0, and so not on another one from there
abbrev carried : List Linked
carried = carried_by 3 (link_to_v ∷ []) 0

once_from_a_wire : may_carry carried 3 0 None ≡ false
once_from_a_wire = refl

from_another_wire : may_carry carried 3 1 None ≡ true
from_another_wire = refl

another_process : may_carry carried 4 0 None ≡ true
another_process = refl

its_own : may_carry carried 3 0 (Some 3) ≡ true
its_own = refl

of_another_process : may_carry carried 4 0 (Some 3) ≡ false
of_another_process = refl

carry_out_of_place : outside (codes "carry") ≡ causes.OutOfPlace
carry_out_of_place = refl
