-- The definitions of the calls on messages, computed on worked examples.
use Rattle.std.proofs.Common.{◌≡◌, ℕ, true, List, [], ◌∷◌, Some, None, refl}
use Rattle.strm_msg.specs.Message.{Msg, data_msg, proto_msg, pcproto_msg}
use Rattle.strm_msg.specs.declared.words.End.TheVariants.{A}
use Rattle.strm_msg.specs.declared.words.Prot.{Prot}
use Rattle.strm_msg.specs.declared.words.Prot.TheVariants.{Norm, Dat, Dis}
use Rattle.strm_msg.specs.declared.words.ReadMode.{ReadMode}
use Rattle.strm_msg.specs.declared.words.ReadMode.TheVariants.{Rnorm, Rmsgn, Rmsgd}
use Rattle.strm_msg.specs.Marks.{WaterMarks}
use Rattle.strm_module.specs.declared.kind.Kind.{Kind}
use Rattle.strm_module.specs.declared.driver.Driver.TheVariants.{Line}
use Rattle.strm_chain_ends.specs.Image.{Image, fresh}
use Rattle.strm_head_calls.specs.declared.refusal.Refusal.TheVariants.{BadMessage, WouldWait}
use Rattle.strm_head_calls.specs.declared.answer.More.TheVariants.{Nothing, Ctl, Data, Both}
use Rattle.strm_head_calls.specs.declared.answer.Reply.TheVariants as Reply
use Rattle.strm_head_calls.specs.Refusal.{first_that_holds}
use Rattle.strm_head_calls.specs.Effect.{effect}
use Rattle.strm_head_calls.specs.Cut.{cut_of}
use Rattle.strm_head_read.specs.Read.{Reading, read_of, read_refusals, read_effect}

abbrev ab : List ℕ
ab = 97 ∷ 98 ∷ []

abbrev cd : List ℕ
cd = 99 ∷ 100 ∷ []

abbrev empty : Msg
empty = data_msg 0 []

-- these bytes are read, and these messages stay
abbrev reads : List ℕ → List Msg → Reading
reads bytes stays = record { bytes = bytes; stays = stays }

-- a byte-stream read goes on, but not to a message without bytes
stream_stops_at_an_empty_message : read_of Rnorm Norm 10 (data_msg 0 ab ∷ empty ∷ data_msg 0 cd ∷ []) ≡ reads ab (empty ∷ data_msg 0 cd ∷ [])
stream_stops_at_an_empty_message = refl

empty_message_is_read_alone : read_of Rnorm Norm 10 (empty ∷ data_msg 0 cd ∷ []) ≡ reads [] (data_msg 0 cd ∷ [])
empty_message_is_read_alone = refl

stream_ends_with_the_list : read_of Rnorm Norm 10 (data_msg 0 cd ∷ []) ≡ reads cd []
stream_ends_with_the_list = refl

-- nor does it look at the message behind the last byte, and under the norm protocol it goes on to no control
stream_stops_at_the_last_byte : read_of Rnorm Norm 2 (data_msg 0 ab ∷ empty ∷ []) ≡ reads ab (empty ∷ [])
stream_stops_at_the_last_byte = refl

stream_stops_at_control : read_of Rnorm Norm 10 (data_msg 0 ab ∷ proto_msg 0 ab (Some cd) ∷ []) ≡ reads ab (proto_msg 0 ab (Some cd) ∷ [])
stream_stops_at_control = refl

stream_goes_on_to_control_as_data : read_of Rnorm Dat 5 (data_msg 0 ab ∷ proto_msg 0 ab (Some cd) ∷ []) ≡ reads (97 ∷ 98 ∷ 97 ∷ 98 ∷ 99 ∷ []) (data_msg 0 (100 ∷ []) ∷ [])
stream_goes_on_to_control_as_data = refl

stream_goes_on_past_control : read_of Rnorm Dis 3 (data_msg 0 ab ∷ proto_msg 0 ab (Some cd) ∷ []) ≡ reads (97 ∷ 98 ∷ 99 ∷ []) (data_msg 0 (100 ∷ []) ∷ [])
stream_goes_on_past_control = refl

-- the last byte in the middle of the second message
stream_leaves_a_rest : read_of Rnorm Norm 3 (data_msg 0 ab ∷ data_msg 0 cd ∷ empty ∷ []) ≡ reads (97 ∷ 98 ∷ 99 ∷ []) (data_msg 0 (100 ∷ []) ∷ empty ∷ [])
stream_leaves_a_rest = refl

-- a rest stays in its band, before its equals
rest_stays_in_its_band : read_of Rnorm Norm 1 (data_msg 3 ab ∷ data_msg 3 cd ∷ data_msg 0 ab ∷ []) ≡ reads (97 ∷ []) (data_msg 3 (98 ∷ []) ∷ data_msg 3 cd ∷ data_msg 0 ab ∷ [])
rest_stays_in_its_band = refl

-- what was high is ordinary once its control is read, and then stands behind what is of a greater band
rest_of_high_control_is_ordinary : read_of Rmsgn Dat 3 (pcproto_msg ab (Some cd) ∷ data_msg 2 ab ∷ []) ≡ reads (97 ∷ 98 ∷ 99 ∷ []) (data_msg 2 ab ∷ data_msg 0 (100 ∷ []) ∷ [])
rest_of_high_control_is_ordinary = refl

-- a read of messages does not go on
message_mode_reads_one : read_of Rmsgn Norm 10 (data_msg 0 ab ∷ data_msg 0 cd ∷ []) ≡ reads ab (data_msg 0 cd ∷ [])
message_mode_reads_one = refl

message_mode_leaves_a_rest : read_of Rmsgn Norm 1 (data_msg 0 ab ∷ data_msg 0 cd ∷ []) ≡ reads (97 ∷ []) (data_msg 0 (98 ∷ []) ∷ data_msg 0 cd ∷ [])
message_mode_leaves_a_rest = refl

discard_mode_leaves_nothing : read_of Rmsgd Norm 1 (data_msg 0 (120 ∷ 121 ∷ 122 ∷ []) ∷ []) ≡ reads (120 ∷ []) []
discard_mode_leaves_nothing = refl

-- control before data
control_is_read_as_data : read_of Rmsgn Dat 3 (proto_msg 0 ab (Some cd) ∷ []) ≡ reads (97 ∷ 98 ∷ 99 ∷ []) (data_msg 0 (100 ∷ []) ∷ [])
control_is_read_as_data = refl

rest_of_control_keeps_its_data : read_of Rmsgn Dat 1 (proto_msg 5 ab (Some cd) ∷ []) ≡ reads (97 ∷ []) (proto_msg 5 (98 ∷ []) (Some cd) ∷ [])
rest_of_control_keeps_its_data = refl

-- no bytes of the data are asked for then, which takes an empty part away
rest_of_control_loses_empty_data : read_of Rmsgn Dat 1 (proto_msg 5 ab (Some []) ∷ []) ≡ reads (97 ∷ []) (proto_msg 5 (98 ∷ []) None ∷ [])
rest_of_control_loses_empty_data = refl

control_is_dropped : read_of Rmsgn Dis 9 (proto_msg 0 ab (Some cd) ∷ []) ≡ reads cd []
control_is_dropped = refl

control_is_dropped_from_the_rest : read_of Rmsgn Dis 1 (proto_msg 0 ab (Some cd) ∷ []) ≡ reads (99 ∷ []) (data_msg 0 (100 ∷ []) ∷ [])
control_is_dropped_from_the_rest = refl

-- a line whose head has these messages
abbrev marks : WaterMarks
marks = record { hi = 16; lo = 4 }

abbrev start : Image Kind
start = fresh Line marks marks

abbrev holding : ReadMode → Prot → List Msg → Image Kind
holding mode prot q =
    record start { a = record start.a { head = q; state = record start.a.state { mode = mode; prot = prot } } }

abbrev hung_up : Image Kind
hung_up = record start { a = record start.a { state = record start.a.state { hung = true } } }

control_is_refused : first_that_holds (read_refusals (holding Rmsgd Norm (proto_msg 0 ab None ∷ [])) A 1) ≡ Some BadMessage
control_is_refused = refl

control_is_not_refused_as_data : first_that_holds (read_refusals (holding Rmsgd Dat (proto_msg 0 ab None ∷ [])) A 1) ≡ None
control_is_not_refused_as_data = refl

nothing_to_read_waits : first_that_holds (read_refusals start A 1) ≡ Some WouldWait
nothing_to_read_waits = refl

hung_up_end_gives_no_bytes : read_effect hung_up A 1 ≡ effect hung_up (Reply.Read [])
hung_up_end_gives_no_bytes = refl

hung_up_end_refuses_nothing : first_that_holds (read_refusals hung_up A 1) ≡ None
hung_up_end_refuses_nothing = refl

-- a read of no bytes looks at nothing
read_of_no_bytes_is_not_refused : first_that_holds (read_refusals (holding Rnorm Norm (proto_msg 0 ab None ∷ [])) A 0) ≡ None
read_of_no_bytes_is_not_refused = refl

read_of_no_bytes_takes_nothing : read_effect (holding Rnorm Norm (empty ∷ [])) A 0 ≡ effect (holding Rnorm Norm (empty ∷ [])) (Reply.Read [])
read_of_no_bytes_takes_nothing = refl

read_takes_from_the_head : read_effect (holding Rnorm Norm (data_msg 0 ab ∷ data_msg 0 cd ∷ [])) A 3 ≡ effect (holding Rnorm Norm (data_msg 0 (100 ∷ []) ∷ [])) (Reply.Read (97 ∷ 98 ∷ 99 ∷ []))
read_takes_from_the_head = refl

-- control 'ab' and data 'cd', of which no control and one byte of data are asked for
cut_of_both_parts : cut_of (proto_msg 0 ab (Some cd)) (Some 0) (Some 1) ≡ record { ctl = Some []; dat = Some (99 ∷ []); more = Both; rest = Some (proto_msg 0 ab (Some (100 ∷ []))) }
cut_of_both_parts = refl

cut_of_data_alone : cut_of (proto_msg 0 ab (Some cd)) None (Some 64) ≡ record { ctl = None; dat = Some cd; more = Ctl; rest = Some (proto_msg 0 ab None) }
cut_of_data_alone = refl

-- a greatest length of 0 takes an empty part away
cut_of_an_empty_part : cut_of (data_msg 0 []) (Some 0) (Some 0) ≡ record { ctl = None; dat = Some []; more = Nothing; rest = None }
cut_of_an_empty_part = refl

-- where the control of a high message is taken, its data is ordinary and of band 0
cut_of_high_control : cut_of (pcproto_msg ab (Some cd)) (Some 64) None ≡ record { ctl = Some ab; dat = None; more = Data; rest = Some (data_msg 0 cd) }
cut_of_high_control = refl
