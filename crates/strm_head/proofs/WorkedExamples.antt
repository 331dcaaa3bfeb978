-- The refusals of calls and their order, computed on worked examples.
use Rattle.std.proofs.Common.{◌≡◌, ℕ, true, false, List, [], ◌∷◌, Some, None, replicate, refl}
use Rattle.strm_msg.specs.Message.{Msg, Part, data_msg, proto_msg, pcproto_msg}
use Rattle.strm_msg.specs.declared.errno.Errno.TheVariants.{EIO, EPROTO}
use Rattle.strm_msg.specs.declared.words.End.TheVariants.{A, B}
use Rattle.strm_msg.specs.Marks.{WaterMarks}
use Rattle.strm_module.specs.declared.driver.Driver.TheVariants.{Echo}
use Rattle.strm_module.specs.Kinds.{Meaning, serving, passed_on}
use Rattle.strm_module.specs.Shape.{new_shape}
use Rattle.strm_chain_ends.specs.Image.{Image, fresh}
use Rattle.strm_chain.specs.Count.{looks_at_most}
use Rattle.strm_head_calls.specs.declared.request.Priority.TheVariants.{Norm, Hipri}
use Rattle.strm_head_calls.specs.declared.request.PutFlag.TheVariants as PutFlag
use Rattle.strm_head_calls.specs.declared.request.GetFlag.TheVariants as GetFlag
use Rattle.strm_head_calls.specs.declared.request.Wanted.TheVariants as Wanted
use Rattle.strm_head_calls.specs.declared.parts.Parts.{Parts}
use Rattle.strm_head_calls.specs.declared.request.Request.TheVariants.{Putmsg, Putpmsg, Getmsg, Getpmsg, Read, Write, Canput, Getband, Nread, Push, Pop, Look, Find, Str, Flush, Close, Tick}
use Rattle.strm_head_calls.specs.declared.refusal.Refusal.TheVariants.{Closed, Broken, ReadError, WriteError, Invalid, TooLong, HungUp, BadMessage, NoMessage, WouldWait}
use Rattle.strm_head.specs.Effects.{refusal_of}

-- ---- streams

-- kinds that send everything on
abbrev plain : Meaning ℕ
plain = serving (λ kind side m. passed_on kind side m) (λ kind side. false)

-- an echo of marks 16 and 4, with these messages at its head and in its driver
abbrev marks : WaterMarks
marks = record { hi = 16; lo = 4 }

abbrev start : Image ℕ
start = fresh Echo marks marks

abbrev holding : List Msg → List Msg → Image ℕ
holding head drv = record start { a = record start.a { head = head; drv = drv } }

abbrev hung_up : Image ℕ
hung_up = record start { a = record start.a { state = record start.a.state { hung = true } } }

abbrev with_error : Image ℕ
with_error = record start { broken = true; a = record start.a { state = record start.a.state { rd_errno = Some EIO; wr_errno = Some EPROTO } } }

abbrev data_of : ℕ → Msg
data_of n = data_msg 0 (replicate n 97)

abbrev parts : Part → Part → Parts
parts ctl dat = record { ctl = ctl; dat = dat }

-- ---- closed ends, broken streams and errors

far_end_is_closed : refusal_of plain with_error B Nread ≡ Some Closed
far_end_is_closed = refl

broken_before_an_error : refusal_of plain with_error A Nread ≡ Some Broken
broken_before_an_error = refl

abbrev unbroken : Image ℕ
unbroken = record with_error { broken = start.broken }

error_before_an_argument : refusal_of plain unbroken A (Putmsg Hipri (parts None (Some []))) ≡ Some (WriteError EPROTO)
error_before_an_argument = refl

-- calls that receive look at the error of the read side alone, those that send at that of the write side, and
-- others at both, that of the read side first
receiving_looks_at_the_read_side : refusal_of plain unbroken A Nread ≡ Some (ReadError EIO)
receiving_looks_at_the_read_side = refl

asking_for_room_looks_at_the_write_side : refusal_of plain unbroken A (Canput 0) ≡ Some (WriteError EPROTO)
asking_for_room_looks_at_the_write_side = refl

-- time does not pass through the head: neither an error nor a hangup there refuses it, but no ticks are none
ticks_pass_after_an_error : refusal_of plain unbroken A (Tick 1) ≡ None
ticks_pass_after_an_error = refl

ticks_pass_after_a_hangup : refusal_of plain hung_up A (Tick 1) ≡ None
ticks_pass_after_a_hangup = refl

no_ticks : refusal_of plain unbroken A (Tick 0) ≡ Some Invalid
no_ticks = refl

no_ticks_of_a_broken_stream : refusal_of plain with_error A (Tick 0) ≡ Some Broken
no_ticks_of_a_broken_stream = refl

no_ticks_of_a_closed_end : refusal_of plain with_error B (Tick 0) ≡ Some Closed
no_ticks_of_a_closed_end = refl

read_side_before_the_write_side : refusal_of plain unbroken A Look ≡ Some (ReadError EIO)
read_side_before_the_write_side = refl

abbrev unwritable : Image ℕ
unwritable = record start { a = record start.a { state = record start.a.state { wr_errno = Some EPROTO } } }

write_error_before_an_argument : refusal_of plain unwritable A Look ≡ Some (WriteError EPROTO)
write_error_before_an_argument = refl

reading_goes_on_after_a_write_error : refusal_of plain unwritable A Nread ≡ None
reading_goes_on_after_a_write_error = refl

-- ---- calls that send

high_message_lacks_control : refusal_of plain hung_up A (Putmsg Hipri (parts None (Some (replicate 5000 97)))) ≡ Some Invalid
high_message_lacks_control = refl

high_message_of_a_band : refusal_of plain start A (Putpmsg 1 PutFlag.Hipri (parts (Some []) None)) ≡ Some Invalid
high_message_of_a_band = refl

too_long_before_hung_up : refusal_of plain hung_up A (Putmsg Norm (parts (Some (replicate 1025 97)) None)) ≡ Some TooLong
too_long_before_hung_up = refl

greatest_control_is_taken : refusal_of plain start A (Putmsg Norm (parts (Some (replicate 1024 97)) None)) ≡ None
greatest_control_is_taken = refl

greatest_data_is_taken : refusal_of plain start A (Write (replicate 4096 97)) ≡ None
greatest_data_is_taken = refl

data_that_is_too_long : refusal_of plain start A (Write (replicate 4097 97)) ≡ Some TooLong
data_that_is_too_long = refl

hung_up_without_a_part : refusal_of plain hung_up A (Putmsg Norm (parts None None)) ≡ Some HungUp
hung_up_without_a_part = refl

full_driver_refuses : refusal_of plain (holding [] (data_of 16 ∷ [])) A (Putmsg Norm (parts (Some (replicate 1024 97)) None)) ≡ Some WouldWait
full_driver_refuses = refl

full_driver_takes_another_band : refusal_of plain (holding [] (data_of 16 ∷ [])) A (Putpmsg 1 PutFlag.Band (parts None (Some []))) ≡ None
full_driver_takes_another_band = refl

nothing_to_send_does_not_wait : refusal_of plain (holding [] (data_of 16 ∷ [])) A (Putmsg Norm (parts None None)) ≡ None
nothing_to_send_does_not_wait = refl

-- ---- calls that take

no_message_to_get : refusal_of plain start A (Getmsg (Some 64) (Some 64) Wanted.Any) ≡ Some WouldWait
no_message_to_get = refl

hung_up_end_has_something_to_get : refusal_of plain hung_up A (Getpmsg None None 9 GetFlag.Band) ≡ None
hung_up_end_has_something_to_get = refl

no_flag_at_a_hung_up_end : refusal_of plain hung_up A (Getpmsg None None 0 GetFlag.Zero) ≡ Some Invalid
no_flag_at_a_hung_up_end = refl

band_below_the_wanted_one : refusal_of plain (holding (data_msg 3 [] ∷ []) []) A (Getpmsg None None 4 GetFlag.Band) ≡ Some WouldWait
band_below_the_wanted_one = refl

band_that_is_wanted : refusal_of plain (holding (data_msg 3 [] ∷ []) []) A (Getpmsg None None 3 GetFlag.Band) ≡ None
band_that_is_wanted = refl

high_message_is_of_every_band : refusal_of plain (holding (pcproto_msg [] None ∷ []) []) A (Getpmsg None None 255 GetFlag.Band) ≡ None
high_message_is_of_every_band = refl

control_is_not_read : refusal_of plain (holding (proto_msg 0 [] None ∷ []) []) A (Read 1) ≡ Some BadMessage
control_is_not_read = refl

read_of_no_bytes_looks_at_nothing : refusal_of plain (holding (proto_msg 0 [] None ∷ []) []) A (Read 0) ≡ None
read_of_no_bytes_looks_at_nothing = refl

no_band_of_no_message : refusal_of plain start A Getband ≡ Some NoMessage
no_band_of_no_message = refl

-- ---- modules and names

no_module_before_hung_up : refusal_of plain hung_up A Pop ≡ Some Invalid
no_module_before_hung_up = refl

no_module_to_look_at : refusal_of plain start A Look ≡ Some Invalid
no_module_to_look_at = refl

name_of_nine_bytes : refusal_of plain start A (Find (replicate 9 97)) ≡ Some Invalid
name_of_nine_bytes = refl

name_of_eight_bytes : refusal_of plain start A (Find (replicate 8 97)) ≡ None
name_of_eight_bytes = refl

-- ---- ioctls, flushes and closes

ioctl_data_too_long_before_hung_up : refusal_of plain hung_up A (Str 1 (Some (replicate 4097 97))) ≡ Some Invalid
ioctl_data_too_long_before_hung_up = refl

greatest_ioctl_data_is_taken : refusal_of plain start A (Str 1 (Some (replicate 4096 97))) ≡ None
greatest_ioctl_data_is_taken = refl

no_id_is_left : refusal_of plain (record start { a = record start.a { state = record start.a.state { next = None } } }) A (Str 1 None) ≡ Some WouldWait
no_id_is_left = refl

flush_of_neither_side_before_hung_up : refusal_of plain hung_up A (Flush false false) ≡ Some Invalid
flush_of_neither_side_before_hung_up = refl

flush_of_a_hung_up_end : refusal_of plain hung_up A (Flush true false) ≡ Some HungUp
flush_of_a_hung_up_end = refl

broken_stream_with_an_error_is_closed : refusal_of plain with_error A Close ≡ None
broken_stream_with_an_error_is_closed = refl

closed_end_is_not_closed_again : refusal_of plain with_error B Close ≡ Some Closed
closed_end_is_not_closed_again = refl

-- ---- how many modules, and how many places

-- so many modules stand on an end
abbrev stands : ℕ → Image ℕ
stands many =
    record start { a = record start.a { modules = replicate many (record { shape = new_shape 1 (109 ∷ []) None None 0; rd = []; wr = [] }) } }

eighth_module : refusal_of plain (stands 7) A (Push (new_shape 2 (109 ∷ []) None None 0)) ≡ None
eighth_module = refl

ninth_module : refusal_of plain (stands 8) A (Push (new_shape 2 (109 ∷ []) None None 0)) ≡ Some Invalid
ninth_module = refl

-- of each of 40 places at most is looked at where none moves
places_looked_at : looks_at_most [] ≡ 40
places_looked_at = refl
