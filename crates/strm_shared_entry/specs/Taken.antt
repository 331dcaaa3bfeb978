-- What was taken from wires by the calls of a history.
use Rattle.std.specs.Prelude.{Option, Some, None, List, flat_map, if◌then◌else◌}
use Rattle.std.specs.Option.{option_to_list}
use Rattle.strm_msg.specs.Message.{Msg, bare}
use Rattle.strm_msg.specs.Kind.{is_from_line}
use Rattle.strm_msg.specs.declared.kind.MsgKind.TheVariants.{MHangup}
use Rattle.strm_head_calls.specs.declared.answer.Answer.{Answer}
use Rattle.strm_head_calls.specs.declared.answer.Answer.TheVariants.{Done}
use Rattle.strm_head_calls.specs.declared.answer.Reply.TheVariants as replies
use Rattle.strm_head_calls.specs.declared.event.Event.{Event}
use Rattle.strm_head_calls.specs.declared.event.Event.TheVariants.{Asked}
use Rattle.strm_head_calls.specs.declared.request.Request.TheVariants as requests
use Rattle.strm_shared_entry.specs.Entry.{Entry}

-- the message that a take has taken from a wire, if it is of a kind that comes from a line, as all are that
-- wait there; of a closed wire of which all was taken a hangup
abbrev pub taken_by : {P : Type 0} → Event P → Answer → Option Msg
taken_by (Asked requests.Take) (Done (replies.Message m)) = if is_from_line m.kind then Some m else None
taken_by (Asked requests.Take) (Done replies.Hangup) = Some (bare MHangup)
taken_by event answer = None

-- what was taken from wires by these calls, in order
abbrev pub taken : {K : Type 0} → List (Entry K) → List Msg
taken entries = flat_map (λ entry. option_to_list (taken_by entry.event entry.answer)) entries
