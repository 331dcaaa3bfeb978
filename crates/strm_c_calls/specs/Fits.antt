-- The lengths of the parts of an answer. None is longer than the caller has asked for, so each has room in
-- its buffer.
use Rattle.std.specs.Prelude.{ℕ, ◌≤◌, Option, Some, None, [], length, unwrap_or}
use Rattle.strm_msg.specs.Message.{Part}
use Rattle.strm_module.specs.declared.kind.Kind.{Kind}
use Rattle.strm_module.specs.declared.shape.Shape.{Shape}
use Rattle.strm_head_calls.specs.declared.request.Request.{Request}
use Rattle.strm_head_calls.specs.declared.request.Request.TheVariants as Requests
use Rattle.strm_head_calls.specs.declared.answer.Answer.{Answer}
use Rattle.strm_c_calls.specs.Returned.{ctl_of, dat_of, part_after}

-- a part has at most that many bytes, and none if it was not asked for
abbrev pub FitsIn : Option ℕ → Part → Type 0
FitsIn most part = length (unwrap_or part []) ≤ unwrap_or most 0

abbrev pub AreWithin : Option ℕ → Option ℕ → Answer → Type 0
AreWithin maxctl maxdat answer = FitsIn maxctl (part_after ctl_of answer) × FitsIn maxdat (part_after dat_of answer)

-- the parts of the answer to a getmsg, a getpmsg, a peek or a read are within the lengths that were asked for
abbrev pub Fits : Request (Shape Kind) → Answer → Type 0
Fits (Requests.Getmsg maxctl maxdat flag) answer = AreWithin maxctl maxdat answer
Fits (Requests.Getpmsg maxctl maxdat band flag) answer = AreWithin maxctl maxdat answer
Fits (Requests.Peek maxctl maxdat flag) answer = AreWithin maxctl maxdat answer
Fits (Requests.Read max) answer = AreWithin None (Some max) answer
Fits request answer = Unit {0}
