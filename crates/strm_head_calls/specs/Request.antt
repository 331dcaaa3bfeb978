-- Facts of a request by itself.
use Rattle.std.specs.Prelude.{Bool, true, false}
use Rattle.strm_head_calls.specs.declared.request.Request.{Request}
use Rattle.strm_head_calls.specs.Service.{is_question}
use Rattle.strm_head_calls.specs.declared.request.Request.TheVariants.{Nread, Peek, SetRead, GetRead, Canput, Ckband, Getband, Look, Find, Strget, Service, Poll}

-- the calls that change no queue: no service follows them
abbrev pub changes_no_queue : {P : Type 0} → Request P → Bool
changes_no_queue Nread = true
changes_no_queue (Peek maxctl maxdat flag) = true
changes_no_queue (SetRead mode prot) = true
changes_no_queue GetRead = true
changes_no_queue (Canput band) = true
changes_no_queue (Ckband band) = true
changes_no_queue Getband = true
changes_no_queue Poll = true
changes_no_queue Look = true
changes_no_queue Request.List = true
changes_no_queue (Find name) = true
changes_no_queue (Strget drops) = true
changes_no_queue (Service name side call) = is_question call
changes_no_queue request = false
