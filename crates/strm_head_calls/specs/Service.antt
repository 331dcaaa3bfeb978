-- Calls of a service procedure, by themselves (srv(9E)).
use Rattle.std.specs.Prelude.{Bool, true, false}
use Rattle.strm_head_calls.specs.declared.service.ServiceCall.{ServiceCall}
use Rattle.strm_head_calls.specs.declared.service.ServiceCall.TheVariants.{Putnext, Bcanputnext, Qsize}

-- the calls that only ask
abbrev pub is_question : ServiceCall → Bool
is_question (Bcanputnext band) = true
is_question Qsize = true
is_question call = false

-- the calls that need a queue on their side: a message may be sent on from a side without one
abbrev pub needs_queue : ServiceCall → Bool
needs_queue (Putnext m) = false
needs_queue (Bcanputnext band) = false
needs_queue call = true
