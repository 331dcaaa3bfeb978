-- The first message as a poll reports it (poll(2)).
use Rattle.std.specs.Prelude.{◌==◌, not, ◌&&◌, Bool, true, false, Option, Some}
use Rattle.strm_head_calls.specs.declared.answer.Received.{Received}
use Rattle.strm_head_calls.specs.declared.answer.Received.TheVariants.{Band, Hipri}

-- it is an ordinary one (POLLIN)
abbrev pub is_in : Option Received → Bool
is_in (Some (Band band)) = true
is_in first = false

-- an ordinary one of band 0 (POLLRDNORM)
abbrev pub is_rdnorm : Option Received → Bool
is_rdnorm (Some (Band band)) = band == 0
is_rdnorm first = false

-- an ordinary one of a band above 0 (POLLRDBAND)
abbrev pub is_rdband : Option Received → Bool
is_rdband first = is_in first && not (is_rdnorm first)

-- one of high priority (POLLPRI)
abbrev pub is_pri : Option Received → Bool
is_pri (Some Hipri) = true
is_pri first = false
