-- The first message at a head: whether a call takes it, and the way in which the rest of it is put back.
use Rattle.std.specs.Prelude.{not, Bool, Option, Some, None, List, slice_get}
use Rattle.strm_msg.specs.Message.{Msg}
use Rattle.strm_queue.specs.Queue.{put_back_in}
use Rattle.strm_chain_end.specs.End.{EndState}

abbrev pub first_message : List Msg → Option Msg
first_message q = slice_get q 0

-- the call would have to wait: the first message is not one that it takes, or none is there and the end is
-- not hung up
abbrev pub lacks_message : {K : Type 0} → EndState K → Option Msg → (Msg → Bool) → Bool
lacks_message e None takes = not e.state.hung
lacks_message e (Some m) takes = not (takes m)

abbrev pub put_back_if : List Msg → Option Msg → List Msg
put_back_if q None = q
put_back_if q (Some m) = put_back_in q m
