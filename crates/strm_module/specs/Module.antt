-- The put and service procedures of a module, as functions of its shape (Programmer's Guide: STREAMS, "Put
-- and Service Procedures"; put(9E), srv(9E)).
use Rattle.std.specs.Prelude.{◌≡◌, ◌&&◌, ◌||◌, not, ℕ, Bool, true, false, if◌then◌else◌}
use Rattle.strm_msg.specs.Kind.{is_high}
use Rattle.strm_msg.specs.Message.{Msg}
use Rattle.strm_msg.specs.declared.words.Side.{Side}
use Rattle.strm_module.specs.Kinds.{OutList, Meaning, all_go_up}
use Rattle.strm_module.specs.Shape.{queues_on}
use Rattle.strm_module.specs.declared.shape.Shape.{Shape}
use Rattle.strm_module.specs.declared.outs.Put.{Put}
use Rattle.strm_module.specs.declared.outs.Put.TheVariants.{Queue, Sent}

-- the shape after a service, and the messages that leave
pub record Served (K : Type 0) : Type 0 where
  pub shape : Shape K
  pub outs : OutList

-- the shape after a put, and the module's answer
pub record Taken (K : Type 0) : Type 0 where
  pub shape : Shape K
  pub answer : Put

-- the messages that wait where there is a queue: the ordinary ones, and all where the service procedures are
-- the program's, as nobody else is there to process a high one
abbrev pub waits_here : {K : Type 0} → Shape K → Msg → Bool
waits_here s m = s.noenable || not (is_high m.kind)

-- these wait in the queue of a side with marks
abbrev pub is_queued : {K : Type 0} → Shape K → Side → Msg → Bool
is_queued s side m = waits_here s m && queues_on s side

-- for kinds of any meaning
module _ {K : Type 0} (means : Meaning K) where
  -- the effect of a service: only the state of the kind can change
  abbrev pub serve_of : Shape K → Side → Msg → Served K
  serve_of s side m =
      let action = means.acts s.kind side m in
      record { shape = record s { kind = action.kind }; outs = action.outs }

  -- something of the module's own is sent
  abbrev pub own_of : Shape K → Side → Served K
  own_of s side =
      let action = means.own s.kind side in
      record { shape = record s { kind = action.kind }; outs = action.outs }

  -- so many ticks pass: only the state of the kind can change, and nothing is sent (timeout(9F))
  abbrev pub expired : Shape K → ℕ → Shape K
  expired s ticks = record s { kind = means.expire s.kind ticks }

  -- a message comes to the module: it is queued unchanged and changes nothing, or is served at once
  abbrev pub put_of : Shape K → Side → Msg → Taken K
  put_of s side m =
      if is_queued s side m then record { shape = s; answer = Queue m }
      else let served = serve_of s side m in
      record { shape = served.shape; answer = Sent (record { items = served.outs }) }

-- whether the messages that a put sends at once all go up
abbrev pub sends_up : Put → Bool
sends_up (Queue m) = true
sends_up (Sent outs) = all_go_up outs.items

-- a message that a put queues is the one that came; it is one that waits, its side has marks, and nothing
-- changes
pub record IsTaken {K : Type 0} (side : Side) (m q : Msg) (old new : Shape K) : Type 0 where
  pub same : q ≡ m
  pub queues : queues_on old side ≡ true
  pub waits : waits_here old m ≡ true
  pub shape : new ≡ old

abbrev pub IsQueued : {K : Type 0} → Put → Side → Msg → Shape K → Shape K → Type 0
IsQueued (Queue q) side m old new = IsTaken side m q old new
IsQueued (Sent outs) side m old new = Unit {0}
