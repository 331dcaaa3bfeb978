-- The input of a run.
use Rattle.std.specs.Prelude.{ℕ, zero, suc, Option, None, Some, List, [], ◌∷◌, is_some, if◌then◌else◌}
use Rattle.strm_msg.specs.Message.{Msg}
use Rattle.strm_module.specs.declared.shape.Shape.{Shape}
use Rattle.strm_head_calls.specs.declared.setup.Setup.{Setup}
use Rattle.strm_shared_ring.specs.Name.{RingName}
use Rattle.strm_shared_ring.specs.Feed.{RingValue}
use Rattle.strm_run_input.specs.declared.script.ScriptCall.{ScriptCall}
use Rattle.strm_run_input.specs.declared.script.Feed.{Feed}
use Rattle.strm_run_input.specs.declared.run_link.RunLink.{RunLink}
use Rattle.strm_run_input.specs.Scripts.{feed_of, link_to}

-- the input of a run: the setups of its streams, the scripts of its callers, the feeds of its lines, and the
-- links between its wires
pub record RunValue (K : Type 0) : Type 0 where
  pub setups : List Setup
  pub scripts : List (List (ScriptCall (Shape K)))
  pub feeds : List Feed
  pub links : List RunLink

-- the feed of a stream, of which the feeder offers one message after another; none where a link leads to the
-- stream, to which anything may be offered
abbrev pub feed_in : {K : Type 0} → RunValue K → ℕ → Option (List Msg)
feed_in run number = if is_some (link_to run.links number) then None else Some (feed_of run.feeds number)

-- the ring of a stream, by its name; there are none past the last
abbrev pub ring_of : List RingValue → ℕ → Option RingName
ring_of [] number = None
ring_of (ring ∷ rest) zero = ring.name
ring_of (ring ∷ rest) (suc number) = ring_of rest number
