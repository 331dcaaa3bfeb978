-- The streams of a run as they are made, with their seats and feeders, and the feed of each line.
use Rattle.std.specs.Prelude.{◌≡◌, ℕ, ◌<◌, ◌^◌, ◌&&◌, not, is_some, Bool, true, Option, None, if◌then◌else◌, List, All, filter, get_or, length, map, slice_get, Vec}
use Rattle.std.specs.Global.{Global}
use Rattle.strm_msg.specs.Message.{Msg}
use Rattle.strm_module.specs.declared.shape.Shape.{Shape}
use Rattle.strm_head_calls.specs.declared.setup.Setup.{Setup}
use Rattle.strm_shared.specs.Seat.{SeatValue}
use Rattle.strm_shared_ring.specs.Feed.{fresh_feeder, FeederValue, RingValue}
use Rattle.strm_shared.specs.Ending.{fresh_seats, SharedValue}
use Rattle.strm_run_input.specs.declared.script.Feed.{Feed}
use Rattle.strm_run_input.specs.declared.script.ScriptCall.{ScriptCall}
use Rattle.strm_run_input.specs.declared.run_link.RunLink.{RunLink}
use Rattle.strm_run_input.specs.Scripts.{feed_of, link_to}
use Rattle.strm_run_input.specs.Resolve.{is_setup, line_is_there, AreFromLine, NamesResolve}
use Rattle.strm_run_callers.specs.RunName.{RunValue}
use Rattle.strm_run_callers.specs.Dealing.{callers_of}
use Rattle.strm_run_callers.specs.Play.{AreStreams}

-- the input of a run of which all is there, with a ring for each stream
pub record IsInput {K : Type 0} (run : RunValue K) (named : List RingValue) (setups : List Setup) (scripts : List (List (ScriptCall (Shape K)))) (feeds : List Feed) (links : List RunLink) (rings : List RingValue) : Type 0 where
  pub setups_are : run.setups ≡ setups
  pub scripts_are : run.scripts ≡ scripts
  pub feeds_are : run.feeds ≡ feeds
  pub links_are : run.links ≡ links
  pub rings_are : named ≡ rings
  pub made : map (λ ring. ring.setup) rings ≡ setups
  pub few_setups : length setups < 2 ^ 32
  pub few_scripts : length scripts < 2 ^ 32
  pub fit : All (λ setup. is_setup setup ≡ true) setups
  pub kinds : AreFromLine feeds
  pub there : NamesResolve setups scripts feeds links

-- the seats on each stream, in order of the streams: one for each caller, that has made no call
pub record AreSeatsOn {K : Type 0} (run : RunValue K) (seats : List (Vec SeatValue Global)) : Type 0 where
  pub many : length seats ≡ length run.setups
  pub each : (k : ℕ) (d : Vec SeatValue Global) → k < length run.setups → (get_or seats k d).items ≡ fresh_seats k (length run.scripts)

-- the feeders, in order of the streams: one for each line, that had nothing accepted
pub record AreFeeders {K : Type 0} (run : RunValue K) (feeders : List (Option FeederValue)) : Type 0 where
  pub many : length feeders ≡ length run.setups
  pub each : (k : ℕ) (d : Option FeederValue) (s : Setup) → k < length run.setups → get_or feeders k d ≡ fresh_feeder k (get_or run.setups k s)

-- the feeder of a stream, but where one of these links leads to it
abbrev pub feeder_left : List RunLink → ℕ → Setup → Option FeederValue
feeder_left links number setup = if is_some (link_to links number) then None else fresh_feeder number setup

-- the feeders that are left when these links have theirs, in order of the streams
pub record AreLeft {K : Type 0} (run : RunValue K) (links : List RunLink) (feeders : List (Option FeederValue)) : Type 0 where
  pub many : length feeders ≡ length run.setups
  pub each : (k : ℕ) (d : Option FeederValue) (s : Setup) → k < length run.setups → get_or feeders k d ≡ feeder_left links k (get_or run.setups k s)

-- the streams of a run that were just made, in order, each with a seat for each caller, and a feeder if it is
-- a line
pub record AreOpened {K : Type 0} (run : RunValue K) (streams : List SharedValue) (seats : List (Vec SeatValue Global)) (feeders : List (Option FeederValue)) : Type 0 where
  pub streams_are : AreStreams run streams
  pub seats_are : AreSeatsOn run seats
  pub feeders_are : AreFeeders run feeders

-- the feed of each stream, in order of the streams
pub record AreFeeds (feeds : List Feed) (streams : ℕ) (all : List (Vec Msg Global)) : Type 0 where
  pub many : length all ≡ streams
  pub each : (k : ℕ) (d : Vec Msg Global) → k < streams → (get_or all k d).items ≡ feed_of feeds k

-- a stream is a line, and no link leads to it
abbrev pub is_fed_line : {K : Type 0} → RunValue K → ℕ → Bool
is_fed_line run number = line_is_there (slice_get run.setups number) && not (is_some (link_to run.links number))

-- the numbers of these among the first streams, in order
abbrev pub fed_below : {K : Type 0} → RunValue K → ℕ → List ℕ
fed_below run number = filter (λ k. is_fed_line run k) (callers_of number)

-- the numbers of all, in order
abbrev pub fed_lines : {K : Type 0} → RunValue K → List ℕ
fed_lines run = fed_below run (length run.setups)
