-- The invariant of an end's fields. No public clause cites this.
use Rattle.std.specs.Prelude.{◌≡◌, ◌<◌, ◌≤◌, ℕ, true, List, length}
use Rattle.std.specs.List.{list_all}
use Rattle.strm_msg.specs.Message.{Msg}
use Rattle.strm_msg.specs.Marks.{WaterMarks}
use Rattle.strm_module.specs.declared.driver.TheConstants.{MOST_MODULES}
use Rattle.strm_chain_end.specs.Pair.{QueuePair}
use Rattle.strm_chain_end.specs.Modules.{are_fit, are_calm, waits_well}

-- the invariant of an end: room for all modules that there can be and no more of them, marks whose low ones
-- are below the high ones, no high message in a queue of a module, and no flush or error in the driver's list
pub record IsEnd {K : Type 0} (capacity : ℕ) (modules : List (QueuePair K)) (head drv : WaterMarks) (waiting : List Msg) : Type 0 where
  pub room : MOST_MODULES ≤ capacity
  pub few : length modules ≤ MOST_MODULES
  pub head_fit : head.lo < head.hi
  pub drv_fit : drv.lo < drv.hi
  pub fit : are_fit modules ≡ true
  pub waits : list_all waits_well modules ≡ true
  pub calm : are_calm waiting ≡ true
