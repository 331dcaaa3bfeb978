-- The logs that a run leaves of its streams.
use Rattle.std.specs.Prelude.{◌≡◌, ℕ, ◌+◌, ◌<◌, Option, Some, None, List, ◌++◌, get_or, length, map}
use Rattle.strm_msg.specs.Message.{Msg}
use Rattle.strm_msg.specs.declared.words.End.TheVariants.{A, B}
use Rattle.strm_module.specs.Kinds.{Meaning}
use Rattle.strm_chain_ends.specs.Image.{Image, end_of}
use Rattle.strm_head_calls.specs.declared.setup.Setup.{Setup}
use Rattle.strm_shared_entry.specs.Entry.{asked_of, Entry}
use Rattle.strm_shared_entry.specs.Own.{arrivals, own}
pub use Rattle.strm_shared_entry.specs.Logs.{history_at}
use Rattle.strm_shared_log.specs.History.{Legal}
use Rattle.strm_shared_log.specs.Serials.{AreAccounted}
use Rattle.strm_shared_entry.specs.declared.transcript.StreamLog.{StreamLog}
use Rattle.strm_shared_log.specs.Opened.{opened}
use Rattle.strm_run_input.specs.Scripts.{calls_on, script_of, feed_of, link_to}
use Rattle.strm_shared_ended.specs.Left.{names_at}
use Rattle.strm_link.specs.Subsequence.{IsSubsequence}
use Rattle.strm_run_input.specs.declared.run_link.RunLink.{RunLink}
use Rattle.strm_run_callers.specs.RunName.{RunValue}
use Rattle.strm_run_callers.specs.Carrying.{passed_on}

-- the messages that came in are the beginning of those that were accepted, which are a part of those that were
-- offered; the numbers are those of these lists
pub record IsFed {K : Type 0} (offered : List Msg) (log : StreamLog K) : Type 0 where
  pub accepted : List Msg
  pub left : List Msg
  pub came_in : arrivals log.history.items ++ left ≡ accepted
  pub part : IsSubsequence accepted offered
  pub many : log.accepted ≡ length accepted
  pub arrived : log.arrived ≡ length (arrivals log.history.items)
  pub all : log.accepted + log.overrun ≡ length offered

-- what a link passes on of all that its caller has taken of the first wire
abbrev pub carried_on : {K : Type 0} → RunLink → List (StreamLog K) → List Msg
carried_on link logs = passed_on link (own link.by (history_at logs link.from))

-- what is offered to a stream: what the link passes on that leads to it, or else its feed (no public clause
-- cites it)
abbrev pub offered_by : {K : Type 0} → RunValue K → List (StreamLog K) → ℕ → Option RunLink → List Msg
offered_by run logs number None = feed_of run.feeds number
offered_by run logs number (Some link) = carried_on link logs

-- for kinds of any meaning
module _ {K : Type 0} (means : Meaning K) where
  -- the history leads by steps from a stream that was just made to one whose ends the log shows, and each
  -- module is accounted for
  pub record IsLegal (setup : Setup) (log : StreamLog K) : Type 0 where
    pub after : Image K
    pub legal : Legal means (opened setup) log.history.items after
    pub accounts : AreAccounted (opened setup) log.history.items after
    pub a : log.a ≡ names_at (end_of after A)
    pub b : log.b ≡ names_at (end_of after B)

  -- the log that a run leaves of a stream: a legal history, in which each caller's calls are those of its
  -- script for the stream, in order and no others (no public clause cites it)
  pub record IsLog (run : RunValue K) (number : ℕ) (setup : Setup) (log : StreamLog K) : Type 0 where
    pub legal : IsLegal setup log
    pub calls : (caller : ℕ) → map asked_of (own caller log.history.items) ≡ calls_on number (script_of run.scripts caller)

  -- the logs that it leaves of all, in order; what has come in to each is of what was offered to it (no public
  -- clause cites it)
  pub record AreLogs (run : RunValue K) (logs : List (StreamLog K)) : Type 0 where
    pub many : length logs ≡ length run.setups
    pub each : (k : ℕ) (s : Setup) (d : StreamLog K) → k < length run.setups → IsLog run k (get_or run.setups k s) (get_or logs k d)
    pub fed : (k : ℕ) (d : StreamLog K) → k < length run.setups → IsFed (offered_by run logs k (link_to run.links k)) (get_or logs k d)
