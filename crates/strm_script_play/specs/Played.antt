-- The outcome of a script that was played.
use Rattle.std.specs.Prelude.{◌≡◌, ℕ, ◌<◌, Bool, true, false, not, None, Some, List, [], length, map, get_or, Ok, Err}
use Rattle.strm_module.specs.declared.shape.Shape.{Shape}
use Rattle.strm_module.specs.Kinds.{Meaning}
use Rattle.strm_head_calls.specs.declared.setup.Setup.{Setup}
use Rattle.strm_shared_entry.specs.Own.{own}
use Rattle.strm_shared_entry.specs.Entry.{asked_of}
use Rattle.strm_run_input.specs.declared.script.ScriptCall.{ScriptCall}
use Rattle.strm_shared_entry.specs.declared.transcript.StreamLog.{StreamLog}
use Rattle.strm_run_input.specs.Scripts.{calls_on, feed_of, link_to}
use Rattle.strm_run_input.specs.declared.run_link.RunLink.{RunLink}
use Rattle.strm_run_input.specs.Resolve.{is_worker_count}
use Rattle.strm_run_callers.specs.Transcript.{carried_on, IsFed, IsLegal}
use Rattle.strm_run_input.specs.declared.fault.RunFault.{RunFault}
use Rattle.strm_run_input.specs.declared.fault.RunFault.TheVariants as runs
use Rattle.strm_script_words.specs.Naming.{KindWords}
use Rattle.strm_script_parse.specs.Plan.{plan_view}
use Rattle.strm_script_parse.specs.Reading.{spelt}
use Rattle.strm_script_parse.specs.Spelling.{Spells}
use Rattle.strm_script_parse.specs.declared.plan.Plan.{Plan}
use Rattle.strm_script_parse.specs.RunInput.{setups_of, calls_of_processes, names_of, replies_of, replies_view, run_links}
use Rattle.strm_script_play.specs.declared.playing.Outcome.{Outcome}
use Rattle.strm_script_parse.specs.declared.fault.PlayFault.{PlayFault}
use Rattle.strm_script_parse.specs.declared.fault.PlayFault.TheVariants.{Script, Run}

-- the calls of a process, by its number; none behind the last process
abbrev pub calls_of : {K : Type 0} → Plan (Shape K) → ℕ → List (ScriptCall (Shape K))
calls_of plan caller = get_or (calls_of_processes plan.processes.items) caller []

-- a plan was played: the names of its streams and processes are kept, and each stream that it declares has a
-- log, in order, with a legal history; the history has the calls of each process on that stream, in order;
-- its messages that came in are from the stream's feed, or of what the link passes on that leads there; the
-- links and the replies that the plan expects are kept
pub record IsPlayedPlan {K : Type 0} (means : Meaning K) (plan : Plan (Shape K)) (outcome : Outcome K) : Type 0 where
  pub streams : outcome.names.streams ≡ plan.streams
  pub names : outcome.names.processes.items ≡ names_of plan.processes.items
  pub links : outcome.names.links.items ≡ plan.links.items
  pub expected : map replies_view outcome.expected.items ≡ map replies_of plan.processes.items
  pub many : length outcome.transcript.streams.items ≡ length (setups_of plan)
  pub legal : (k : ℕ) (setup : Setup) (log : StreamLog K) → k < length (setups_of plan) → IsLegal means (get_or (setups_of plan) k setup) (get_or outcome.transcript.streams.items k log)
  pub calls : (k caller : ℕ) (log : StreamLog K) → k < length (setups_of plan) → map asked_of (own caller (get_or outcome.transcript.streams.items k log).history.items) ≡ calls_on k (calls_of plan caller)
  pub arrivals : (k : ℕ) (log : StreamLog K) → k < length (setups_of plan) → link_to (run_links plan.links.items) k ≡ None → IsFed (feed_of plan.feeds.items k) (get_or outcome.transcript.streams.items k log)
  pub carried : (k : ℕ) (link : RunLink) (log : StreamLog K) → k < length (setups_of plan) → link_to (run_links plan.links.items) k ≡ Some link → IsFed (carried_on link outcome.transcript.streams.items) (get_or outcome.transcript.streams.items k log)

-- a script was played: it spells a plan, and the plan was played
pub record IsPlayed {K : Type 0} (means : Meaning K) (words : KindWords K) (bytes : List ℕ) (outcome : Outcome K) : Type 0 where
  pub plan : Plan (Shape K)
  pub spells : spelt words bytes ≡ Ok (plan_view plan)
  pub played : IsPlayedPlan means plan outcome

-- whether the run of a script may have a fault with this many workers: `Workers` if their number is not from
-- 1 to `MOST_WORKERS`, and then no other fault but out of memory, which may come before the run; never
-- `NoSuch`, since a script names nothing that it has not declared
abbrev pub may_have : ℕ → RunFault → Bool
may_have workers runs.Workers = not (is_worker_count workers)
may_have workers runs.NoSuch = false
may_have workers runs.NoMem = true
may_have workers runs.Unfinished = is_worker_count workers
may_have workers runs.NoReceipt = is_worker_count workers

-- the bytes are a script whose run may have this fault
pub record IsFaultOfRun {K : Type 0} (words : KindWords K) (bytes : List ℕ) (workers : ℕ) (fault : RunFault) : Type 0 where
  pub plan : Plan (Shape K)
  pub spells : spelt words bytes ≡ Ok (plan_view plan)
  pub may : may_have workers fault ≡ true

-- a fault of the script is one that `parse` may return, its first or out of memory; a fault of the run is one
-- of a text that is a script
abbrev pub IsFaultOf : {K : Type 0} → KindWords K → List ℕ → ℕ → PlayFault → Type 0
IsFaultOf words bytes workers (Script fault) = Spells (Err fault) (spelt words bytes)
IsFaultOf words bytes workers (Run fault) = IsFaultOfRun words bytes workers fault
