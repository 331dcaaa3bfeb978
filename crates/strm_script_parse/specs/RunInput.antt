-- The input of a run, made of a plan, and the names of the plan.
use Rattle.std.specs.Prelude.{ℕ, Option, Some, None, List, [], ◌∷◌, Vec, map}
use Rattle.std.specs.Global.{Global}
use Rattle.std.specs.List.{flat_map}
use Rattle.arrayvec.specs.ArrayVec.{ArrayVec}
use Rattle.strm_head_calls.specs.declared.setup.Setup.{Setup}
use Rattle.strm_run_input.specs.declared.script.ScriptCall.{ScriptCall}
use Rattle.strm_run_input.specs.declared.run_link.RunLink.{RunLink}
use Rattle.strm_script_parse.specs.Plan.{Expect, expected_view}
use Rattle.strm_script_parse.specs.declared.plan.Expected.{Expected}
use Rattle.strm_script_parse.specs.declared.plan.ProcessDecl.{ProcessDecl}
use Rattle.strm_script_parse.specs.declared.plan.LinkDecl.{LinkDecl}
use Rattle.strm_script_parse.specs.declared.plan.Plan.{Plan}
use Rattle.strm_script_parse.specs.declared.run_input.Replies.{Replies}

-- the setup of each stream, in order of declaration
abbrev pub setups_of : {P : Type 0} → Plan P → List Setup
setups_of plan = map (λ entry. entry.1) plan.streams.entries

-- the calls of each process, in order
abbrev pub calls_of_processes : {P : Type 0} → List (ProcessDecl P) → List (List (ScriptCall P))
calls_of_processes processes = map (λ process. process.calls) processes

-- the calls of blocks, one block after another (no public clause cites them)
abbrev pub calls_of_blocks : {P : Type 0} → List (Vec (ScriptCall P) Global) → List (ScriptCall P)
calls_of_blocks blocks = flat_map (λ block. block.items) blocks

-- the names of the processes, in order
abbrev pub names_of : {P : Type 0} → List (ProcessDecl P) → List (ArrayVec ℕ)
names_of processes = map (λ process. process.name) processes

-- the stream of each call, in order
abbrev pub call_streams : {P : Type 0} → List (ScriptCall P) → List ℕ
call_streams calls = map (λ call. call.stream) calls

-- the same where replies are expected; else nothing
abbrev pub streams_if : {P : Type 0} → List Expected → List (ScriptCall P) → List ℕ
streams_if [] calls = []
streams_if (one ∷ others) calls = call_streams calls

-- the replies that are expected of the calls of a process, and the stream of each call if there are some
pub record RepliesValue : Type 0 where
  pub streams : List ℕ
  pub expected : List Expect

-- the replies that a run hands on
abbrev pub replies_view : Replies → RepliesValue
replies_view replies = record { streams = replies.streams.items; expected = map expected_view replies.expected.items }

-- the replies that a process expects
abbrev pub replies_of : {P : Type 0} → ProcessDecl P → RepliesValue
replies_of process =
    record { streams = streams_if process.expected.items process.calls; expected = map expected_view process.expected.items }

-- the link of a run, if the link has a carrier
abbrev pub run_link : LinkDecl → Option ℕ → List RunLink
run_link link None = []
run_link link (Some by) = record { by = by; from = link.from; to = link.to; rule = link.rule } ∷ []

-- the links of a run: those that have a carrier, in order
abbrev pub run_links : List LinkDecl → List RunLink
run_links links = flat_map (λ link. run_link link link.by) links
