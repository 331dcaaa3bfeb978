-- The plan that a script spells: streams in order, processes with their calls, feeds with their messages, and
-- links.
use Rattle.std.specs.Prelude.{ℕ, Option, List, Vec, map}
use Rattle.std.specs.Global.{Global}
use Rattle.strm_msg.specs.Message.{Msg}
use Rattle.strm_msg.specs.declared.words.End.{End}
use Rattle.strm_module.specs.declared.shape.Shape.{Shape}
use Rattle.strm_link.specs.Rule.{RuleValue}
use Rattle.strm_script_text.specs.Text.{name_texts}
use Rattle.strm_script_words.specs.Table.{Asked, asked_of}
use Rattle.strm_run_input.specs.declared.script.ScriptCall.{ScriptCall}
use Rattle.strm_run_input.specs.declared.script.Feed.{Feed}
use Rattle.strm_run_input.specs.declared.script.Await.{Await}
pub use Rattle.strm_script_parse.specs.Streams.{Streams, streams_view, streams_of}
use Rattle.strm_script_parse.specs.declared.plan.Expected.{Expected}
use Rattle.strm_script_parse.specs.declared.plan.ProcessDecl.{ProcessDecl}
use Rattle.strm_script_parse.specs.declared.plan.LinkDecl.{LinkDecl}
use Rattle.strm_script_parse.specs.declared.plan.Plan.{Plan}
use Rattle.strm_script_parse.specs.declared.plan.Names.{Names}
use Rattle.strm_script_parse.specs.declared.draft.Current.{Current}
use Rattle.strm_script_parse.specs.declared.draft.Ended.{Ended}
use Rattle.strm_script_parse.specs.declared.draft.Draft.{Draft}

-- a call: the number of its stream, the end, and the request
pub record Call (K : Type 0) : Type 0 where
  pub stream : ℕ
  pub end : End
  pub asked : Asked K

-- the replies that a script expects of a call: the number of the call among those of its process, from 0; the
-- number of its line, from 1; and the choices, each with a blank in front of each of its fields
pub record Expect : Type 0 where
  pub call : ℕ
  pub line : ℕ
  pub choices : List (List ℕ)

-- a process: its name, its calls in order, the replies that are expected of some of them, and the feeds that
-- it awaits before some of them
pub record Process (K : Type 0) : Type 0 where
  pub name : List ℕ
  pub calls : List (Call K)
  pub expected : List Expect
  pub awaits : List Await

-- the messages that are offered to a line or a wire
pub record Fed : Type 0 where
  pub stream : ℕ
  pub messages : List Msg

-- a link: its name, the wire that is taken from, the wire at which it arrives, its rule, and the number of the
-- process that carries on it, if one does
pub record Linked : Type 0 where
  pub name : List ℕ
  pub from : ℕ
  pub to : ℕ
  pub rule : RuleValue
  pub by : Option ℕ

-- the plan that a script spells
pub record Whole (K : Type 0) : Type 0 where
  pub streams : Streams
  pub processes : List (Process K)
  pub feeds : List Fed
  pub links : List Linked

-- the names of the streams, each with its setup, and of the processes, and the links; a transcript is printed
-- by them
pub record NamesValue : Type 0 where
  pub streams : Streams
  pub processes : List (List ℕ)
  pub links : List Linked

-- the process or feed to which the next lines belong
pub data Place (K : Type 0) : Type 0 where
  Nowhere : Place K
  In_process : (process : Process K) → Place K
  In_feed : (feed : Fed) → Place K

-- a plan while it is read: the processes and feeds that have ended, the links, the number of declared modules,
-- and the process or feed that goes on
pub record Partial (K : Type 0) : Type 0 where
  pub streams : Streams
  pub processes : List (Process K)
  pub feeds : List Fed
  pub links : List Linked
  pub modules : ℕ
  pub place : Place K

-- ---- the values of the code, without their layout in memory

-- a call
abbrev pub call_view : {K : Type 0} → ScriptCall (Shape K) → Call K
call_view line = record { stream = line.stream; end = line.call.end; asked = asked_of line.call.request }

-- texts
abbrev pub texts_in : List (Vec ℕ Global) → List (List ℕ)
texts_in texts = map (λ text. text.items) texts

-- the replies that are expected of a call
abbrev pub expected_view : Expected → Expect
expected_view expected =
    record { call = expected.call; line = expected.line; choices = texts_in expected.choices.items }

-- a process; its calls are without their layout in memory
abbrev pub process_view : {K : Type 0} → ProcessDecl (Shape K) → Process K
process_view process =
    record {
      name = process.name.items;
      calls = map call_view process.calls;
      expected = map expected_view process.expected.items;
      awaits = process.awaits.items;
    }

-- the messages of a feed, and the stream that it is for
abbrev pub feed_view : Feed → Fed
feed_view feed = record { stream = feed.stream; messages = feed.messages.items }

-- a link
abbrev pub link_view : LinkDecl → Linked
link_view link = record { name = link.name.items; from = link.from; to = link.to; rule = link.rule; by = link.by }

-- a plan
abbrev pub plan_view : {K : Type 0} → Plan (Shape K) → Whole K
plan_view plan =
    record {
      streams = streams_of plan.streams;
      processes = map process_view plan.processes.items;
      feeds = map feed_view plan.feeds.items;
      links = map link_view plan.links.items;
    }

-- the names of a plan
abbrev pub names_view : Names → NamesValue
names_view names =
    record {
      streams = streams_of names.streams;
      processes = name_texts names.processes.items;
      links = map link_view names.links.items;
    }

-- the place where nothing goes on, that in a process that goes on, and that in a feed
abbrev pub no_place : {K : Type 0} → Place K
no_place = Nowhere

abbrev pub process_place : {K : Type 0} → ProcessDecl (Shape K) → Place K
process_place process = In_process (process_view process)

abbrev pub feed_place : {K : Type 0} → Feed → Place K
feed_place feed = In_feed (feed_view feed)

-- the process or feed that goes on
abbrev pub place_view : {K : Type 0} → Current (Shape K) → Place K
place_view Current.Nowhere = Nowhere
place_view (Current.Process process) = process_place process
place_view (Current.Feed feed) = feed_place feed

-- a plan where something goes on, by what has ended
abbrev pub ended_view : {K : Type 0} → Ended (Shape K) → Place K → Partial K
ended_view ended place =
    record {
      streams = streams_of ended.streams.map;
      processes = map process_view ended.processes.items;
      feeds = map feed_view ended.feeds.items;
      links = map link_view ended.links.items;
      modules = ended.modules;
      place = place;
    }

-- a plan while it is read
abbrev pub draft_view : {K : Type 0} → Draft (Shape K) → Partial K
draft_view draft = ended_view draft.ended (place_view draft.current)
