-- Each line keeps what a run asks of a plan.
use Rattle.std.proofs.Common.{◌≡◌, ◌≤◌, ℕ, ◌+◌, ◌==◌, nat_lt, ◌&&◌, ◌||◌, not, Bool, true, false, cond, List, [], ◌∷◌, ◌++◌, length, get_or, replicate, slice_get, codes, Some, Result, Ok, Err, refl, sym, ap, subst, ◌∙◌, arith}
use Rattle.std.specs.List.{All}
use Rattle.std.specs.Str.{bytes_eq}
use Rattle.std.proofs.lemmas.Bool.{ltb-true, or_parts}
use Rattle.std.proofs.lemmas.List.{append-nil, length-append}
use Rattle.std.proofs.lemmas.List.Elements.{All-nil, All-push, All-append}
use Rattle.strm_msg.specs.Message.{Msg}
use Rattle.strm_msg.specs.Kind.{is_from_line}
use Rattle.strm_module.specs.declared.driver.Driver.{Driver}
use Rattle.strm_module.specs.Driver.{is_line}
use Rattle.strm_head_calls.specs.Setup.{is_fit, is_ring}
use Rattle.strm_head_calls.specs.declared.setup.Setup.{Setup}
use Rattle.strm_script_words.specs.Naming.{KindWords}
use Rattle.strm_script_words.specs.Fault.{◌>>=◌, or_fault}
use Rattle.strm_script_words.specs.Arrival.{message_named, message_at}
use Rattle.strm_script_words.specs.Table.{verb_named, is_push}
use Rattle.strm_script_words.specs.declared.arrival.MessageWord.{MessageWord}
use Rattle.strm_script_words.specs.declared.fault.Cause.{Cause}
use Rattle.strm_script_words.specs.declared.fault.Cause.TheVariants as causes
use Rattle.strm_script_words.specs.declared.verb.Verb.{Verb}
use Rattle.strm_script_parse.specs.Plan.{Call, Expect, Process, Fed, Linked, Streams, Partial, Whole, Place, Nowhere, In_process, In_feed}
use Rattle.strm_script_parse.specs.Reading.{ended, ended_at, plan_of, fresh_name, driver_at, setup_arity, setup_at, setup_onto, declared_at, has_room, with_stream, stream_onto, process_name, with_process, process_onto, has_feed, with_feed, leads_to, feed_onto, link_at, with_link, link_onto, call_at, with_call, call_onto, Carrying, carry_at, with_carries, take_from, carry_onto, await_of, with_await, only_field, await_onto, is_await, is_carry, is_link, process_line_onto, other_onto, with_message, message_onto, fed_onto, inner_onto, outside, word_onto, fields_in, fields_onto, line_onto, modules_after, nothing_yet, FaultAt, lines_onto, then_lines}
use Rattle.strm_script_parse.specs.Targets.{stream_names, stream_at}
use Rattle.strm_script_parse.specs.Expected.{call_fields, reply_fields, expected_of}
use Rattle.strm_script_parse.specs.Sound.{end_is_there, line_is_there, AreCallsThere, AreAwaits, IsSound}
use Rattle.strm_script_parse.specs.declared.draft.TheConstants.{MOST_STREAMS, MOST_PROCESSES, MOST_CALLS, MOST_AWAITS, MOST_MESSAGES, MOST_LINKS}
use Rattle.strm_script_parse.specs.Section.{IsMore}
use Rattle.strm_script_parse.specs.Draft.{IsDraft, IsUnled, going}
use Rattle.strm_script_parse.proofs.StepLemmas.{through, passed, either, same, found_in}
use Rattle.strm_script_parse.proofs.FieldLemmas.{setup_fits, message_from_line}
use Rattle.strm_script_parse.proofs.LinkedLemmas.{unled, none_linked, linked_by, linked_more, linked_fed, linked_push, IsNew, link_new, linked_carried, IsCarry, carry_may, takes_there, going_small}
use Rattle.strm_script_parse.proofs.ThereLemmas.{call_there, stream_found, line_there, processes_more, awaits_more, lines_more, place_more, no_awaits, awaits_stay, await_more, unfed, both_of, once_more}

-- what a line keeps, which declares one module at most
pub record Keeps {K : Type 0} (d e : Partial K) : Type 0 where
  pub kept : IsDraft e
  pub modules : e.modules ≤ d.modules + 1
  pub streams : IsMore d.streams e.streams

-- nothing was declared
none_more : (streams : Streams) → IsMore streams streams
none_more streams = ([], sym (append-nil streams))

-- ---- what goes on ends

ended_at_kept : {K : Type 0} (d : Partial K) (place : Place K) → IsDraft (record d { place = place }) → IsDraft (ended_at d place)
ended_at_kept {K} d Nowhere k = k
ended_at_kept {K} d (In_process process) k = record {
  setups = k.setups;
  few_streams = k.few_streams;
  few_processes = omega (arith, k.few_processes, length-append d.processes (process ∷ []));
  messages = k.messages;
  going_on = tt;
  there = record {
    calls = All-push (λ (p : Process K). AreCallsThere d.streams p.calls) d.processes process k.there.calls k.there.going_on.0;
    awaits = All-push (λ (p : Process K). AreAwaits d.streams p) d.processes process k.there.awaits k.there.going_on.1;
    lines = k.there.lines;
    once = k.there.once;
    going_on = tt;
    links = linked_by d.streams d.feeds (length d.processes + 1) (length (d.processes ++ process ∷ []) + 0) d.links (omega (arith, length-append d.processes (process ∷ []))) k.there.links;
    unled = tt;
  };
}
ended_at_kept {K} d (In_feed feed) k = record {
  setups = k.setups;
  few_streams = k.few_streams;
  few_processes = k.few_processes;
  messages = All-push (λ (f : Fed). All (λ m. is_from_line m.kind ≡ true) f.messages) d.feeds feed k.messages k.going_on;
  going_on = tt;
  there = record {
    calls = k.there.calls;
    awaits = k.there.awaits;
    lines = All-push (λ (f : Fed). line_is_there (slice_get d.streams f.stream) ≡ true) d.feeds feed k.there.lines k.there.going_on.0;
    once = once_more d.feeds feed k.there.once k.there.going_on.1;
    going_on = tt;
    links = linked_fed d.streams d.feeds feed (length d.processes + 0) d.links k.there.unled k.there.links;
    unled = tt;
  };
}

ended_kept : {K : Type 0} (d : Partial K) → IsDraft d → IsDraft (ended d)
ended_kept d k = ended_at_kept d d.place k

-- ending changes neither streams nor the number of modules, and leaves nothing that goes on
ended_modules : {K : Type 0} (d : Partial K) (place : Place K) → (ended_at d place).modules ≡ d.modules
ended_modules d Nowhere = refl
ended_modules d (In_process process) = refl
ended_modules d (In_feed feed) = refl

ended_streams : {K : Type 0} (d : Partial K) (place : Place K) → (ended_at d place).streams ≡ d.streams
ended_streams d Nowhere = refl
ended_streams d (In_process process) = refl
ended_streams d (In_feed feed) = refl

ended_place : {K : Type 0} (d : Partial K) (place : Place K) → (ended_at d place).place ≡ Nowhere
ended_place d Nowhere = refl
ended_place d (In_process process) = refl
ended_place d (In_feed feed) = refl

none_going : {K : Type 0} (place : Place K) → place ≡ Nowhere → going place ≡ 0
none_going place none = ap (λ place. going place) none

-- so a plan that is kept is sound when it ends
pub kept_sound : {K : Type 0} (d : Partial K) → IsDraft d → IsSound (plan_of d)
kept_sound d k =
    let e = ended_kept d k in
    record {
      setups = e.setups;
      few_streams = e.few_streams;
      few_processes = omega (arith, e.few_processes);
      messages = e.messages;
      calls = e.there.calls;
      awaits = e.there.awaits;
      lines = e.there.lines;
      once = e.there.once;
      links = linked_by (ended d).streams (ended d).feeds (length (ended d).processes + going (ended d).place) (length (ended d).processes) (ended d).links (omega (arith, none_going (ended d).place (ended_place d d.place))) e.there.links;
    }

pub nothing_kept : {K : Type 0} → IsDraft {K = K} nothing_yet
nothing_kept {K} = record {
  setups = All-nil (λ (stream : List ℕ × Setup). (is_fit stream.1 ≡ true) × (is_ring stream.1 ≡ true));
  few_streams = omega arith;
  few_processes = omega arith;
  messages = All-nil (λ (f : Fed). All (λ m. is_from_line m.kind ≡ true) f.messages);
  going_on = tt;
  there = record {
    calls = All-nil (λ (p : Process K). AreCallsThere [] p.calls);
    awaits = All-nil (λ (p : Process K). AreAwaits [] p);
    lines = All-nil (λ (f : Fed). line_is_there (slice_get [] f.stream) ≡ true);
    once = λ i j d before within. absurd (omega (arith, within));
    going_on = tt;
    links = none_linked [] [] 0;
    unled = tt;
  };
}

-- ---- a stream

abbrev named : List ℕ → Setup → List ℕ × Setup
named name setup = (name, setup)

with_stream_keeps : {K : Type 0} (d e : Partial K) (name : List ℕ) (setup : Setup) → (is_fit setup ≡ true) × (is_ring setup ≡ true) → with_stream d (named name setup) ≡ Ok e → IsDraft d → Keeps d e
with_stream_keeps d e name setup fits is k =
    passed (has_room d.streams) (Ok (record d { streams = d.streams ++ named name setup ∷ [] })) e causes.TooMany is (λ room is.
    same (Keeps d) (record d { streams = d.streams ++ named name setup ∷ [] }) e is (record {
      kept = record {
        setups = All-push (λ (stream : List ℕ × Setup). (is_fit stream.1 ≡ true) × (is_ring stream.1 ≡ true)) d.streams (named name setup) k.setups fits;
        few_streams = omega (arith, ltb-true (length d.streams) MOST_STREAMS room, length-append d.streams (named name setup ∷ []));
        few_processes = k.few_processes;
        messages = k.messages;
        going_on = k.going_on;
        there = record {
          calls = processes_more d.streams (named name setup) d.processes k.there.calls;
          awaits = λ i p within. awaits_more d.streams (named name setup) (get_or d.processes i p) (k.there.awaits i p within);
          lines = lines_more d.streams (named name setup) d.feeds k.there.lines;
          once = k.there.once;
          going_on = place_more d.streams (named name setup) d.feeds d.place k.there.going_on;
          links = linked_more d.streams d.feeds (named name setup) (length d.processes + going d.place) d.links k.there.links;
          unled = k.there.unled;
        };
      };
      modules = omega arith;
      streams = (named name setup ∷ [], refl);
    }))

setup_keeps : {K : Type 0} (d e : Partial K) (driver : Driver) (name : List ℕ) (texts : List (List ℕ)) → setup_onto d driver name texts ≡ Ok e → IsDraft d → Keeps d e
setup_keeps d e driver name texts is k =
    through (declared_at d.streams driver name texts) (λ stream. with_stream d stream) e is (λ stream declared next.
    through (fresh_name (stream_names d.streams) name) (λ chosen. setup_at driver texts >>= λ setup. Ok (named chosen setup)) stream declared (λ chosen _ declared.
    through (setup_at driver texts) (λ setup. Ok (named chosen setup)) stream declared (λ setup read is.
    same (λ (s : List ℕ × Setup). with_stream d s ≡ Ok e → Keeps d e) (named chosen setup) stream is (λ next. with_stream_keeps d e chosen setup (setup_fits driver texts setup read) next k) next)))

stream_keeps : {K : Type 0} (d e : Partial K) (texts : List (List ℕ)) → stream_onto d texts ≡ Ok e → IsDraft d → Keeps d e
unfolding stream_onto
stream_keeps d e [] is k = absurd cc
stream_keeps d e (name ∷ []) is k = absurd cc
stream_keeps d e (name ∷ driver ∷ texts) is k =
    through (driver_at driver) (λ kind. cond (length texts == setup_arity kind) (setup_onto d kind name texts) (Err causes.Fields)) e is (λ kind _ is.
    passed (length texts == setup_arity kind) (setup_onto d kind name texts) e causes.Fields is (λ _ is. setup_keeps d e kind name texts is k))

-- ---- a process

abbrev new_process : {K : Type 0} → List ℕ → Process K
new_process name = record { name = name; calls = []; expected = []; awaits = [] }

with_process_keeps : {K : Type 0} (d e : Partial K) (name : List ℕ) → with_process d name ≡ Ok e → IsDraft d → Keeps d e
with_process_keeps {K} d e name is k =
    passed (nat_lt (length d.processes) MOST_PROCESSES) (Ok (record d { place = In_process (new_process name) })) e causes.TooMany is (λ room is.
    same (Keeps d) (record d { place = In_process (new_process name) }) e is (record {
      kept = record {
        setups = k.setups;
        few_streams = k.few_streams;
        few_processes = omega (arith, ltb-true (length d.processes) MOST_PROCESSES room);
        messages = k.messages;
        going_on = tt;
        there = record {
          calls = k.there.calls;
          awaits = k.there.awaits;
          lines = k.there.lines;
          once = k.there.once;
          going_on = (All-nil (λ (call : Call K). end_is_there (slice_get d.streams call.stream) call.end ≡ true), no_awaits d.streams (new_process name) refl);
          links = linked_by d.streams d.feeds (length d.processes + going d.place) (length d.processes + 1) d.links (omega (arith, going_small d.place)) k.there.links;
          unled = tt;
        };
      };
      modules = omega arith;
      streams = none_more d.streams;
    }))

process_keeps : {K : Type 0} (d e : Partial K) (texts : List (List ℕ)) → process_onto d texts ≡ Ok e → IsDraft d → Keeps d e
unfolding process_onto
process_keeps d e [] is k = absurd cc
process_keeps d e (name ∷ []) is k = through (process_name d.processes name) (λ chosen. with_process d chosen) e is (λ chosen _ is. with_process_keeps d e chosen is k)
process_keeps d e (name ∷ more ∷ texts) is k = absurd cc

-- ---- a feed

abbrev new_feed : ℕ → Fed
new_feed number = record { stream = number; messages = [] }

from_line : Msg → Type 0
from_line m = is_from_line m.kind ≡ true

with_feed_keeps : {K : Type 0} (d e : Partial K) (text : List ℕ) (found : ℕ × Driver) → stream_at d.streams text ≡ Some found → with_feed d found ≡ Ok e → d.place ≡ Nowhere → IsDraft d → Keeps d e
with_feed_keeps d e text found named is none k =
    passed (is_line found.1 && not (has_feed d.feeds found.0 || leads_to d.links found.0)) (Ok (record d { place = In_feed (new_feed found.0) })) e causes.OutOfPlace is (λ free is.
    let line = both_of (is_line found.1) (has_feed d.feeds found.0 || leads_to d.links found.0) free in
    let nothing = or_parts (has_feed d.feeds found.0) (leads_to d.links found.0) line.1 in
    same (Keeps d) (record d { place = In_feed (new_feed found.0) }) e is (record {
      kept = record {
        setups = k.setups;
        few_streams = k.few_streams;
        few_processes = omega (arith, k.few_processes);
        messages = k.messages;
        going_on = All-nil (λ (m : Msg). is_from_line m.kind ≡ true);
        there = record {
          calls = k.there.calls;
          awaits = k.there.awaits;
          lines = k.there.lines;
          once = k.there.once;
          going_on = (line_there d.streams found (stream_found d.streams text found named) line.0, unfed d.feeds found.0 nothing.0);
          links = linked_by d.streams d.feeds (length d.processes + going d.place) (length d.processes + 0) d.links (omega (arith, none_going d.place none)) k.there.links;
          unled = unled d.links found.0 nothing.1;
        };
      };
      modules = omega arith;
      streams = none_more d.streams;
    }))

feed_keeps : {K : Type 0} (d e : Partial K) (texts : List (List ℕ)) → feed_onto d texts ≡ Ok e → d.place ≡ Nowhere → IsDraft d → Keeps d e
unfolding feed_onto
feed_keeps d e [] is none k = absurd cc
feed_keeps d e (name ∷ []) is none k = through (or_fault causes.NoSuch (stream_at d.streams name)) (λ found. with_feed d found) e is (λ found named is. with_feed_keeps d e name found (found_in (stream_at d.streams name) causes.NoSuch found named) is none k)
feed_keeps d e (name ∷ more ∷ texts) is none k = absurd cc

-- ---- a link

with_link_keeps : {K : Type 0} (d e : Partial K) (link : Linked) → IsNew d.streams d.feeds d.links link → with_link d link ≡ Ok e → d.place ≡ Nowhere → IsDraft d → Keeps d e
with_link_keeps {K} d e link new is none k =
    passed (nat_lt (length d.links) MOST_LINKS) (Ok (record d { links = d.links ++ link ∷ [] })) e causes.TooMany is (λ _ is.
    same (Keeps d) (record d { links = d.links ++ link ∷ [] }) e is (record {
      kept = record {
        setups = k.setups;
        few_streams = k.few_streams;
        few_processes = k.few_processes;
        messages = k.messages;
        going_on = k.going_on;
        there = record {
          calls = k.there.calls;
          awaits = k.there.awaits;
          lines = k.there.lines;
          once = k.there.once;
          going_on = k.there.going_on;
          links = linked_push d.streams d.feeds (length d.processes + going d.place) d.links link new k.there.links;
          unled = subst (λ (place : Place K). IsUnled (d.links ++ link ∷ []) place) (sym none) tt;
        };
      };
      modules = omega arith;
      streams = none_more d.streams;
    }))

link_keeps : {K : Type 0} (d e : Partial K) (texts : List (List ℕ)) → link_onto d texts ≡ Ok e → d.place ≡ Nowhere → IsDraft d → Keeps d e
unfolding link_onto
link_keeps d e texts is none k =
    through (link_at d.streams d.feeds d.links texts) (λ link. with_link d link) e is (λ link read is.
    with_link_keeps d e link (link_new d.streams d.feeds d.links texts link read) is none k)

-- ---- a call of a process

one_module : (verb : Verb) (modules : ℕ) (b : Bool) → cond b (modules + 1) modules ≤ modules + 1
one_module verb modules true = omega arith
one_module verb modules false = omega arith

abbrev called : {K : Type 0} → Process K → Call K → List Expect → Process K
called process call expected = record process { calls = process.calls ++ call ∷ []; expected = process.expected ++ expected }

call_keeps : {K : Type 0} (words : KindWords K) (n : ℕ) (d e : Partial K) (process : Process K) (verb : Verb) (texts : List (List ℕ)) → call_onto words n d process verb texts ≡ Ok e → IsDraft (record d { place = In_process process }) → Keeps d e
unfolding call_onto
call_keeps {K} words n d e process verb texts is k =
    let expected = expected_of n (length process.calls) (reply_fields texts) in
    through (call_at words d.streams (d.modules + 1) verb (call_fields texts) (reply_fields texts)) (λ call. with_call d process verb call expected) e is (λ call read is.
    passed (nat_lt (length process.calls) MOST_CALLS) (Ok (record d { modules = modules_after verb d.modules; place = In_process (called process call expected) })) e causes.TooMany is (λ _ is.
    same (Keeps d) (record d { modules = modules_after verb d.modules; place = In_process (called process call expected) }) e is (record {
      kept = record {
        setups = k.setups;
        few_streams = k.few_streams;
        few_processes = k.few_processes;
        messages = k.messages;
        going_on = tt;
        there = record {
          calls = k.there.calls;
          awaits = k.there.awaits;
          lines = k.there.lines;
          once = k.there.once;
          going_on = (All-push (λ (c : Call K). end_is_there (slice_get d.streams c.stream) c.end ≡ true) process.calls call k.there.going_on.0 (call_there words d.streams (d.modules + 1) verb (call_fields texts) (reply_fields texts) call read), awaits_stay d.streams process (call ∷ []) (process.expected ++ expected) k.there.going_on.1);
          links = k.there.links;
          unled = tt;
        };
      };
      modules = one_module verb d.modules (is_push verb);
      streams = none_more d.streams;
    })))

-- ---- an await of a process

abbrev awaiting : {K : Type 0} → Process K → ℕ → Process K
awaiting process stream = record process { awaits = process.awaits ++ await_of process stream ∷ [] }

with_await_keeps : {K : Type 0} (d e : Partial K) (process : Process K) (text : List ℕ) (found : ℕ × Driver) → stream_at d.streams text ≡ Some found → with_await d process found ≡ Ok e → IsDraft (record d { place = In_process process }) → Keeps d e
with_await_keeps d e process text found named is k =
    passed (is_line found.1) (cond (nat_lt (length process.awaits) MOST_AWAITS) (Ok (record d { place = In_process (awaiting process found.0) })) (Err causes.TooMany)) e causes.OutOfPlace is (λ line is.
    passed (nat_lt (length process.awaits) MOST_AWAITS) (Ok (record d { place = In_process (awaiting process found.0) })) e causes.TooMany is (λ _ is.
    same (Keeps d) (record d { place = In_process (awaiting process found.0) }) e is (record {
      kept = record {
        setups = k.setups;
        few_streams = k.few_streams;
        few_processes = k.few_processes;
        messages = k.messages;
        going_on = tt;
        there = record {
          calls = k.there.calls;
          awaits = k.there.awaits;
          lines = k.there.lines;
          once = k.there.once;
          going_on = (k.there.going_on.0, await_more d.streams process found.0 (line_there d.streams found (stream_found d.streams text found named) line) k.there.going_on.1);
          links = k.there.links;
          unled = tt;
        };
      };
      modules = omega arith;
      streams = none_more d.streams;
    })))

await_keeps : {K : Type 0} (d e : Partial K) (process : Process K) (texts : List (List ℕ)) → await_onto d process texts ≡ Ok e → IsDraft (record d { place = In_process process }) → Keeps d e
unfolding await_onto
await_keeps d e process texts is k =
    through (only_field texts) _ e is (λ name _ is.
    through (or_fault causes.NoSuch (stream_at d.streams name)) (λ found. with_await d process found) e is (λ found named is.
    with_await_keeps d e process name found (found_in (stream_at d.streams name) causes.NoSuch found named) is k))

-- ---- carries of a process

with_carries_keeps : {K : Type 0} (d : Partial K) (process : Process K) (carries : Carrying) → IsCarry d.links (length d.processes) carries → IsDraft (record d { place = In_process process }) → Keeps d (with_carries d process carries)
with_carries_keeps {K} d process carries carry k =
    let takes = replicate carries.many (take_from carries.from) in
    record {
      kept = record {
        setups = k.setups;
        few_streams = k.few_streams;
        few_processes = k.few_processes;
        messages = k.messages;
        going_on = tt;
        there = record {
          calls = k.there.calls;
          awaits = k.there.awaits;
          lines = k.there.lines;
          once = k.there.once;
          going_on = (All-append (λ (c : Call K). end_is_there (slice_get d.streams c.stream) c.end ≡ true) process.calls takes k.there.going_on.0 (takes_there d.streams d.feeds (length d.processes + 1) d.links (length d.processes) carries k.there.links carry), awaits_stay d.streams process takes process.expected k.there.going_on.1);
          links = linked_carried (length d.processes) d.streams d.feeds (length d.processes + 1) d.links carries.link carry.link carry.there carry.may (omega arith) k.there.links;
          unled = tt;
        };
      };
      modules = omega arith;
      streams = none_more d.streams;
    }

carry_keeps : {K : Type 0} (d e : Partial K) (process : Process K) (texts : List (List ℕ)) → carry_onto d process texts ≡ Ok e → IsDraft (record d { place = In_process process }) → Keeps d e
unfolding carry_onto
carry_keeps d e process texts is k =
    through (carry_at d.links (length d.processes) (length process.calls) texts) (λ carries. Ok (with_carries d process carries)) e is (λ carries read is.
    same (Keeps d) (with_carries d process carries) e is (with_carries_keeps d process carries (carry_may d.links (length d.processes) (length process.calls) texts carries read) k))

-- ---- a message of a feed

abbrev fed : Fed → Msg → Fed
fed feed m = record { stream = feed.stream; messages = feed.messages ++ m ∷ [] }

message_keeps : {K : Type 0} (d : Partial K) (feed after : Fed) (word : MessageWord) (texts : List (List ℕ)) → message_onto feed word texts ≡ Ok after → IsDraft (record d { place = In_feed feed }) → Keeps d (record d { place = In_feed after })
unfolding message_onto
message_keeps d feed after word texts is k =
    through (message_at word texts) (λ m. with_message feed m) after is (λ m read is.
    passed (nat_lt (length feed.messages) MOST_MESSAGES) (Ok (fed feed m)) after causes.TooMany is (λ _ is.
    same (λ (f : Fed). Keeps d (record d { place = In_feed f })) (fed feed m) after is (record {
      kept = record {
        setups = k.setups;
        few_streams = k.few_streams;
        few_processes = k.few_processes;
        messages = k.messages;
        going_on = All-push (λ (m : Msg). is_from_line m.kind ≡ true) feed.messages m k.going_on (message_from_line word texts m read);
        there = record { calls = k.there.calls; awaits = k.there.awaits; lines = k.there.lines; once = k.there.once; going_on = k.there.going_on; links = k.there.links; unled = k.there.unled };
      };
      modules = omega arith;
      streams = none_more d.streams;
    })))

-- ---- a line

process_line_keeps : {K : Type 0} (words : KindWords K) (n : ℕ) (d e : Partial K) (process : Process K) (word : List ℕ) (texts : List (List ℕ)) → process_line_onto words n d process word texts ≡ Ok e → IsDraft (record d { place = In_process process }) → Keeps d e
process_line_keeps words n d e process word texts is k =
    either (is_await word) (await_onto d process texts) _ e is (λ is. await_keeps d e process texts is k) (λ is.
    either (is_carry word) (carry_onto d process texts) _ e is (λ is. carry_keeps d e process texts is k) (λ is.
    through (or_fault (outside word) (verb_named word)) (λ verb. call_onto words n d process verb texts) e is (λ verb _ is. call_keeps words n d e process verb texts is k)))

inner_keeps : {K : Type 0} (words : KindWords K) (n : ℕ) (d e : Partial K) (place : Place K) (word : List ℕ) (texts : List (List ℕ)) → inner_onto words n d place word texts ≡ Ok e → IsDraft (record d { place = place }) → Keeps d e
inner_keeps words n d e Nowhere word texts is k = absurd cc
inner_keeps words n d e (In_process process) word texts is k = process_line_keeps words n d e process word texts is k
inner_keeps words n d e (In_feed feed) word texts is k =
    through (fed_onto feed word texts) (λ after. Ok (record d { place = In_feed after })) e is (λ after read is.
    same (Keeps d) (record d { place = In_feed after }) e is (
    through (or_fault (outside word) (message_named word)) (λ m. message_onto feed m texts) after read (λ m _ read. message_keeps d feed after m texts read k)))

-- what a line keeps of what has ended, it keeps
since_ended : {K : Type 0} (d e : Partial K) → Keeps (ended d) e → Keeps d e
since_ended d e keeps = record {
  kept = keeps.kept;
  modules = omega (arith, keeps.modules, ended_modules d d.place);
  streams = (keeps.streams.0, keeps.streams.1 ∙ ap (λ (s : Streams). s ++ keeps.streams.0) (ended_streams d d.place));
}

other_keeps : {K : Type 0} (words : KindWords K) (n : ℕ) (d e : Partial K) (word : List ℕ) (texts : List (List ℕ)) → other_onto words n d d.place word texts ≡ Ok e → IsDraft d → Keeps d e
other_keeps words n d e word texts is k =
    either (is_link word) (link_onto (ended d) texts) _ e is (λ is. since_ended d e (link_keeps (ended d) e texts is (ended_place d d.place) (ended_kept d k))) (λ is.
    inner_keeps words n d e d.place word texts is k)

word_keeps : {K : Type 0} (words : KindWords K) (n : ℕ) (d e : Partial K) (word : List ℕ) (texts : List (List ℕ)) → word_onto words n d word texts ≡ Ok e → IsDraft d → Keeps d e
unfolding word_onto
word_keeps words n d e word texts is k =
    let after = ended_kept d k in
    either (bytes_eq word (codes "stream")) (stream_onto (ended d) texts) _ e is (λ is. since_ended d e (stream_keeps (ended d) e texts is after)) (λ is.
    either (bytes_eq word (codes "process")) (process_onto (ended d) texts) _ e is (λ is. since_ended d e (process_keeps (ended d) e texts is after)) (λ is.
    either (bytes_eq word (codes "feed")) (feed_onto (ended d) texts) _ e is (λ is. since_ended d e (feed_keeps (ended d) e texts is (ended_place d d.place) after)) (λ is.
    other_keeps words n d e word texts is k)))

unchanged : {K : Type 0} (d e : Partial K) → ◌≡◌ {A = Result (Partial K) Cause} (Ok d) (Ok e) → IsDraft d → Keeps d e
unchanged d e is k = same (Keeps d) d e is (record { kept = k; modules = omega arith; streams = none_more d.streams })

fields_keep : {K : Type 0} (words : KindWords K) (n : ℕ) (d e : Partial K) (texts : List (List ℕ)) → fields_onto words n d texts ≡ Ok e → IsDraft d → Keeps d e
fields_keep words n d e [] is k = unchanged d e is k
fields_keep words n d e (word ∷ texts) is k = word_keeps words n d e word texts is k

-- a line keeps a plan of which a run can be made
pub line_keeps : {K : Type 0} (words : KindWords K) (n : ℕ) (d e : Partial K) (line : List ℕ) → line_onto words n d line ≡ Ok e → IsDraft d → Keeps d e
unfolding line_onto
line_keeps words n d e line is k = through (fields_in line) (λ texts. fields_onto words n d texts) e is (λ texts _ is. fields_keep words n d e texts is k)

-- the others follow a line that was added
after_line : {K : Type 0} (n : ℕ) (read : Result (Partial K) Cause) (others : Partial K → Result (Whole K) FaultAt) (whole : Whole K) → then_lines n read others ≡ Ok whole → ((e : Partial K) → read ≡ Ok e → others e ≡ Ok whole → IsSound whole) → IsSound whole
after_line n (Ok e) others whole is goes = goes e refl is
after_line n (Err cause) others whole is goes = absurd cc

-- what lines spell is sound
pub lines_sound : {K : Type 0} (words : KindWords K) (all : List (List ℕ)) (n : ℕ) (d : Partial K) (whole : Whole K) → lines_onto words n d all ≡ Ok whole → IsDraft d → IsSound whole
unfolding lines_onto
lines_sound {K} words [] n d whole is k = let one : plan_of d ≡ whole = cc in subst (λ (w : Whole K). IsSound w) one (kept_sound d k)
lines_sound {K} words (line ∷ all) n d whole is k =
    after_line (n + 1) (line_onto words (n + 1) d line) (λ e. lines_onto words (n + 1) e all) whole is (λ e read is. lines_sound words all (n + 1) e whole is (line_keeps words (n + 1) d e line read k).kept)
