-- Each line keeps that all is there which processes and feeds name, and that no line has two feeds.
use Rattle.std.proofs.Common.{◌≡◌, ◌≤◌, ℕ, zero, suc, ◌==◌, ◌&&◌, not, Bool, true, false, List, [], ◌∷◌, ◌++◌, length, position, slice_get, get_or, Option, Some, Ok, refl, ap, ◌∙◌, codes, arith}
use Rattle.std.specs.Str.{bytes_eq}
use Rattle.std.proofs.lemmas.Bool.{eqb-false, or_parts}
use Rattle.std.proofs.lemmas.List.{length-append}
use Rattle.std.proofs.lemmas.List.Elements.{All-nil, All-cons, All-push}
use Rattle.std.proofs.lemmas.List.Quantifiers.{all_pairs_push}
use Rattle.strm_msg.specs.declared.words.End.{End}
use Rattle.strm_msg.specs.declared.words.End.TheVariants.{A}
use Rattle.strm_script_text.specs.Text.{halves_of, name_of}
use Rattle.strm_module.specs.declared.driver.Driver.{Driver}
use Rattle.strm_module.specs.declared.driver.Driver.TheVariants.{Echo, Loop, Line, Wire}
use Rattle.strm_module.specs.Driver.{has_end, is_line}
use Rattle.strm_head_calls.specs.declared.setup.Setup.{Setup}
use Rattle.strm_run_input.specs.declared.script.Await.{Await}
use Rattle.strm_script_words.specs.Naming.{KindWords}
use Rattle.strm_script_words.specs.Fault.{or_fault}
use Rattle.strm_script_words.specs.Table.{arity_at, request_at}
use Rattle.strm_script_words.specs.declared.fault.Cause.TheVariants as causes
use Rattle.strm_script_words.specs.declared.verb.Verb.{Verb}
use Rattle.strm_script_parse.specs.Plan.{Call, Expect, Process, Fed, Streams, Place, Nowhere, In_process, In_feed}
use Rattle.strm_script_parse.specs.Expected.{are_choices}
use Rattle.strm_script_parse.specs.Reading.{await_of, call_at, placed_call, has_feed}
use Rattle.strm_script_parse.specs.Targets.{stream_names, stream_at, stream_of, target_of, end_of, end_a}
use Rattle.strm_script_parse.specs.declared.plan.TheConstants.{LONGEST}
use Rattle.strm_script_parse.specs.Draft.{IsPlaceThere}
use Rattle.strm_script_parse.specs.Sound.{end_is_there, line_is_there, AreCallsThere, AreProcessesThere, AreAwaits, AreLinesThere, AreOnce, IsUnfed}
use Rattle.strm_script_parse.proofs.StepLemmas.{through, passed, on, under, same, same_found, found_in}

-- ---- what a line names is there

-- a driver has the end that a word names of it
a_is_there : (driver : Driver) (text : List ℕ) (end : End) → end_a text ≡ Some end → has_end driver end ≡ true
a_is_there driver text end is = under (bytes_eq text (codes "a")) (Some A) end is (λ _ found. same_found (λ (e : End). has_end driver e ≡ true) A end found (has_a driver))
  where
    has_a : (driver : Driver) → has_end driver A ≡ true
    has_a Echo = refl
    has_a Loop = refl
    has_a Line = refl
    has_a Wire = refl

end_found : (driver : Driver) (text : List ℕ) (end : End) → end_of driver text ≡ Some end → has_end driver end ≡ true
end_found Echo text end is = a_is_there Echo text end is
end_found Line text end is = a_is_there Line text end is
end_found Wire text end is = a_is_there Wire text end is
end_found Loop text end is = refl

-- the stream that a name has is there, and has this driver
abbrev IsFound : Streams → ℕ × Driver → Type 0
IsFound streams found = (entry : List ℕ × Setup) × (slice_get streams found.0 ≡ Some entry) × (entry.1.driver ≡ found.1)

pub stream_found : (streams : Streams) (text : List ℕ) (found : ℕ × Driver) → stream_at streams text ≡ Some found → IsFound streams found
stream_found streams text found is =
    on (name_of LONGEST text) (λ wanted. stream_of streams wanted) found is (λ wanted _ is.
    on (position (bytes_eq wanted) (stream_names streams)) _ found is (λ number _ is.
    on (slice_get streams number) _ found is (λ entry there is.
    same_found (IsFound streams) (number, entry.1.driver) found is (entry, there, refl))))

end_there : (streams : Streams) (found : ℕ × Driver) (end : End) → IsFound streams found → has_end found.1 end ≡ true → end_is_there (slice_get streams found.0) end ≡ true
end_there streams found end is has = ap (λ o. end_is_there o end) is.1 ∙ ap (λ driver. has_end driver end) is.2 ∙ has

pub line_there : (streams : Streams) (found : ℕ × Driver) → IsFound streams found → is_line found.1 ≡ true → line_is_there (slice_get streams found.0) ≡ true
line_there streams found is line = ap (λ o. line_is_there o) is.1 ∙ ap (λ driver. is_line driver) is.2 ∙ line

abbrev IsThere : Streams → ℕ × End → Type 0
IsThere streams place = end_is_there (slice_get streams place.0) place.1 ≡ true

target_there : (streams : Streams) (text : List ℕ) (place : ℕ × End) → target_of streams text ≡ Some place → IsThere streams place
target_there streams text place is =
    on (halves_of 58 text) _ place is (λ halves _ is.
    on (stream_at streams halves.0) _ place is (λ found there is.
    on (end_of found.1 halves.1) _ place is (λ end named is.
    same_found (IsThere streams) (found.0, end) place is (end_there streams found end (stream_found streams halves.0 found there) (end_found found.1 halves.1 end named)))))

abbrev IsCallThere : {K : Type 0} → Streams → Call K → Type 0
IsCallThere streams call = end_is_there (slice_get streams call.stream) call.end ≡ true

placed_there : {K : Type 0} (words : KindWords K) (streams : Streams) (serial : ℕ) (verb : Verb) (target : List ℕ) (texts : List (List ℕ)) (call : Call K) → placed_call words streams serial verb target texts ≡ Ok call → IsCallThere streams call
placed_there words streams serial verb target texts call is =
    through (or_fault causes.NoSuch (target_of streams target)) _ call is (λ place found is.
    through (request_at words serial verb texts) _ call is (λ asked _ is.
    same (IsCallThere streams) (record { stream = place.0; end = place.1; asked = asked }) call is (target_there streams target place (found_in (target_of streams target) causes.NoSuch place found))))

-- the stream and the end of a call that was read are there
pub call_there : {K : Type 0} (words : KindWords K) (streams : Streams) (serial : ℕ) (verb : Verb) (texts : List (List ℕ)) (replies : Option (List (List ℕ))) (call : Call K) → call_at words streams serial verb texts replies ≡ Ok call → IsCallThere streams call
unfolding call_at
call_there words streams serial verb [] replies call is = absurd cc
call_there words streams serial verb (target ∷ texts) replies call is =
    through (arity_at words verb texts) _ call is (λ arity _ is.
    passed (are_choices replies && (length texts == arity)) (placed_call words streams serial verb target texts) call causes.Fields is (λ _ is.
    placed_there words streams serial verb target texts call is))

-- ---- one stream more

end_more : (streams : Streams) (stream : List ℕ × Setup) (number : ℕ) (end : End) → end_is_there (slice_get streams number) end ≡ true → end_is_there (slice_get (streams ++ stream ∷ []) number) end ≡ true
end_more [] stream number end is = absurd cc
end_more (first ∷ streams) stream zero end is = is
end_more (first ∷ streams) stream (suc number) end is = end_more streams stream number end is

line_more : (streams : Streams) (stream : List ℕ × Setup) (number : ℕ) → line_is_there (slice_get streams number) ≡ true → line_is_there (slice_get (streams ++ stream ∷ []) number) ≡ true
line_more [] stream number is = absurd cc
line_more (first ∷ streams) stream zero is = is
line_more (first ∷ streams) stream (suc number) is = line_more streams stream number is

pub calls_more : {K : Type 0} (streams : Streams) (stream : List ℕ × Setup) (calls : List (Call K)) → AreCallsThere streams calls → AreCallsThere (streams ++ stream ∷ []) calls
calls_more streams stream calls all = λ k d within. end_more streams stream (get_or calls k d).stream (get_or calls k d).end (all k d within)

pub processes_more : {K : Type 0} (streams : Streams) (stream : List ℕ × Setup) (processes : List (Process K)) → AreProcessesThere streams processes → AreProcessesThere (streams ++ stream ∷ []) processes
processes_more streams stream processes all = λ k d within. calls_more streams stream (get_or processes k d).calls (all k d within)

pub awaits_more : {K : Type 0} (streams : Streams) (stream : List ℕ × Setup) (process : Process K) → AreAwaits streams process → AreAwaits (streams ++ stream ∷ []) process
awaits_more streams stream process are = record {
  lines = λ k d within. line_more streams stream (get_or process.awaits k d).stream (are.lines k d within);
  order = are.order;
  calls = are.calls;
}

pub lines_more : (streams : Streams) (stream : List ℕ × Setup) (feeds : List Fed) → AreLinesThere streams feeds → AreLinesThere (streams ++ stream ∷ []) feeds
lines_more streams stream feeds all = λ k d within. line_more streams stream (get_or feeds k d).stream (all k d within)

-- ---- what goes on

pub place_more : {K : Type 0} (streams : Streams) (stream : List ℕ × Setup) (feeds : List Fed) (place : Place K) → IsPlaceThere streams feeds place → IsPlaceThere (streams ++ stream ∷ []) feeds place
place_more streams stream feeds Nowhere there = tt
place_more streams stream feeds (In_process process) there =
    (calls_more streams stream process.calls there.0, awaits_more streams stream process there.1)
place_more streams stream feeds (In_feed feed) there = (line_more streams stream feed.stream there.0, there.1)

-- ---- the awaits of a process

pub no_awaits : {K : Type 0} (streams : Streams) (process : Process K) → process.awaits ≡ [] → AreAwaits streams process
no_awaits streams process none = record {
  lines = rw none (All-nil (λ (one : Await). line_is_there (slice_get streams one.stream) ≡ true));
  order = rw none (λ i j d before within. absurd (omega (arith, within)));
  calls = rw none (All-nil (λ (one : Await). one.call ≤ length process.calls));
}

-- where there are more calls
pub awaits_stay : {K : Type 0} (streams : Streams) (process : Process K) (calls : List (Call K)) (expected : List Expect) → AreAwaits streams process → AreAwaits streams (record process { calls = process.calls ++ calls; expected = expected })
awaits_stay streams process calls expected are = record {
  lines = are.lines;
  order = are.order;
  calls = λ k d within. omega (arith, are.calls k d within, length-append process.calls calls);
}

-- one await more
pub await_more : {K : Type 0} (streams : Streams) (process : Process K) (stream : ℕ) → line_is_there (slice_get streams stream) ≡ true → AreAwaits streams process → AreAwaits streams (record process { awaits = process.awaits ++ await_of process stream ∷ [] })
await_more streams process stream there are =
    let new = await_of process stream in
    record {
      lines = All-push (λ (one : Await). line_is_there (slice_get streams one.stream) ≡ true) process.awaits new are.lines there;
      order = all_pairs_push (λ (one other : Await). one.call ≤ other.call) process.awaits new are.order are.calls;
      calls = All-push (λ (one : Await). one.call ≤ length process.calls) process.awaits new are.calls (omega arith);
    }

-- ---- the feed of a line

-- a line that has no feed
pub unfed : (feeds : List Fed) (number : ℕ) → has_feed feeds number ≡ false → IsUnfed feeds number
unfed [] number is = All-nil (λ (other : Fed). other.stream ≡ number → ⊥)
unfed (feed ∷ feeds) number is =
    let both = or_parts (feed.stream == number) (has_feed feeds number) is in
    All-cons (λ (other : Fed). other.stream ≡ number → ⊥) feed feeds (eqb-false feed.stream number both.0) (unfed feeds number both.1)

-- what is said of a line and its feed
pub both_of : (a b : Bool) → (a && not b) ≡ true → (a ≡ true) × (b ≡ false)
both_of true true is = absurd cc
both_of true false is = (refl, refl)
both_of false b is = absurd cc

-- one feed more
pub once_more : (feeds : List Fed) (feed : Fed) → AreOnce feeds → IsUnfed feeds feed.stream → AreOnce (feeds ++ feed ∷ [])
once_more feeds feed once first = all_pairs_push (λ (one other : Fed). one.stream ≡ other.stream → ⊥) feeds feed once (λ k d within. first k d within)
