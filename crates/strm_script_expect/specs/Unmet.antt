-- The replies that a script expected and that were not met.
use denote.Ref.{Bor}
use Rattle.std.specs.Prelude.{◌≡◌, ℕ, ◌+◌, ◌<◌, ◌==◌, Bool, Option, Some, None, List, [], ◌∷◌, ◌++◌, Vec, codes, count_by, get_or, length, map, slice_get, take, if◌then◌else◌}
use Rattle.std.specs.Global.{Global}
use Rattle.std.specs.List.{flat_map, list_any}
use Rattle.std.specs.Fmt.{decimal}
use Rattle.std.specs.Str.{bytes_eq}
use Rattle.strm_shared_entry.specs.Entry.{Entry}
use Rattle.strm_shared_entry.specs.Own.{own}
use Rattle.strm_shared_entry.specs.declared.transcript.StreamLog.{StreamLog}
use Rattle.strm_script_parse.specs.Plan.{Expect, expected_view}
use Rattle.strm_script_parse.specs.RunInput.{RepliesValue}
use Rattle.strm_script_print.specs.Lines.{said_text}
use Rattle.strm_script_expect.specs.declared.judging.Missed.{Missed}

-- ---- the entry of a call

-- the entries of a caller in the history of each stream
abbrev pub owned_by : {K : Type 0} → ℕ → List (StreamLog K) → List (List (Entry K))
owned_by caller logs = map (λ log. own caller log.history.items) logs

-- the number of a call on this stream among those of its process there, by the streams of the process's calls
abbrev pub number_on : ℕ → List ℕ → ℕ → ℕ
number_on stream streams call = count_by (λ other. other == stream) (take call streams)

-- the entry of a call, by its stream
abbrev pub entry_on : {K : Type 0} → List (List (Entry K)) → List ℕ → ℕ → Option ℕ → Option (Entry K)
entry_on owned streams call None = None
entry_on owned streams call (Some stream) = slice_get (get_or owned stream []) (number_on stream streams call)

-- the entry of a call of a process: the first call of the process on a stream has its first entry there, and
-- so on
abbrev pub entry_at : {K : Type 0} → List (List (Entry K)) → List ℕ → ℕ → Option (Entry K)
entry_at owned streams call = entry_on owned streams call (slice_get streams call)

-- ---- the replies that were not met

-- the reply that an entry has, as a transcript has it behind its `:`; no text if there is no entry
abbrev pub said_in : {K : Type 0} → Option (Entry K) → List ℕ
said_in None = []
said_in (Some entry) = said_text entry.answer

-- an expected reply that was not met, and the reply that there was
pub record MissedValue : Type 0 where
  pub expected : Expect
  pub was : List ℕ

-- an expected reply is not met by this one, which is none of its choices
abbrev pub unmet_by : List ℕ → Expect → List MissedValue
unmet_by was expected =
    if list_any (bytes_eq was) expected.choices then [] else record { expected = expected; was = was } ∷ []

-- those of a process, by its entries on each stream
abbrev pub unmet_of_process : {K : Type 0} → List (List (Entry K)) → RepliesValue → List MissedValue
unmet_of_process owned replies = flat_map (λ e. unmet_by (said_in (entry_at owned replies.streams e.call)) e) replies.expected

-- those of the processes from this one on
abbrev pub unmet_from : {K : Type 0} → List (StreamLog K) → ℕ → List RepliesValue → List MissedValue
unmet_from logs caller [] = []
unmet_from logs caller (replies ∷ others) = unmet_of_process (owned_by caller logs) replies ++ unmet_from logs (caller + 1) others

-- those of all processes
abbrev pub unmet_of : {K : Type 0} → List (StreamLog K) → List RepliesValue → List MissedValue
unmet_of logs all = unmet_from logs 0 all

-- ---- their texts

-- choices, each behind a bar
abbrev pub more_choices_text : List (List ℕ) → List ℕ
more_choices_text choices = flat_map (λ choice. codes " |" ++ choice) choices

-- choices, with a bar between two
abbrev pub choices_text : List (List ℕ) → List ℕ
choices_text [] = []
choices_text (choice ∷ choices) = choice ++ more_choices_text choices

-- the text of one: `line L: expected REPLY, was REPLY`
abbrev pub missed_text : MissedValue → List ℕ
missed_text missed =
    codes "line " ++ decimal missed.expected.line ++ codes ": expected" ++ choices_text missed.expected.choices ++ codes ", was" ++ missed.was

-- ---- the values of the code

-- one that was not met, without its layout in memory
abbrev pub missed_view : Missed → MissedValue
missed_view missed = record { expected = expected_view missed.expected; was = missed.was.items }

-- the entries to which references point (no public clause cites them)
abbrev pub seen : {K : Type 0} → List (Bor (Entry K)) → List (Entry K)
seen entries = map (λ entry. entry.now) entries

-- the same of several lists (no public clause cites them)
abbrev pub seen_all : {K : Type 0} → List (Vec (Bor (Entry K)) Global) → List (List (Entry K))
seen_all lists = map (λ list. seen list.items) lists

-- the number of each call on its stream, if that is one of the first `many` (no public clause cites it)
pub record AreNumbers (streams : List ℕ) (many : ℕ) (numbers : List ℕ) : Type 0 where
  pub as_many : length numbers ≡ length streams
  pub each : (call d : ℕ) → call < length streams → get_or streams call d < many → get_or numbers call d ≡ number_on (get_or streams call d) streams call
