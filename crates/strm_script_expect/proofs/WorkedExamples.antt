-- Expected replies of a process, computed: its calls on two streams, and those replies that were not met.
use Rattle.std.proofs.Common.{◌≡◌, ℕ, List, [], ◌∷◌, ◌++◌, codes, Some, None, refl}
use Rattle.std.specs.Fmt.{decimal}
use Rattle.strm_msg.specs.declared.words.End.TheVariants.{A}
use Rattle.strm_module.specs.declared.kind.Kind.{Kind}
use Rattle.strm_head_calls.specs.declared.answer.Answer.{Answer}
use Rattle.strm_head_calls.specs.declared.answer.Answer.TheVariants.{Refused, Broke}
use Rattle.strm_head_calls.specs.declared.event.Event.TheVariants.{Asked}
use Rattle.strm_head_calls.specs.declared.refusal.Refusal.TheVariants.{Closed, WouldWait}
use Rattle.strm_head_calls.specs.declared.request.Request.TheVariants as requests
use Rattle.strm_shared_entry.specs.declared.entry.Who.TheVariants.{Caller}
use Rattle.strm_shared_entry.specs.Entry.{Entry, bare_entry}
use Rattle.strm_script_parse.specs.Plan.{Expect}
use Rattle.strm_script_expect.specs.Unmet.{MissedValue, entry_at, missed_text, unmet_of_process}

-- the entry of a call with this answer
abbrev answered : Answer → Entry Kind
answered answer = bare_entry (Caller 0) A (Asked requests.Nread) answer

-- the process's entries on each of two streams
abbrev owned : List (List (Entry Kind))
owned = (answered (Refused Closed) ∷ answered (Refused WouldWait) ∷ []) ∷ (answered Broke ∷ []) ∷ []

-- its calls are on the first stream, the second and the first
abbrev streams : List ℕ
streams = 0 ∷ 1 ∷ 0 ∷ []

third_call : entry_at owned streams 2 ≡ Some (answered (Refused WouldWait))
third_call = refl

no_fourth_call : entry_at owned streams 3 ≡ None
no_fourth_call = refl

-- what line 5 expects of the third call
abbrev third : List (List ℕ) → Expect
third choices = record { call = 2; line = 5; choices = choices }

abbrev missed : List (List ℕ) → MissedValue
missed choices = record { expected = third choices; was = codes " EAGAIN" }

one_of_two_is_met : unmet_of_process owned (record { streams = streams; expected = record { call = 1; line = 4; choices = codes " ENOSR broke" ∷ [] } ∷ third (codes " 1" ∷ []) ∷ [] }) ≡ missed (codes " 1" ∷ []) ∷ []
one_of_two_is_met = refl

a_choice_is_met : unmet_of_process owned (record { streams = streams; expected = third (codes " 1" ∷ codes " EAGAIN" ∷ []) ∷ [] }) ≡ []
a_choice_is_met = refl

its_beginning_is_none : unmet_of_process owned (record { streams = streams; expected = third (codes " EAGAIN now" ∷ codes " EAGAI" ∷ []) ∷ [] }) ≡ missed (codes " EAGAIN now" ∷ codes " EAGAI" ∷ []) ∷ []
its_beginning_is_none = refl

text_of_one : missed_text (missed (codes " 1" ∷ codes " 2" ∷ [])) ≡ codes "line " ++ decimal 5 ++ codes ": expected" ++ codes " 1 | 2" ++ codes ", was" ++ codes " EAGAIN"
text_of_one = refl
