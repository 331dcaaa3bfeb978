-- Histories whose calls are in turn, with one entry more.
use Rattle.std.proofs.Common.{◌≡◌, ℕ, zero, suc, ◌+◌, ◌<◌, ◌==◌, ◌++◌, Bool, true, false, if◌then◌else◌, ◌&&◌, Option, Some, None, List, [], ◌∷◌, All, length, take, slice_get, get_or, set, replicate, Result, Ok, Err, IsErrOf, refl, sym, ◌∙◌, ap, subst, arith}
use Rattle.std.specs.Prelude.{IfErr, IfOk, OnOk}
use Rattle.std.proofs.lemmas.List.{length-append, length-set, get_or-set_same, get_or-set_other, get_or-replicate, length-replicate, map-append}
use Rattle.std.proofs.lemmas.List.Elements.{All-push}
use Rattle.std.proofs.lemmas.Option.{same_Some}
use Rattle.std.proofs.lemmas.Bool.{eqb-true, eqb-false, lt-ltb, ltb-true, both_ways, and_parts}
use Rattle.strm_msg.specs.declared.words.End.{End}
use Rattle.strm_module.specs.Kinds.{Meaning}
use Rattle.strm_module.specs.declared.shape.Shape.{Shape}
use Rattle.strm_head_calls.specs.declared.answer.Answer.{Answer}
use Rattle.strm_head_calls.specs.declared.call.Call.{Call}
use Rattle.strm_head_calls.specs.declared.event.Event.{Event}
use Rattle.strm_head_calls.specs.declared.event.Event.TheVariants.{Asked}
use Rattle.strm_shared_entry.proofs.OwnLemmas.{other_step, own_step}
use Rattle.strm_shared_entry.specs.declared.entry.Who.TheVariants.{Caller, Line}
use Rattle.strm_shared_entry.specs.Entry.{Entry}
use Rattle.strm_shared_entry.specs.Entry.{is_caller, asked_of}
use Rattle.strm_shared.specs.declared.fault.EndFault.{EndFault}
use Rattle.strm_shared.specs.declared.fault.EndFault.TheVariants as EndFaults
use Rattle.strm_shared_entry.specs.declared.call.Called.{Called}
use Rattle.strm_shared_entry.specs.declared.call.Called.TheVariants.{Done, NoRoom}
use Rattle.strm_shared_entry.specs.Own.{own, calls_of}
use Rattle.strm_shared_entry.specs.Called.{has_receipt, is_done}
use Rattle.strm_shared_log.specs.Log.{LogValue, Enters, CallsBy}
use Rattle.strm_shared.specs.Seat.{SeatValue}
use Rattle.strm_shared_entry.specs.Own.{has_seat}
use Rattle.strm_shared.specs.Ending.{CountsAgree, Counted}
use Rattle.strm_shared.specs.CallCounts.{counted, has_count, is_next, turned, ArePrefixOf, AreInTurn, CallCountsValue}
use Rattle.strm_shared_ring.specs.StreamRunName.{IsNextOf}

-- ---- one entry more

-- the first elements, with one more
pub take_next : {A : Type 0} (all : List A) (count : ℕ) (one : A) → slice_get all count ≡ Some one → take (suc count) all ≡ take count all ++ one ∷ []
take_next [] count one at = absurd cc
take_next (first ∷ rest) zero one at = ap (λ x. x ∷ []) (same_Some _ _ at)
take_next (first ∷ rest) (suc count) one at = ap (λ l. first ∷ l) (take_next rest count one at)

-- one call more, the next one
pub first_more : {K : Type 0} (calls : Option (List (End × Event (Shape K)))) (made : List (Entry K)) (entry : Entry K) → ArePrefixOf calls made → IsNextOf calls (length made) (asked_of entry) → ArePrefixOf calls (made ++ entry ∷ [])
first_more None made entry first next = tt
first_more (Some calls) made entry first next =
    let len : length (made ++ entry ∷ []) ≡ suc (length made) = length-append made (entry ∷ []) ∙ (let l : length made + 1 ≡ suc (length made) = omega arith in l) in
    map-append asked_of made (entry ∷ []) ∙ ap (λ l. l ++ asked_of entry ∷ []) first ∙ sym (take_next calls (length made) (asked_of entry) next) ∙ ap (λ n. take n calls) (sym len)

-- a step of the line: no caller has one more
pub line_in_turn : {K : Type 0} (calls : ℕ → Option (List (End × Event (Shape K)))) (counts : List ℕ) (history longer : List (Entry K)) (entry : Entry K) → longer ≡ history ++ entry ∷ [] → entry.who ≡ Line → AreInTurn calls counts history → AreInTurn calls counts longer
line_in_turn calls counts history longer entry is line was =
    let none : (caller : ℕ) → own caller longer ≡ own caller history = λ caller. other_step caller history longer entry is (ap (λ w. is_caller caller w) line) in
    record {
      counts_are = λ caller below. was.counts_are caller below ∙ ap (λ l. length l) (sym (none caller));
      seated = subst (λ l. All (λ e. has_seat (length counts) e.who ≡ true) l) (sym is) (All-push (λ e. has_seat (length counts) e.who ≡ true) history entry was.seated (ap (λ w. has_seat (length counts) w) line));
      first = λ caller. subst (λ l. ArePrefixOf (calls caller) l) (sym (none caller)) (was.first caller);
    }

-- a call in its turn: its caller has one more
module _ {K : Type 0} (calls : ℕ → Option (List (End × Event (Shape K)))) (counts : List ℕ) (history longer : List (Entry K)) (entry : Entry K) (who count : ℕ) (is : longer ≡ history ++ entry ∷ []) (by : entry.who ≡ Caller who) (within : who < length counts) (has : get_or counts who 0 ≡ count) (next : IsNextOf (calls who) count (asked_of entry)) (was : AreInTurn calls counts history) where
  abbrev more : List ℕ
  more = set counts who (count + 1)

  counts_more : (caller : ℕ) (b : Bool) → (who == caller) ≡ b → caller < length counts → get_or more caller 0 ≡ calls_of caller longer
  counts_more caller true same below =
      let at : who ≡ caller = eqb-true who caller same in
      let len : length (own caller longer) ≡ length (own caller history) + 1 = ap (λ l. length l) (own_step caller history longer entry is (ap (λ w. is_caller caller w) by ∙ same)) ∙ length-append _ _ in
      let now : get_or more caller 0 ≡ count + 1 = subst (λ (n : ℕ). get_or more n 0 ≡ count + 1) at (get_or-set_same counts who (count + 1) 0 within) in
      let before : length (own caller history) ≡ count = sym (was.counts_are caller below) ∙ ap (λ (n : ℕ). get_or counts n 0) (sym at) ∙ has in
      now ∙ ap (λ (n : ℕ). n + 1) (sym before) ∙ sym len
  counts_more caller false other below =
      get_or-set_other counts who caller (count + 1) 0 (λ same. eqb-false who caller other (sym same)) ∙ was.counts_are caller below ∙ ap (λ l. length l) (sym (other_step caller history longer entry is (ap (λ w. is_caller caller w) by ∙ other)))

  first_now : (caller : ℕ) (b : Bool) → (who == caller) ≡ b → ArePrefixOf (calls caller) (own caller longer)
  first_now caller true same =
      let at : who ≡ caller = eqb-true who caller same in
      let before : length (own caller history) ≡ count = subst (λ (n : ℕ). length (own n history) ≡ count) at (sym (was.counts_are who within) ∙ has) in
      subst (λ l. ArePrefixOf (calls caller) l) (sym (own_step caller history longer entry is (ap (λ w. is_caller caller w) by ∙ same)))
      (first_more (calls caller) (own caller history) entry (was.first caller) (subst (λ (n : ℕ). IsNextOf (calls caller) n (asked_of entry)) (sym before) (subst (λ (n : ℕ). IsNextOf (calls n) count (asked_of entry)) at next)))
  first_now caller false other =
      subst (λ l. ArePrefixOf (calls caller) l) (sym (other_step caller history longer entry is (ap (λ w. is_caller caller w) by ∙ other))) (was.first caller)

  pub call_in_turn : AreInTurn calls more longer
  call_in_turn = record {
    counts_are = λ caller below. counts_more caller (who == caller) refl (subst (λ (n : ℕ). caller < n) (length-set counts who (count + 1)) below);
    seated =
        let sits : has_seat (length counts) entry.who ≡ true = ap (λ w. has_seat (length counts) w) by ∙ lt-ltb who (length counts) within in
        subst (λ (n : ℕ). All (λ e. has_seat n e.who ≡ true) longer) (sym (length-set counts who (count + 1))) (subst (λ l. All (λ e. has_seat (length counts) e.who ≡ true) l) (sym is) (All-push (λ e. has_seat (length counts) e.who ≡ true) history entry was.seated sits));
    first = λ caller. first_now caller (who == caller) refl;
  }

-- ---- before the first step

-- before the first step
none_first : {K : Type 0} (calls : Option (List (End × Event (Shape K)))) → ArePrefixOf calls []
none_first None = tt
none_first (Some calls) = refl

pub none_in_turn : {K : Type 0} (calls : ℕ → Option (List (End × Event (Shape K)))) (callers : ℕ) → AreInTurn calls (replicate callers 0) []
none_in_turn calls callers = record {
  counts_are = λ caller below. get_or-replicate callers caller 0 0 (subst (λ (n : ℕ). caller < n) (length-replicate callers 0) below);
  seated = λ i d below. absurd (omega arith);
  first = λ caller. none_first (calls caller);
}

-- ---- a call that is counted

-- a call that was made is counted, by what its seat counts after it
pub counted_is : (number : ℕ) (seat after : SeatValue) (shown : Bool) (turns new : CallCountsValue) (next : Bool) → next ≡ is_next number seat turns.counts → after ≡ record seat { calls = seat.calls + 1; shown = shown } → new ≡ (if next then record { counts = set turns.counts after.caller after.calls; in_turn = turns.in_turn } else record { counts = turns.counts; in_turn = false }) → new ≡ counted number seat turns
counted_is number seat after shown turns new next same counts is =
    is ∙ (λ i. if same i then record { counts = set turns.counts (counts i).caller (counts i).calls; in_turn = turns.in_turn } else record { counts = turns.counts; in_turn = false })

-- a call that was not made is not counted
pub none_turned : {P K A : Type 0} (number : ℕ) (seat : SeatValue) (result : Called P K A) (turns : CallCountsValue) → false ≡ is_done result → turns ≡ turned number seat result turns
none_turned number seat (Done answer back receipt) turns none = absurd cc
none_turned number seat (NoRoom same) turns none = refl

-- the seat of a call that is next sits on this stream, and has the count of its caller
is_next_is : (number : ℕ) (seat : SeatValue) (counts : List ℕ) → is_next number seat counts ≡ true → (seat.number ≡ number) × (seat.caller < length counts) × (get_or counts seat.caller 0 ≡ seat.calls)
is_next_is number seat counts is =
    let here = and_parts _ _ is in
    let has = and_parts _ _ here.1 in
    (eqb-true seat.number number here.0, ltb-true seat.caller (length counts) has.0, eqb-true _ seat.calls has.1)

-- for kinds of any meaning
module _ {K : Type 0} (means : Meaning K) (calls : ℕ → ℕ → Option (List (End × Event (Shape K)))) (number : ℕ) where
  -- an entry of a call has the caller, the end and the call
  next_of : (old new : LogValue K) (seat : SeatValue) (call : Call (Shape K)) (answer : Answer) (enters : Enters means old (Caller seat.caller) call.end (Asked call.request) answer new) → IsNextOf (calls seat.number seat.caller) seat.calls (call.end, Asked call.request) → IsNextOf (calls seat.number seat.caller) seat.calls (asked_of enters.entry)
  next_of old new seat call answer enters next = subst (λ asked. IsNextOf (calls seat.number seat.caller) seat.calls asked) (λ i. (sym enters.at i, sym enters.has i)) next

  -- a call that was made keeps the calls in turn
  done_in_turn : (old new : LogValue K) (seat : SeatValue) (call : Call (Shape K)) (answer : Answer) (turns after : CallCountsValue) (b : Bool) → is_next number seat turns.counts ≡ b → Enters means old (Caller seat.caller) call.end (Asked call.request) answer new → after ≡ (if b then record { counts = set turns.counts seat.caller (seat.calls + 1); in_turn = turns.in_turn } else record { counts = turns.counts; in_turn = false }) → IsNextOf (calls seat.number seat.caller) seat.calls (call.end, Asked call.request) → (turns.in_turn ≡ true → AreInTurn (calls number) turns.counts old.history) → after.in_turn ≡ true → AreInTurn (calls number) after.counts new.history
  done_in_turn old new seat call answer turns after true next enters is one was so =
      let sits = is_next_is number seat turns.counts next in
      let more : AreInTurn (calls number) (set turns.counts seat.caller (seat.calls + 1)) new.history =
      call_in_turn (calls number) turns.counts old.history new.history enters.entry seat.caller seat.calls enters.history enters.by sits.1 sits.2 (subst (λ n. IsNextOf (calls n seat.caller) seat.calls (asked_of enters.entry)) sits.0 (next_of old new seat call answer enters one)) (was (sym (ap (λ t. t.in_turn) is) ∙ so)) in
      subst (λ l. AreInTurn (calls number) l new.history) (sym (ap (λ t. t.counts) is)) more
  done_in_turn old new seat call answer turns after false next enters is one was so = absurd (both_ways after.in_turn (ap (λ t. t.in_turn) is) so)

  pub call_keeps : {A : Type 0} (Agrees : A → Answer → Type 0) (old new : LogValue K) (seat : SeatValue) (call : Call (Shape K)) (result : Called (Shape K) K A) (turns after : CallCountsValue) → CallsBy means Agrees old seat.caller (seat.calls + 1) call result new → after ≡ turned number seat result turns → IsNextOf (calls seat.number seat.caller) seat.calls (call.end, Asked call.request) → (turns.in_turn ≡ true → AreInTurn (calls number) turns.counts old.history) → after.in_turn ≡ true → AreInTurn (calls number) after.counts new.history
  call_keeps Agrees old new seat call (Done has back receipt) turns after by is one was so =
      done_in_turn old new seat call by.0 turns after (is_next number seat turns.counts) refl by.2.enters is one was so
  call_keeps Agrees old new seat call (NoRoom same) turns after by is one was so =
      subst (λ (l : List (Entry K)). AreInTurn (calls number) after.counts l) (sym by.1.history) (subst (λ (t : CallCountsValue). AreInTurn (calls number) t.counts old.history) (sym is) (was (sym (ap (λ t. t.in_turn) is) ∙ so)))

-- ---- counts and seats

-- a call that was made, or not, is counted in the turns as the seat counts it
pub done_turned : {P K A : Type 0} (number : ℕ) (seat after : SeatValue) (shown : Bool) (result : Called P K A) (turns new : CallCountsValue) (next : Bool) → true ≡ is_done result → next ≡ is_next number seat turns.counts → after ≡ record seat { calls = seat.calls + 1; shown = shown } → new ≡ (if next then record { counts = set turns.counts after.caller after.calls; in_turn = turns.in_turn } else record { counts = turns.counts; in_turn = false }) → new ≡ turned number seat result turns
done_turned number seat after shown (Done answer back receipt) turns new next done same counts is = counted_is number seat after shown turns new next same counts is
done_turned number seat after shown (NoRoom again) turns new next done same counts is = absurd cc

-- so does the seat
pub done_counted : {P K A : Type 0} (call : Call P) (seat after : SeatValue) (result : Called P K A) → true ≡ is_done result → after ≡ record seat { calls = seat.calls + 1; shown = seat.shown && has_receipt result } → Counted call seat result after
done_counted call seat after (Done answer back receipt) done counts = counts
done_counted call seat after (NoRoom same) done counts = absurd cc

pub none_counted : {P K A : Type 0} (call : Call P) (seat : SeatValue) (result : Called P K A) → false ≡ is_done result → Counted call seat result seat
none_counted call seat (Done answer back receipt) none = absurd cc
none_counted call seat (NoRoom same) none = refl

-- the seat that was next has a count
pub next_within : (number : ℕ) (seat after : SeatValue) (shown : Bool) (counts : List ℕ) → after ≡ record seat { calls = seat.calls + 1; shown = shown } → is_next number seat counts ≡ true → after.caller < length counts
next_within number seat after shown counts is next = subst (λ (s : SeatValue). s.caller < length counts) (sym is) (is_next_is number seat counts next).1

-- seats that have the counts of their callers count their calls
pub counts_agree : {K : Type 0} (calls : ℕ → Option (List (End × Event (Shape K)))) (counts : List ℕ) (history : List (Entry K)) (seats : List SeatValue) → AreInTurn calls counts history → All (λ s. has_count s counts ≡ true) seats → CountsAgree history seats
counts_agree calls counts history seats are all i d below =
    let s = get_or seats i d in
    let has = and_parts _ _ (all i d below) in
    sym (are.counts_are s.caller (ltb-true s.caller (length counts) has.0)) ∙ eqb-true _ s.calls has.1

-- ---- results

-- a fault told by one function is that of another
pub same_fault : {S T E : Type 0} (fault other : E) → IsErrOf {T = S} (Err fault) other → IsErrOf {T = T} (Err fault) other
same_fault fault other h = cc

-- what holds of a result follows from what is known of it
pub if_ok_more : {T E : Type 0} (P Q : T → Type 0) (result : Result T E) → ((t : T) → P t → Q t) → IfOk result P → IfOk result Q
if_ok_more P Q (Ok t) step known = step t known
if_ok_more P Q (Err fault) step known = tt

pub on_ok : {T E P : Type 0} (result : Result T E) → P → OnOk result P
on_ok (Ok t) holds = holds
on_ok (Err fault) holds = tt

-- a result that is refused when memory runs out alone is refused for nothing else
pub no_memory_seats : {T C : Type 0} (result : Result T EndFault) → IfErr result (λ fault. fault ≡ EndFaults.NoMem) → IsErrOf result EndFaults.Seats → C
no_memory_seats (Ok t) known is = absurd cc
no_memory_seats (Err fault) known is = absurd cc

pub no_memory_receipt : {T C : Type 0} (result : Result T EndFault) → IfErr result (λ fault. fault ≡ EndFaults.NoMem) → IsErrOf result EndFaults.NoReceipt → C
no_memory_receipt (Ok t) known is = absurd cc
no_memory_receipt (Err fault) known is = absurd cc
