-- One call more, with its receipt.
use Rattle.std.proofs.Common.{◌≡◌, suc, ◌+◌, ◌<◌, ◌≤◌, ◌^◌, ◌++◌, ◌&&◌, true, None, Some, List, [], ◌∷◌, Option, Result, Ok, Err, OnOk, length, map, take, slice_get, append-nil, append_assoc, sym, ◌∙◌, ap, subst, arith}
use Rattle.std.specs.Prelude.{is_some, Box, IfSome, OnErr}
use Rattle.std.specs.Global.{Global}
use Rattle.std.specs.Option.{option_to_list}
use Rattle.std.proofs.lemmas.List.{map-append, length-append}
use Rattle.strm_msg.specs.Message.{Msg}
use Rattle.strm_link.specs.Link.{fresh, out_of, after_of}
use Rattle.strm_link.specs.Subsequence.{IsSubsequence}
use Rattle.std.proofs.lemmas.Bool.{and_parts}
use Rattle.strm_shared.proofs.TurnLemmas.{take_next}
use Rattle.strm_module.specs.declared.shape.Shape.{Shape}
use Rattle.strm_head_calls.specs.declared.call.Call.{Call}
use Rattle.strm_head_calls.specs.declared.event.Event.TheVariants.{Asked}
use Rattle.strm_shared_entry.specs.Entry.{Entry}
use Rattle.strm_shared_entry.specs.Entry.{asked_of}
use Rattle.strm_shared_entry.specs.Receipt.{ReceiptValue}
use Rattle.strm_shared.specs.Seat.{SeatValue}
use Rattle.strm_shared.specs.Ending.{IsReceiptOf}
use Rattle.strm_run_callers.specs.Account.{fresh_account, AccountValue, HasReceipts}
use Rattle.strm_run_callers.specs.RunName.{RunValue}
use Rattle.strm_run_input.specs.Scripts.{calls_on, script_of, link_from, link_to}
use Rattle.strm_shared_entry.specs.Taken.{taken_by, taken}
use Rattle.strm_run_callers.specs.Carrying.{carrier_in, passed_on, CarrierValue, CarriesAll, CarriesOn, IsFreshCarrier}
use Rattle.strm_run_callers.proofs.CarryLemmas.{after_append, out_append, out_bound}

-- the entries that receipts show, with that of the next call of the caller's script
pub receipts_more : {K : Type 0} (run : RunValue K) (seat after : SeatValue) (call : Call (Shape K)) (back : List (Option (Shape K))) (entries longer : List (Entry K)) (receipt : ReceiptValue K) → after ≡ record seat { calls = seat.calls + 1; shown = seat.shown && is_some (Some receipt) } → IsReceiptOf seat call back receipt → slice_get (calls_on seat.number (script_of run.scripts seat.caller)) seat.calls ≡ Some (call.end, Asked call.request) → HasReceipts run seat entries → longer ≡ entries ++ receipt.entry ∷ [] → HasReceipts run after longer
receipts_more {K} run seat after call back entries longer receipt is of next was more = λ shown.
    let all = calls_on seat.number (script_of run.scripts seat.caller) in
    let had = was (and_parts seat.shown true (sym (ap (λ (s : SeatValue). s.shown) is) ∙ shown)).0 in
    let n : seat.calls + 1 ≡ suc seat.calls = omega arith in
    subst (λ (s : SeatValue). map asked_of longer ≡ take s.calls (calls_on s.number (script_of run.scripts s.caller))) (sym is)
    (ap (λ l. map asked_of l) more
    ∙ map-append asked_of entries (receipt.entry ∷ [])
    ∙ ap (λ l. l ++ asked_of receipt.entry ∷ []) had
    ∙ ap (λ x. take seat.calls all ++ x ∷ []) of.asked
    ∙ sym (take_next all seat.calls (call.end, Asked call.request) next)
    ∙ ap (λ m. take m all) (sym n))

-- one account more, from which no call was made
pub accounts_more : {K : Type 0} (seats : List SeatValue) (seat : SeatValue) (accounts longer : List (AccountValue K)) (one : AccountValue K) → accounts ≡ map fresh_account seats → one ≡ fresh_account seat → longer ≡ accounts ++ one ∷ [] → longer ≡ map fresh_account (seats ++ seat ∷ [])
accounts_more {K} seats seat accounts longer one were is more =
    more
    ∙ ap (λ (l : List (AccountValue K)). l ++ one ∷ []) were
    ∙ ap (λ (a : AccountValue K). map fresh_account seats ++ a ∷ []) is
    ∙ sym (map-append (fresh_account {K = K}) seats (seat ∷ []))

-- the next call of an account that is the same
pub next_same : {K : Type 0} (run : RunValue K) (account same : AccountValue K) (call : Call (Shape K)) → account ≡ same → slice_get (calls_on same.seat.number (script_of run.scripts same.seat.caller)) same.seat.calls ≡ Some (call.end, Asked call.request) → slice_get (calls_on account.seat.number (script_of run.scripts account.seat.caller)) account.seat.calls ≡ Some (call.end, Asked call.request)
next_same {K} run account same call is next =
    subst (λ (a : AccountValue K). slice_get (calls_on a.seat.number (script_of run.scripts a.seat.caller)) a.seat.calls ≡ Some (call.end, Asked call.request)) (sym is) next

-- ---- the link on which the caller carries

-- what one more call has taken stands behind what those before it have
taken_more : {K : Type 0} (entries : List (Entry K)) (entry : Entry K) → taken (entries ++ entry ∷ []) ≡ taken entries ++ option_to_list (taken_by entry.event entry.answer)
taken_more [] entry = append-nil (option_to_list (taken_by entry.event entry.answer))
taken_more (first ∷ rest) entry =
    ap (λ l. option_to_list (taken_by first.event first.answer) ++ l) (taken_more rest entry)
    ∙ sym (append_assoc (option_to_list (taken_by first.event first.answer)) (taken rest) (option_to_list (taken_by entry.event entry.answer)))

-- each call has taken at most one message
one_taken : (m : Option Msg) → length (option_to_list m) ≤ 1
one_taken None = omega arith
one_taken (Some m) = omega arith

taken_few : {K : Type 0} (entries : List (Entry K)) → length (taken entries) ≤ length entries
taken_few [] = omega arith
taken_few (entry ∷ rest) =
    omega (arith, length-append (option_to_list (taken_by entry.event entry.answer)) (taken rest), one_taken (taken_by entry.event entry.answer), taken_few rest)

-- so the messages that came back can be counted
overrun_few : {K : Type 0} (run : RunValue K) (seat : SeatValue) (entries : List (Entry K)) (carrier : Option CarrierValue) → CarriesAll run seat entries carrier → length entries + 1 < 2 ^ 63 → IfSome carrier (λ c. c.overrun + 3 < 2 ^ 64)
overrun_few run seat entries None was few = tt
overrun_few run seat entries (Some carrier) was few =
    omega (arith, was.given.all, out_bound (fresh was.of.rule) (taken entries), taken_few entries, few)

-- the same of a link in its box
pub overrun_boxed : {K : Type 0} (run : RunValue K) (seat : SeatValue) (entries : List (Entry K)) (carrier : Option (Box CarrierValue Global)) → CarriesAll run seat entries (carrier_in carrier) → length entries + 1 < 2 ^ 63 → IfSome carrier (λ b. b.value.overrun + 3 < 2 ^ 64)
overrun_boxed run seat entries None was few = tt
overrun_boxed run seat entries (Some b) was few = overrun_few run seat entries (Some b.value) was few

-- where nothing has gone over a link, no call was made
pub carries_none : {K : Type 0} (run : RunValue K) (seat : SeatValue) (carrier : Option CarrierValue) → IfSome carrier (λ c. IsFreshCarrier run seat.caller seat.number c) → CarriesAll run seat [] carrier
carries_none run seat None is = tt
carries_none run seat (Some carrier) is = record {
  of = is.of;
  from = is.from;
  leads = is.leads;
  passed = is.link;
  given = record { part = is.none; all = ap (λ (l : List Msg). length l + carrier.overrun) is.none ∙ ap (λ n. 0 + n) is.overrun };
}

-- a seat of the same caller on the same stream
pub carries_same : {K : Type 0} (run : RunValue K) (seat after : SeatValue) (entries : List (Entry K)) (carrier : Option CarrierValue) → after.caller ≡ seat.caller → after.number ≡ seat.number → CarriesAll run seat entries carrier → CarriesAll run after entries carrier
carries_same run seat after entries None caller number was = tt
carries_same run seat after entries (Some carrier) caller number was = record {
  of = was.of;
  from = ap (λ n. link_from run.links n after.number) caller ∙ ap (λ n. link_from run.links seat.caller n) number ∙ was.from;
  leads = was.leads;
  passed = was.passed;
  given = was.given;
}

-- one call more, of which what it has taken went over the link
carries_more : {K : Type 0} (run : RunValue K) (seat after : SeatValue) (entries longer : List (Entry K)) (entry : Entry K) (old new : Option CarrierValue) → after.caller ≡ seat.caller → after.number ≡ seat.number → longer ≡ entries ++ entry ∷ [] → CarriesAll run seat entries old → CarriesOn old (option_to_list (taken_by entry.event entry.answer)) new → CarriesAll run after longer new
carries_more run seat after entries longer entry None None caller number more was on = tt
carries_more run seat after entries longer entry None (Some new) caller number more was on = absurd on
carries_more run seat after entries longer entry (Some old) None caller number more was on = absurd on
carries_more {K} run seat after entries longer entry (Some old) (Some new) caller number more was on =
    let m = option_to_list (taken_by entry.event entry.answer) in
    let start = fresh was.of.rule in
    let all : taken longer ≡ taken entries ++ m = ap (λ (l : List (Entry K)). taken l) more ∙ taken_more entries entry in
    let out : passed_on was.of longer ≡ passed_on was.of entries ++ out_of old.link m =
    ap (λ l. out_of start l) all ∙ out_append start (taken entries) m ∙ ap (λ l. passed_on was.of entries ++ out_of l m) (sym was.passed) in
    let number_is = on.offered.number in
    record {
      of = was.of;
      from = ap (λ n. link_from run.links n after.number) caller ∙ ap (λ n. link_from run.links seat.caller n) number ∙ was.from;
      leads = subst (λ n. link_to run.links n ≡ Some was.of) (sym number_is) was.leads;
      passed = on.link ∙ ap (λ l. after_of l m) was.passed ∙ sym (after_append start (taken entries) m) ∙ sym (ap (λ l. after_of start l) all);
      given = record {
        part = subst (λ l. IsSubsequence new.feed.accepted l) (sym out) (on.offered.part (passed_on was.of entries) was.given.part);
        all = on.offered.all ∙ ap (λ n. n + length (out_of old.link m)) was.given.all ∙ sym (length-append (passed_on was.of entries) (out_of old.link m)) ∙ sym (ap (λ l. length l) out);
      };
    }

-- so it is where that did not fail, and else there is no link any more
pub carries_on : {K T E : Type 0} (run : RunValue K) (seat after : SeatValue) (entries longer : List (Entry K)) (entry : Entry K) (old new : Option (Box CarrierValue Global)) (result : Result T E) → after.caller ≡ seat.caller → after.number ≡ seat.number → longer ≡ entries ++ entry ∷ [] → CarriesAll run seat entries (carrier_in old) → OnOk result (CarriesOn (carrier_in old) (option_to_list (taken_by entry.event entry.answer)) (carrier_in new)) → OnErr result (new ≡ None) → CarriesAll run after longer (carrier_in new)
carries_on run seat after entries longer entry old new (Ok x) caller number more was on none =
    carries_more run seat after entries longer entry (carrier_in old) (carrier_in new) caller number more was on
carries_on run seat after entries longer entry old new (Err e) caller number more was on none =
    subst (λ (c : Option (Box CarrierValue Global)). CarriesAll run after longer (carrier_in c)) (sym none) tt
