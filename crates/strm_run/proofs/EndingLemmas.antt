-- Streams of a run, as they end.
use Rattle.std.proofs.Common.{◌≡◌, ℕ, zero, suc, ◌+◌, ◌<◌, ◌≤◌, ◌==◌, not, Bool, true, false, Option, Some, None, Result, Ok, Err, List, [], ◌∷◌, ◌++◌, All, length, get_or, map, set, slice_get, slice_set, take, inl, inr, IfErr, IfOk, Vec, Global, refl, sym, ◌∙◌, ap, subst, arith, below_more}
use Rattle.std.specs.Prelude.{nat_lt}
use Rattle.std.specs.Vec.{with_items}
use Rattle.std.proofs.lemmas.Bool.{eqb-true, eqb-false, ltb-true, ltb-false}
use Rattle.std.proofs.Math.Seq.{get_or-append_seam}
use Rattle.std.proofs.lemmas.List.Elements.{All-append, All-cons, All-map, All-nil, All-push, All-tail}
use Rattle.std.proofs.lemmas.List.{append-nil, append_assoc, map-append, take_all, length-append, length-map, length-set, length_push, get_or-map, get_or_default, get_or-set_same, get_or-set_other, get_or_append_left, get_or_push, with_items_is}
use Rattle.strm_msg.specs.Message.{Msg}
use Rattle.strm_module.specs.Kinds.{Meaning}
use Rattle.strm_module.specs.Driver.{is_line}
use Rattle.strm_head_calls.specs.declared.setup.Setup.{Setup}
use Rattle.strm_shared_entry.specs.Entry.{Entry}
use Rattle.strm_shared_log.specs.Opened.{opened}
use Rattle.strm_shared.specs.declared.fault.EndFault.{EndFault}
use Rattle.strm_shared_ended.specs.Ended.{AreFirstCalls, AreHeld, EndedValue}
use Rattle.strm_shared_entry.specs.Own.{own, calls_of, arrivals}
use Rattle.strm_shared_log.specs.History.{Legal}
use Rattle.strm_shared_log.specs.Serials.{AreAccounted}
use Rattle.strm_shared.specs.Seat.{SeatValue}
use Rattle.strm_shared_entry.specs.Entry.{asked_of}
use Rattle.strm_shared_ended.specs.declared.holding.Receipts.{Receipts}
use Rattle.strm_shared.specs.CallCounts.{ArePrefixOf}
use Rattle.strm_shared_ring.specs.Feed.{FeedValue, accepted_of}
use Rattle.strm_shared.specs.Ending.{SharedValue, AreSeats, AreShown, CountsAgree, is_fed}
use Rattle.strm_run_input.specs.declared.fault.RunFault.{RunFault}
use Rattle.strm_run_input.specs.declared.script.ScriptCall.{ScriptCall}
use Rattle.strm_shared_entry.specs.declared.transcript.StreamLog.{StreamLog}
use Rattle.strm_run_input.specs.Scripts.{calls_on, script_of, feed_of, link_to}
use Rattle.strm_run_input.specs.declared.run_link.RunLink.{RunLink}
use Rattle.strm_run_callers.specs.RunName.{RunValue}
use Rattle.strm_run_callers.specs.Transcript.{carried_on, history_at, offered_by, AreLogs, IsFed, IsLog}
use Rattle.strm_run_callers.specs.Carrying.{HasPassedOn}
use Rattle.strm_run_callers.specs.Feeding.{FeedResultValue}
use Rattle.strm_link.specs.Subsequence.{IsSubsequence}
use Rattle.strm_run_callers.specs.Account.{AccountValue}
use Rattle.strm_run_callers.specs.Play.{ArePlayed, AreStreams, HasPlayed}
use Rattle.strm_run.specs.Inside.Table.{IsTransposed}
use Rattle.strm_run.specs.Inside.Ending.{feed_of_result, overrun_of, seats_of, streams_of, AreLinesFed, AreLinesLinked, AreOf, AreParted, AreResults, AreSeatsPlayed}
use Rattle.strm_run.specs.Inside.Ending.{FinishedStreamValue, HasLeft, HasTaken, HaveLeft, HaveParts, HaveSameItems, HavePlayed, HoldsAccount, HoldsAccounts, AddsCarried, AreLinksThere, IsFinishedStream, IsLate, IsOfAccount, IsOfAccounts, IsResult, IsStream, Leaves}
use Rattle.strm_run_callers.proofs.ReachedLemmas.{reached_is, reached_there}
use Rattle.strm_run.proofs.LinkLemmas.{link_from_is}
use Rattle.strm_run.proofs.TableLemmas.{first, row_there}

-- ---- one stream: its calls and its feed

-- past the last caller there is no script
script_past : {P : Type 0} (scripts : List (List (ScriptCall P))) (caller : ℕ) → length scripts ≤ caller → script_of scripts caller ≡ []
script_past [] caller past = refl
script_past (script ∷ rest) zero past = absurd (omega arith)
script_past (script ∷ rest) (suc caller) past = script_past rest caller (omega arith)

-- a run's stream, at its end, with the seats of callers that have played their scripts
module _ {K : Type 0} (run : RunValue K) (shared : SharedValue) (seats : List SeatValue) (stream : IsStream run shared) (are : AreSeats shared.number shared.seats seats) (played : All (HasPlayed run shared.number) seats) where
  -- a caller has made as many calls as its script has there, or more
  calls_made : (history : List (Entry K)) (caller : ℕ) (b : Bool) → nat_lt caller (length run.scripts) ≡ b → CountsAgree history seats → length (calls_on shared.number (script_of run.scripts caller)) ≤ calls_of caller history
  calls_made history caller true below counts =
      let seat = are.each caller (subst (λ n. caller < n) (sym stream.callers) (ltb-true _ _ below)) in
      let counted = counts seat.0 seat.1 seat.2 in
      let has = (played seat.0 seat.1 seat.2).calls in
      let same : length (calls_on shared.number (script_of run.scripts (get_or seats seat.0 seat.1).caller)) ≡ calls_of (get_or seats seat.0 seat.1).caller history = sym (counted ∙ has) in
      let here : (get_or seats seat.0 seat.1).caller ≡ caller = ap (λ (s : SeatValue). s.caller) seat.3 ∙ seat.4 in
      let made = subst (λ n. length (calls_on shared.number (script_of run.scripts n)) ≡ calls_of n history) here same in
      omega arith
  calls_made history caller false past counts =
      let none : length (calls_on shared.number (script_of run.scripts caller)) ≡ 0 = ap (λ l. length (calls_on shared.number l)) (script_past run.scripts caller (ltb-false _ _ past)) in
      omega arith

  -- its calls are those of its script
  calls_all : (history : List (Entry K)) (caller : ℕ) → CountsAgree history seats → ArePrefixOf (Some (calls_on shared.number (script_of run.scripts caller))) (own caller history) → map asked_of (own caller history) ≡ calls_on shared.number (script_of run.scripts caller)
  calls_all history caller counts first =
      first ∙ take_all _ _ (calls_made history caller (nat_lt caller (length run.scripts)) refl counts)

-- what a stream leaves that ended: its log
pub log_left : {K : Type 0} (means : Meaning K) (run : RunValue K) (shared : SharedValue) (seats : List SeatValue) (receipts : List (Receipts K)) (overrun : ℕ) (ended : Result (EndedValue K) EndFault) (result : Result (StreamLog K) RunFault) → IsStream run shared → All (HasPlayed run shared.number) seats → Leaves ended receipts overrun result → IfOk ended (λ done. Legal means (opened shared.setup) done.history done.stream) → IfOk ended (λ done. AreAccounted (opened shared.setup) done.history done.stream) → IfOk ended (λ done. CountsAgree done.history seats) → IfOk ended (λ done. (caller : ℕ) → ArePrefixOf (Some (calls_on shared.number (script_of run.scripts caller))) (own caller done.history)) → IfOk ended (λ done. AreSeats shared.number shared.seats seats) → IfOk result (λ log. IsLog means run shared.number shared.setup log)
log_left means run shared seats receipts overrun (Ok done) (Ok log) stream played leaves legal accounts counts first are =
    let is = leaves.0 in
    record {
      legal = record {
        after = done.stream;
        legal = subst (λ h. Legal means (opened shared.setup) h done.stream) (sym is.same) legal;
        accounts = subst (λ h. AreAccounted (opened shared.setup) h done.stream) (sym is.same) accounts;
        a = is.a;
        b = is.b;
      };
      calls = λ caller. subst (λ h. map asked_of (own caller h) ≡ calls_on shared.number (script_of run.scripts caller)) (sym is.same) (calls_all run shared seats stream are played done.history caller counts (first caller));
    }
log_left means run shared seats receipts overrun (Ok done) (Err fault) stream played leaves legal accounts counts first are = tt
log_left means run shared seats receipts overrun (Err fault) (Ok log) stream played leaves legal accounts counts first are = absurd leaves
log_left means run shared seats receipts overrun (Err fault) (Err other) stream played leaves legal accounts counts first are = tt

-- and what has come in to it
pub taken_left : {K : Type 0} (shared : SharedValue) (fed : Option FeedResultValue) (receipts : List (Receipts K)) (feed : Option FeedValue) (overrun : ℕ) (ended : Result (EndedValue K) EndFault) (result : Result (StreamLog K) RunFault) → feed ≡ feed_of_result fed → overrun ≡ overrun_of fed → Leaves ended receipts overrun result → IfOk ended (λ done. arrivals done.history ++ done.left ≡ accepted_of feed) → IfOk ended (λ done. is_fed shared.number shared.setup feed ≡ true) → IfOk result (λ log. HasTaken shared fed log)
taken_left shared fed receipts feed overrun (Ok done) (Ok log) feed_is overrun_is leaves came own_feed =
    let is = leaves.0 in
    let accepted : arrivals done.history ++ done.left ≡ accepted_of (feed_of_result fed) = came ∙ ap (λ f. accepted_of f) feed_is in
    record {
      left = done.left;
      came_in = ap (λ h. arrivals h ++ done.left) is.same ∙ accepted;
      many = is.accepted_is ∙ sym (length-append (arrivals done.history) done.left) ∙ ap (λ l. length l) accepted;
      arrived = is.arrived ∙ ap (λ h. length (arrivals h)) (sym is.same);
      overrun = is.overrun_is ∙ overrun_is;
      fed = ap (λ f. is_fed shared.number shared.setup f) (sym feed_is) ∙ own_feed;
    }
taken_left shared fed receipts feed overrun (Ok done) (Err fault) feed_is overrun_is leaves came own_feed = tt
taken_left shared fed receipts feed overrun (Err fault) (Ok log) feed_is overrun_is leaves came own_feed = absurd leaves
taken_left shared fed receipts feed overrun (Err fault) (Err other) feed_is overrun_is leaves came own_feed = tt

-- ---- its accounts

-- the seats of accounts of callers that have played
pub seats_have_played : {K : Type 0} (run : RunValue K) (number : ℕ) (accounts : List (AccountValue K)) (seats : List SeatValue) → seats ≡ seats_of accounts → HavePlayed run number accounts → All (HasPlayed run number) seats
seats_have_played {K} run number accounts seats are played =
    subst (λ l. All (HasPlayed run number) l) (sym are) (All-map (HasPlayed run number) (λ (a : AccountValue K). a.seat) accounts played)

-- one account more, and its seat
pub seats_more : {K : Type 0} (accounts : List (AccountValue K)) (account : AccountValue K) (seats longer : List SeatValue) (seat : SeatValue) → seats ≡ seats_of accounts → seat ≡ account.seat → longer ≡ seats ++ seat ∷ [] → longer ≡ seats_of (accounts ++ account ∷ [])
seats_more {K} accounts account seats longer seat were is more =
    more ∙ ap (λ l. l ++ seat ∷ []) were ∙ ap (λ s. seats_of accounts ++ s ∷ []) is ∙ sym (map-append (λ (a : AccountValue K). a.seat) accounts (account ∷ []))

-- one account more, and its receipts
pub parted_more : {K : Type 0} (run : RunValue K) (accounts : List (AccountValue K)) (receipts longer : List (Receipts K)) (account : AccountValue K) (mine : Receipts K) → longer ≡ receipts ++ mine ∷ [] → AreOf run account mine → AreParted run accounts receipts → AreParted run (accounts ++ account ∷ []) longer
parted_more {K} run accounts receipts longer account mine its has was =
    let long : length (accounts ++ account ∷ []) ≡ length accounts + 1 = length_push accounts account in
    record {
      many = ap (λ l. length l) its ∙ length_push receipts mine ∙ ap (λ n. n + 1) was.many ∙ sym long;
      each = λ k s d below.
          subst (λ l. AreOf run (get_or (accounts ++ account ∷ []) k s) (get_or l k d)) (sym its)
          (below_more (λ (n : ℕ). AreOf run (get_or (accounts ++ account ∷ []) n s) (get_or (receipts ++ mine ∷ []) n d)) (length accounts)
          (λ n lower.
          subst (λ (r : Receipts K). AreOf run (get_or (accounts ++ account ∷ []) n s) r) (sym (get_or_append_left receipts (mine ∷ []) d n (subst (λ m. n < m) (sym was.many) lower)))
          (subst (λ (a : AccountValue K). AreOf run a (get_or receipts n d)) (sym (get_or_append_left accounts (account ∷ []) s n lower)) (was.each n s d lower)))
          (subst (λ (r : Receipts K). AreOf run (get_or (accounts ++ account ∷ []) (length accounts) s) r) (sym (ap (λ n. get_or (receipts ++ mine ∷ []) n d) (sym was.many) ∙ get_or-append_seam receipts mine [] d))
          (subst (λ (a : AccountValue K). AreOf run a mine) (sym (get_or-append_seam accounts account [] s)) has))
          k (subst (λ n. k < n) long below));
    }

-- ---- its receipts

-- lists with the same elements
same_list : {X : Type 0} (xs ys : List X) → length xs ≡ length ys → ((k : ℕ) (d : X) → k < length ys → slice_get xs k ≡ Some (get_or ys k d)) → xs ≡ ys
same_list [] [] many each = refl
same_list [] (y ∷ ys) many each = absurd (omega (arith, many))
same_list (x ∷ xs) [] many each = absurd (omega (arith, many))
same_list (x ∷ xs) (y ∷ ys) many each =
    let here : x ≡ y = cc (each 0 y (omega arith)) in
    let rest : xs ≡ ys = same_list xs ys (omega (arith, many)) (λ k d below. each (suc k) d (omega arith)) in
    ap (λ z. z ∷ xs) here ∙ ap (λ l. y ∷ l) rest

-- where receipts are held, the entries of the accounts whose they are, are all calls of their callers
holds_account : {K : Type 0} (run : RunValue K) (number : ℕ) (history : List (Entry K)) (account : AccountValue K) (mine : Receipts K) → AreOf run account mine → HasPlayed run number account.seat → account.seat.shown ≡ true → calls_of account.seat.caller history ≡ account.seat.calls → AreHeld history mine → HoldsAccount history account
holds_account {K} run number history account mine of played shown counts held =
    let calls = calls_on number (script_of run.scripts account.seat.caller) in
    let asked : map asked_of account.entries ≡ calls =
    of.has shown ∙ ap (λ n. take account.seat.calls (calls_on n (script_of run.scripts account.seat.caller))) played.number ∙ take_all account.seat.calls calls (omega (arith, played.calls)) in
    let many : length account.entries ≡ account.seat.calls =
    sym (length-map account.entries asked_of) ∙ ap (λ l. length l) asked ∙ sym played.calls in
    let first = subst (λ (l : List (Entry K)). AreFirstCalls history mine.caller l) of.entries_are held in
    same_list (own account.seat.caller history) account.entries (counts ∙ sym many) (λ k d below. subst (λ n. slice_get (own n history) k ≡ Some (get_or account.entries k d)) of.caller_is (first k d below))

-- what is left of a stream holds them
pub log_holds : {K : Type 0} (run : RunValue K) (number : ℕ) (accounts mine : List (AccountValue K)) (seats : List SeatValue) (receipts : List (Receipts K)) (overrun : ℕ) (ended : Result (EndedValue K) EndFault) (result : Result (StreamLog K) RunFault) → mine ≡ accounts → seats ≡ seats_of mine → AreParted run mine receipts → HavePlayed run number mine → Leaves ended receipts overrun result → IfOk ended (λ done. AreShown seats) → IfOk ended (λ done. CountsAgree done.history seats) → IfOk result (λ log. HoldsAccounts accounts log)
log_holds {K} run number accounts mine seats receipts overrun (Ok done) (Ok log) same are parted played leaves shown counts =
    subst (λ (l : List (AccountValue K)). HoldsAccounts l log) same
    (subst (λ (h : List (Entry K)). All (λ account. HoldsAccount h account) mine) (sym leaves.0.same)
    (λ k d below.
    let there : k < length receipts = subst (λ n. k < n) (sym parted.many) below in
    let some = first receipts k there in
    let account = get_or mine k d in
    let sits : k < length seats = subst (λ n. k < n) (sym (ap (λ l. length l) are ∙ length-map mine (λ (a : AccountValue K). a.seat))) below in
    let seat : get_or seats k account.seat ≡ account.seat = ap (λ l. get_or l k account.seat) are ∙ get_or-map (λ (a : AccountValue K). a.seat) mine k d account.seat below in
    holds_account run number done.history account (get_or receipts k some) (parted.each k d some below) (played k d below)
    (ap (λ (s : SeatValue). s.shown) (sym seat) ∙ shown k account.seat sits)
    (subst (λ (s : SeatValue). calls_of s.caller done.history ≡ s.calls) seat (counts k account.seat sits))
    (leaves.1 k some there)))
log_holds run number accounts mine seats receipts overrun (Ok done) (Err fault) same are parted played leaves shown counts = tt
log_holds run number accounts mine seats receipts overrun (Err fault) (Ok log) same are parted played leaves shown counts = absurd leaves
log_holds run number accounts mine seats receipts overrun (Err fault) (Err other) same are parted played leaves shown counts = tt

-- all that a stream leaves
pub has_left : {K : Type 0} (means : Meaning K) (run : RunValue K) (due : FinishedStreamValue K) (result : Result (StreamLog K) RunFault) → IfOk result (λ log. IsLog means run due.stream.number due.stream.setup log) → IfOk result (λ log. HoldsAccounts due.accounts log) → IfOk result (λ log. HasTaken due.stream due.fed log) → IfOk result (λ log. HasLeft means run due log)
has_left means run due (Ok log) is held fed = record { is_log = is; held = held; fed = fed }
has_left means run due (Err fault) is held fed = tt

-- ---- the streams one after another

-- the streams of a run, and the accounts of those that were not taken
pub record AreUntaken {K : Type 0} (run : RunValue K) (streams : List SharedValue) (at : ℕ) (accounts : List (Vec (AccountValue K) Global)) : Type 0 where
  pub streams_are : AreStreams run streams
  pub many : length accounts ≡ length run.setups
  pub played : (k : ℕ) (d : Vec (AccountValue K) Global) → at ≤ k → k < length run.setups → HavePlayed run k (get_or accounts k d).items

-- the next stream of a run
module _ {K : Type 0} (run : RunValue K) (streams so_far later : List SharedValue) (at : ℕ) (one : SharedValue) (are : AreStreams run streams) (is : streams ≡ so_far ++ one ∷ later) (place : at ≡ length so_far) where
  pub place_there : at < length run.setups
  place_there = row_there _ _ _ _ _ _ is place are.many

  here : (s : Setup) → one ≡ record { number = at; setup = get_or run.setups at s; seats = length run.scripts }
  here s =
      sym (get_or-append_seam so_far one later one)
      ∙ ap (λ n. get_or (so_far ++ one ∷ later) n one) (sym place)
      ∙ ap (λ l. get_or l at one) (sym is)
      ∙ are.each at one s (subst (λ n. at < n) (sym are.many) place_there)

  number_is : one.number ≡ at
  number_is = ap (λ s. s.number) (here one.setup)

  stream_next : IsStream run one
  stream_next = record {
    there = subst (λ n. n < length run.setups) (sym number_is) place_there;
    setup_is = λ s. ap (λ n. get_or run.setups n s) number_is ∙ sym (ap (λ l. l.setup) (here s));
    callers = ap (λ l. l.seats) (here one.setup);
  }

  -- its accounts, and those of the others
  module _ (accounts : List (Vec (AccountValue K) Global)) (was : AreUntaken run streams at accounts) where
    pub next_due : (mine found : Vec (AccountValue K) Global) → mine ≡ found → found ≡ get_or accounts at found → IsFinishedStream run one mine.items
    next_due mine found taken stood = record {
      stream = stream_next;
      played = subst (λ n. HavePlayed run n mine.items) (sym number_is) (subst (λ (v : Vec (AccountValue K) Global). HavePlayed run at v.items) (sym (taken ∙ stood)) (was.played at found (omega arith) place_there));
    }

    pub left_next : (none : Vec (AccountValue K) Global) → AreUntaken run streams (at + 1) (set accounts at none)
    left_next none = record {
      streams_are = are;
      many = length-set accounts at none ∙ was.many;
      played = λ k d above below. subst (λ (v : Vec (AccountValue K) Global). HavePlayed run k v.items) (sym (get_or-set_other accounts at k none d (λ same. omega arith))) (was.played k d (omega arith) below);
    }

-- one stream more has its parts
module _ {K : Type 0} (due : List (FinishedStreamValue K)) (one : FinishedStreamValue K) (accounts : List (Vec (AccountValue K) Global)) (results : List (Option FeedResultValue)) (at : ℕ) (many : length due ≡ at) (parts : HaveParts due accounts results) where
  pub parts_more : (longer : List (FinishedStreamValue K)) → longer ≡ due ++ one ∷ [] → ((d : Vec (AccountValue K) Global) → one.accounts ≡ (get_or accounts at d).items) → ((d : Option FeedResultValue) → one.fed ≡ get_or results at d) → HaveParts longer accounts results
  parts_more longer more mine fed = record {
    accounts_are = λ k f d below.
        subst (λ l. (get_or l k f).accounts ≡ (get_or accounts k d).items) (sym more)
        (below_more (λ n. (get_or (due ++ one ∷ []) n f).accounts ≡ (get_or accounts n d).items) at
        (λ n lower. ap (λ (v : FinishedStreamValue K). v.accounts) (get_or_append_left due (one ∷ []) f n (subst (λ m. n < m) (sym many) lower)) ∙ parts.accounts_are n f d (subst (λ m. n < m) (sym many) lower))
        (ap (λ (v : FinishedStreamValue K). v.accounts) (get_or_push due one f at many) ∙ mine d)
        k (subst (λ m. k < m) (ap (λ l. length l) more ∙ length_push due one ∙ ap (λ n. n + 1) many) below));
    results_are = λ k f d below.
        subst (λ l. (get_or l k f).fed ≡ get_or results k d) (sym more)
        (below_more (λ n. (get_or (due ++ one ∷ []) n f).fed ≡ get_or results n d) at
        (λ n lower. ap (λ (v : FinishedStreamValue K). v.fed) (get_or_append_left due (one ∷ []) f n (subst (λ m. n < m) (sym many) lower)) ∙ parts.results_are n f d (subst (λ m. n < m) (sym many) lower))
        (ap (λ (v : FinishedStreamValue K). v.fed) (get_or_push due one f at many) ∙ fed d)
        k (subst (λ m. k < m) (ap (λ l. length l) more ∙ length_push due one ∙ ap (λ n. n + 1) many) below));
  }

-- the element that was taken from a list, which was behind where a loop has been
pub taken_at : {X : Type 0} (xs now : List X) (at : ℕ) (x : X) → at < length xs → ((k : ℕ) (d : X) → at ≤ k → get_or now k d ≡ get_or xs k d) → x ≡ get_or now at x → (d : X) → x ≡ get_or xs at d
taken_at xs now at x within behind is d = is ∙ behind at x (omega arith) ∙ get_or_default xs at x d within

-- ---- the logs of all

-- one stream more is due
pub due_more : {K : Type 0} (all longer : List (FinishedStreamValue K)) (so_far : List SharedValue) (one : FinishedStreamValue K) (stream : SharedValue) → streams_of all ≡ so_far → longer ≡ all ++ one ∷ [] → one.stream ≡ stream → streams_of longer ≡ so_far ++ stream ∷ []
due_more {K} all longer so_far one stream was pushed is =
    ap (λ (l : List (FinishedStreamValue K)). streams_of l) pushed
    ∙ map-append (λ (d : FinishedStreamValue K). d.stream) all (one ∷ [])
    ∙ ap (λ (l : List SharedValue). l ++ one.stream ∷ []) was
    ∙ ap (λ s. so_far ++ s ∷ []) is

-- the others may be refused likewise
pub refusals_rest : {A : Type 0} (all rest : List (Result A RunFault)) (one : Result A RunFault) → all ≡ one ∷ rest → All (λ r. IfErr r (λ fault. IsLate fault)) all → All (λ r. IfErr r (λ fault. IsLate fault)) rest
refusals_rest {A} all rest one is refusals =
    All-tail (λ (r : Result A RunFault). IfErr r (λ fault. IsLate fault)) one rest (subst (λ (l : List (Result A RunFault)). All (λ r. IfErr r (λ fault. IsLate fault)) l) is refusals)

-- one stream more has ended
pub found_more : {A E : Type 0} (all more : List A) (so_far : List (Result A E)) (one : Result A E) (found : A) → map Ok all ≡ so_far → more ≡ all ++ found ∷ [] → one ≡ Ok found → map Ok more ≡ so_far ++ one ∷ []
found_more {A} {E} all more so_far one found was pushed is =
    ap (λ (l : List A). map Ok l) pushed ∙ map-append (λ (x : A). Ok x) all (found ∷ []) ∙ ap (λ (l : List (Result A E)). l ++ Ok found ∷ []) was ∙ ap (λ o. so_far ++ o ∷ []) (sym is)

get_ok : {A E : Type 0} (all : List A) (ended : List (Result A E)) (k : ℕ) (d : A) → map Ok all ≡ ended → get_or ended k (Ok d) ≡ Ok (get_or all k d)
get_ok [] [] k d is = refl
get_ok [] (one ∷ rest) k d is = absurd cc
get_ok (x ∷ xs) [] k d is = absurd cc
get_ok (x ∷ xs) (one ∷ rest) zero d is = cc
get_ok (x ∷ xs) (one ∷ rest) (suc k) d is = get_ok xs rest k d cc

-- each stream has left its log, where each has left one
pub logs_left : {K : Type 0} (means : Meaning K) (run : RunValue K) (due : List (FinishedStreamValue K)) (ended : List (Result (StreamLog K) RunFault)) (logs : List (StreamLog K)) → length ended ≡ length due → ((k : ℕ) (d : Result (StreamLog K) RunFault) → k < length due → (one : FinishedStreamValue K) × (one ≡ get_or due k one) × IfOk (get_or ended k d) (λ log. HasLeft means run one log)) → map Ok logs ≡ ended → HaveLeft means run due logs
logs_left {K} means run due ended logs long each all = record {
  many = sym (length-map logs Ok) ∙ ap (λ l. length l) all ∙ long;
  each = λ k first d below.
      let one = each k (Ok d) below in
      subst (λ (v : FinishedStreamValue K). HasLeft means run v (get_or logs k d)) (one.1 ∙ get_or_default due k one.0 first below)
      (subst (λ r. IfOk r (λ log. HasLeft means run one.0 log)) (get_ok logs ended k d all) one.2);
}

-- the accounts of callers that have played their scripts, by the streams
pub seats_played : {K : Type 0} (run : RunValue K) (columns : List (Vec (AccountValue K) Global)) (many : ℕ) (all : List (Vec (AccountValue K) Global)) → length run.setups ≡ many → All (λ accounts. ArePlayed run accounts.items) columns → IsTransposed columns many all → AreSeatsPlayed run all
seats_played {K} run columns many all is played turned = record {
  many = turned.many ∙ sym is;
  each = λ k d below i x inside.
      let there : k < many = subst (λ n. k < n) is below in
      let caller : i < length columns = subst (λ n. i < n) (turned.long k d there) inside in
      let sits = played i d caller in
      subst (λ (a : AccountValue K). HasPlayed run k a.seat) (sym (turned.each k i d d x there caller)) (sits.each k x (subst (λ n. k < n) (sym sits.many) below));
}

-- ---- the results of feeds

-- what holds of each, as of one that was put in place of another
pub all_set : {X : Type 0} (P : X → Type 0) (xs : List X) (i : ℕ) (x : X) → All P xs → P x → All P (slice_set xs i x)
all_set P [] i x all is = all
all_set P (first ∷ rest) zero x all is = All-cons P x rest is (All-tail P first rest all)
all_set P (first ∷ rest) (suc i) x all is = All-cons P first (slice_set rest i x) (all 0 first (omega arith)) (all_set P rest i x (All-tail P first rest all) is)

-- one that a loop over them has reached
pub one_of : (all before after : List FeedResultValue) (ended : FeedResultValue) → before ++ ended ∷ after ≡ all → (j : ℕ) × (j < length all) × (ended ≡ get_or all j ended)
one_of all before after ended is = (
  length before,
  reached_there all before after ended (length before) is refl,
  sym (reached_is all before after ended ended (length before) is refl),
)

-- ---- what accounts have carried

pub adds_none : {K : Type 0} (run : RunValue K) (accounts : List (AccountValue K)) (old : List FeedResultValue) → AddsCarried run accounts old old
adds_none run accounts old = ([], sym (append-nil old), All-nil (λ ended. IsOfAccount run accounts ended))

-- one more
pub adds_more : {K : Type 0} (run : RunValue K) (accounts : List (AccountValue K)) (old now longer : List FeedResultValue) (ended : FeedResultValue) → AddsCarried run accounts old now → longer ≡ now ++ ended ∷ [] → IsOfAccount run accounts ended → AddsCarried run accounts old longer
adds_more run accounts old now longer ended adds more of = (
  adds.0 ++ ended ∷ [],
  more ∙ ap (λ l. l ++ ended ∷ []) adds.1 ∙ append_assoc old adds.0 (ended ∷ []),
  All-push (λ one. IsOfAccount run accounts one) adds.0 ended adds.2 of,
)

-- lists with the same elements
pub same_items : {X : Type 0} (rows : List (Vec X Global)) → HaveSameItems rows rows
same_items rows = record { many = refl; each = λ k d e below. ap (λ v. v.items) (get_or_default rows k d e below) }

-- one that was written back as it was
module _ {X : Type 0} (old now : List (Vec X Global)) (i : ℕ) (row : Vec X Global) (written : List X) (was : HaveSameItems old now) (is : row ≡ get_or now i row) (same : written ≡ row.items) where
  back_items : (with_items (get_or now i row) written).items ≡ row.items
  back_items = subst (λ (v : Vec X Global). (with_items v written).items ≡ row.items) is (with_items_is row written (ap (λ l. length l) same ∙ sym row.ok.0) ∙ same)

  same_case : (k : ℕ) (d e : Vec X Global) (b : Bool) → (i == k) ≡ b → k < length old → (get_or (slice_set now i (with_items (get_or now i row) written)) k d).items ≡ (get_or old k e).items
  same_case k d e true here below =
      let at : i ≡ k = eqb-true i k here in
      let there : i < length now = omega (arith, was.many, at, below) in
      subst (λ n. (get_or (slice_set now i (with_items (get_or now i row) written)) n d).items ≡ (get_or old n e).items) at
      (ap (λ (v : Vec X Global). v.items) (get_or-set_same now i (with_items (get_or now i row) written) d there)
      ∙ back_items
      ∙ ap (λ (v : Vec X Global). v.items) is
      ∙ was.each i row e (omega (arith, was.many, there)))
  same_case k d e false other below =
      ap (λ (v : Vec X Global). v.items) (get_or-set_other now i k (with_items (get_or now i row) written) d (λ same. eqb-false i k other (sym same)))
      ∙ was.each k d e below

  pub same_more : HaveSameItems old (slice_set now i (with_items (get_or now i row) written))
  same_more = record {
    many = length-set now i (with_items (get_or now i row) written) ∙ was.many;
    each = λ k d e below. same_case k d e (i == k) refl below;
  }

-- the results of one row more
pub carried_more : {K : Type 0} (run : RunValue K) (old now : List (Vec (AccountValue K) Global)) (k : ℕ) (row : Vec (AccountValue K) Global) (carried longer : List FeedResultValue) → HaveSameItems old now → k < length now → row ≡ get_or now k row → All (λ ended. IsOfAccounts run old ended) carried → AddsCarried run row.items carried longer → All (λ ended. IsOfAccounts run old ended) longer
carried_more run old now k row carried longer was below is were adds =
    let there : k < length old = subst (λ n. k < n) was.many below in
    let mine = first old k there in
    let ours = get_or old k mine in
    let found : ours ≡ get_or old k ours = get_or_default old k mine ours there in
    let items : row.items ≡ ours.items = ap (λ (v : Vec (AccountValue _) Global). v.items) is ∙ was.each k row mine there in
    subst (λ l. All (λ ended. IsOfAccounts run old ended) l) (sym adds.1)
    (All-append (λ ended. IsOfAccounts run old ended) carried adds.0 were (λ j d inside. (k, ours, there, found, subst (λ l. IsOfAccount run l (get_or adds.0 j d)) items (adds.2 j d inside))))

-- of rows with the same elements
pub of_same : {K : Type 0} (run : RunValue K) (old now : List (Vec (AccountValue K) Global)) (ended : FeedResultValue) → HaveSameItems old now → IsOfAccounts run old ended → IsOfAccounts run now ended
of_same run old now ended was (k, row, below, is, of) =
    let there : k < length now = subst (λ n. k < n) (sym was.many) below in
    let mine = first now k there in
    let ours = get_or now k mine in
    (k, ours, there, get_or_default now k mine ours there, subst (λ l. IsOfAccount run l ended) (ap (λ (v : Vec (AccountValue _) Global). v.items) is ∙ sym (was.each k mine row below)) of)

pub seats_same : {K : Type 0} (run : RunValue K) (old now : List (Vec (AccountValue K) Global)) → HaveSameItems old now → AreSeatsPlayed run old → AreSeatsPlayed run now
seats_same run old now was played = record {
  many = was.many ∙ played.many;
  each = λ k d below. subst (λ l. HavePlayed run k l) (sym (was.each k d d (subst (λ n. k < n) (sym played.many) below))) (played.each k d below);
}

-- a list that was lent and has as many elements as before
pub lent_back : {X : Type 0} (v : Vec X Global) (written : List X) → length written ≡ length v.items → (with_items v written).items ≡ written
lent_back v written many = with_items_is v written (many ∙ sym v.ok.0)

-- each is of a stream that is there
pub carried_there : {K : Type 0} (run : RunValue K) (rows : List (Vec (AccountValue K) Global)) (carried : List FeedResultValue) (many : ℕ) → length run.setups ≡ many → AreLinksThere run → All (λ ended. IsOfAccounts run rows ended) carried → All (λ ended. ended.feed.number < many) carried
carried_there run rows carried many is there all k d below =
    let of = all k d below in
    subst (λ n. (get_or carried k d).feed.number < n) is (there (get_or carried k d).feed.number of.4.4.of of.4.4.leads)

-- ---- what was offered to each stream

history_is : {K : Type 0} (logs : List (StreamLog K)) (k : ℕ) (d : StreamLog K) → k < length logs → history_at logs k ≡ (get_or logs k d).history.items
history_is [] k d below = absurd (omega arith)
history_is (log ∷ rest) zero d below = refl
history_is (log ∷ rest) (suc k) d below = history_is rest k d (omega arith)

some_same : (one other : RunLink) → Some one ≡ Some other → one ≡ other
some_same one other is = cc

none_some : {C : Type 0} (found : Option RunLink) (link : RunLink) → found ≡ None → found ≡ Some link → C
none_some None link none some = absurd cc
none_some (Some other) link none some = absurd cc

differ : {C : Type 0} (b : Bool) → b ≡ true → b ≡ false → C
differ true is other = absurd cc
differ false is other = absurd cc

-- what came in is of what was offered, where the result of the feed says so
fed_of : {K : Type 0} (shared : SharedValue) (ended : FeedResultValue) (log : StreamLog K) (given : List Msg) → HasTaken shared (Some ended) log → IsSubsequence ended.feed.accepted given → length ended.feed.accepted + ended.overrun ≡ length given → IsFed given log
fed_of shared ended log given taken part all = record {
  accepted = ended.feed.accepted;
  left = taken.left;
  came_in = taken.came_in;
  part = part;
  many = taken.many;
  arrived = taken.arrived;
  all = ap (λ n. n + log.overrun) taken.many ∙ ap (λ n. length ended.feed.accepted + n) taken.overrun ∙ all;
}

not_true : (b : Bool) → not b ≡ true → b ≡ false
not_true true is = absurd cc
not_true false is = refl

module _ {K : Type 0} (means : Meaning K) (run : RunValue K) (due : List (FinishedStreamValue K)) (logs : List (StreamLog K)) (rows : List (Vec (AccountValue K) Global)) (results : List (Option FeedResultValue)) (left : HaveLeft means run due logs) (are : AreStreams run (streams_of due)) (parts : HaveParts due rows results) (results_are : AreResults run rows results) (many_results : length results ≡ length run.setups) (played : AreSeatsPlayed run rows) (lines : AreLinesFed run) (linked : AreLinesLinked run) where
  due_many : length due ≡ length run.setups
  due_many = sym (length-map due (λ (d : FinishedStreamValue K). d.stream)) ∙ are.many

  stream_is : (k : ℕ) (one : FinishedStreamValue K) (s : Setup) → k < length run.setups → (get_or due k one).stream ≡ record { number = k; setup = get_or run.setups k s; seats = length run.scripts }
  stream_is k one s below =
      let there : k < length due = subst (λ n. k < n) (sym due_many) below in
      let under : k < length (streams_of due) = subst (λ n. k < n) (sym are.many) below in
      sym (get_or-map (λ (v : FinishedStreamValue K). v.stream) due k one one.stream there) ∙ are.each k one.stream s under

  -- what an account has carried
  carried_is : (ended : FeedResultValue) (link : RunLink) → IsOfAccounts run rows ended → link_to run.links ended.feed.number ≡ Some link → HasPassedOn link (own link.by (history_at logs link.from)) ended.feed ended.overrun
  carried_is ended link (k, row, below, is, (i, a, inside, at, carried)) found =
      let same : carried.of ≡ link = some_same carried.of link (sym carried.leads ∙ found) in
      let from = link_from_is run.links a.seat.caller a.seat.number carried.of carried.from in
      let there : k < length run.setups = subst (λ n. k < n) played.many below in
      let ours : k < length due = subst (λ n. k < n) (sym due_many) there in
      let one = first due k ours in
      let has = left.each k one (first logs k (subst (λ n. k < n) (sym left.many) ours)) ours in
      let log = get_or logs k (first logs k (subst (λ n. k < n) (sym left.many) ours)) in
      let accounts_is : (get_or due k one).accounts ≡ row.items = parts.accounts_are k one row ours ∙ ap (λ (v : Vec (AccountValue K) Global). v.items) (sym is) in
      let holds = subst (λ (l : List (AccountValue K)). HoldsAccounts l log) accounts_is has.held in
      let mine : own a.seat.caller log.history.items ≡ a.entries = subst (λ (v : AccountValue K). own v.seat.caller log.history.items ≡ v.entries) (sym at) (holds i a inside) in
      let number : a.seat.number ≡ k =
      ap (λ (v : AccountValue K). v.seat.number) at ∙ (subst (λ (v : Vec (AccountValue K) Global). HavePlayed run k v.items) (sym is) (played.each k row there) i a inside).number in
      let all : a.entries ≡ own link.by (history_at logs link.from) =
      sym mine
      ∙ ap (λ n. own n log.history.items) (sym from.0)
      ∙ ap (λ h. own carried.of.by h) (sym (history_is logs k _ (subst (λ n. k < n) (sym left.many) ours)))
      ∙ ap (λ n. own carried.of.by (history_at logs n)) (sym number ∙ sym from.1)
      ∙ ap (λ (l : RunLink). own l.by (history_at logs l.from)) same in
      subst (λ (l : RunLink). HasPassedOn l (own link.by (history_at logs link.from)) ended.feed ended.overrun) same
      (subst (λ (l : List (Entry K)). HasPassedOn carried.of l ended.feed ended.overrun) all carried.given)

  -- by the link that leads to a stream, if there is one, and by the result of its feed
  fed_case : (k : ℕ) (s : Setup) (shared : SharedValue) (log : StreamLog K) (found : Option RunLink) (ended : Option FeedResultValue) → k < length run.setups → shared ≡ record { number = k; setup = get_or run.setups k s; seats = length run.scripts } → link_to run.links k ≡ found → IsResult run results_are.0 ended → HasTaken shared ended log → IsFed (offered_by run logs k found) log
  fed_case k s shared log None None below is none result taken =
      let no_line : is_line (get_or run.setups k s).driver ≡ false = ap (λ (v : SharedValue). is_line v.setup.driver) (sym is) ∙ not_true (is_line shared.setup.driver) taken.fed in
      let no_feed = lines k s below no_line in
      record {
        accepted = [];
        left = taken.left;
        came_in = taken.came_in;
        part = subst (λ l. IsSubsequence [] l) (sym no_feed) refl;
        many = taken.many;
        arrived = taken.arrived;
        all = ap (λ n. n + log.overrun) taken.many ∙ ap (λ n. 0 + n) taken.overrun ∙ ap (λ l. length l) (sym no_feed);
      }
  fed_case k s shared log (Some link) None below is some result taken =
      let no_line : is_line (get_or run.setups k s).driver ≡ false = ap (λ (v : SharedValue). is_line v.setup.driver) (sym is) ∙ not_true (is_line shared.setup.driver) taken.fed in
      (differ (is_line (get_or run.setups k s).driver) (linked k s link below some) no_line)
  fed_case k s shared log None (Some ended) below is none (inl offered) taken =
      let here : ended.feed.number ≡ k = eqb-true _ _ taken.fed ∙ ap (λ (v : SharedValue). v.number) is in
      fed_of shared ended log (feed_of run.feeds k) taken (subst (λ n. IsSubsequence ended.feed.accepted (feed_of run.feeds n)) here offered.part) (offered.all ∙ ap (λ n. length (feed_of run.feeds n)) here)
  fed_case k s shared log (Some link) (Some ended) below is some (inl offered) taken =
      let here : ended.feed.number ≡ k = eqb-true _ _ taken.fed ∙ ap (λ (v : SharedValue). v.number) is in
      none_some (link_to run.links k) link (ap (λ n. link_to run.links n) (sym here) ∙ offered.apart) some
  fed_case k s shared log None (Some ended) below is none (inr (j, inside, at)) taken =
      let here : ended.feed.number ≡ k = eqb-true _ _ taken.fed ∙ ap (λ (v : SharedValue). v.number) is in
      let of = subst (λ (r : FeedResultValue). IsOfAccounts run rows r) (sym at) (results_are.1 j ended inside) in
      none_some (link_to run.links k) (of.4.4.of) none (ap (λ n. link_to run.links n) (sym here) ∙ of.4.4.leads)
  fed_case k s shared log (Some link) (Some ended) below is some (inr (j, inside, at)) taken =
      let here : ended.feed.number ≡ k = eqb-true _ _ taken.fed ∙ ap (λ (v : SharedValue). v.number) is in
      let of = subst (λ (r : FeedResultValue). IsOfAccounts run rows r) (sym at) (results_are.1 j ended inside) in
      let given = carried_is ended link of (ap (λ n. link_to run.links n) here ∙ some) in
      fed_of shared ended log (carried_on link logs) taken given.part given.all

  pub are_logs : AreLogs means run logs
  are_logs = record {
    many = left.many ∙ due_many;
    each = λ k s d below.
        let ours : k < length due = subst (λ n. k < n) (sym due_many) below in
        let one = first due k ours in
        subst (λ (v : SharedValue). IsLog means run v.number v.setup (get_or logs k d)) (stream_is k one s below) (left.each k one d ours).is_log;
    fed = λ k d below.
        let ours : k < length due = subst (λ n. k < n) (sym due_many) below in
        let one = first due k ours in
        let s = first run.setups k below in
        let there : k < length results = subst (λ n. k < n) (sym many_results) below in
        let some = first results k there in
        fed_case k s (get_or due k one).stream (get_or logs k d) (link_to run.links k) (get_or results k some) below (stream_is k one s below) refl (results_are.2 k some there) (subst (λ (r : Option FeedResultValue). HasTaken (get_or due k one).stream r (get_or logs k d)) (parts.results_are k one some ours) (left.each k one d ours).fed);
  }
