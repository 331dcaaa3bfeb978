-- The seats and feeders of a run when its threads have ended, and the ends of its streams.
use Rattle.std.specs.Prelude.{◌≡◌, ◌==◌, ℕ, ◌+◌, ◌<◌, Bool, true, false, Option, Some, None, option_map, ◌⊎◌, Result, Ok, Err, List, [], ◌∷◌, ◌++◌, All, find, get_or, length, map, Vec, ⊤}
use Rattle.std.specs.Global.{Global}
use Rattle.std.specs.List.{list_any}
use Rattle.strm_msg.specs.Message.{Msg}
use Rattle.strm_msg.specs.declared.words.End.TheVariants.{A, B}
use Rattle.strm_module.specs.Driver.{is_line}
use Rattle.strm_chain_ends.specs.Image.{Image, end_of}
use Rattle.strm_head_calls.specs.declared.setup.Setup.{Setup}
use Rattle.strm_shared_entry.specs.Entry.{Entry}
use Rattle.strm_shared_ended.specs.declared.holding.Receipts.{Receipts}
use Rattle.strm_shared_ended.specs.Ended.{EndedValue}
use Rattle.strm_shared.specs.declared.fault.EndFault.{EndFault}
use Rattle.strm_shared.specs.declared.fault.EndFault.TheVariants as EndFaults
use Rattle.strm_shared_entry.specs.Own.{arrivals, own}
use Rattle.strm_module.specs.Kinds.{Meaning}
use Rattle.strm_shared.specs.Seat.{SeatValue}
use Rattle.strm_shared_ring.specs.Feed.{FeedValue, accepted_of}
use Rattle.strm_shared.specs.Ending.{SharedValue, is_fed}
use Rattle.strm_run_input.specs.Fault.{run_fault_number}
use Rattle.strm_run_input.specs.declared.fault.RunFault.{RunFault}
use Rattle.strm_run_input.specs.declared.fault.RunFault.TheVariants as RunFaults
use Rattle.strm_shared_entry.specs.declared.transcript.StreamLog.{StreamLog}
use Rattle.strm_run_input.specs.Scripts.{feed_of, link_to}
use Rattle.strm_run_input.specs.declared.run_link.RunLink.{RunLink}
use Rattle.strm_run_callers.specs.Account.{AccountValue, HasReceipts}
use Rattle.strm_shared_ended.specs.Ended.{AreHeld}
use Rattle.strm_run_callers.specs.RunName.{RunValue}
use Rattle.strm_run_callers.specs.Carrying.{IsCarried}
use Rattle.strm_run_callers.specs.Feeding.{FeedResultValue, HasOffered}
use Rattle.strm_run_callers.specs.Play.{HasPlayed}
use Rattle.strm_run_callers.specs.Transcript.{IsLog}
use Rattle.strm_shared_ended.specs.Left.{names_at}

-- the seats of accounts, in order
abbrev pub seats_of : {K : Type 0} → List (AccountValue K) → List SeatValue
seats_of accounts = map (λ account. account.seat) accounts

-- these are accounts of callers that have played their scripts on a stream
abbrev pub HavePlayed : {K : Type 0} → RunValue K → ℕ → List (AccountValue K) → Type 0
HavePlayed run k accounts = All (λ account. HasPlayed run k account.seat) accounts

-- the accounts of callers that have played their scripts, in order of the streams
pub record AreSeatsPlayed {K : Type 0} (run : RunValue K) (accounts : List (Vec (AccountValue K) Global)) : Type 0 where
  pub many : length accounts ≡ length run.setups
  pub each : (k : ℕ) (d : Vec (AccountValue K) Global) → k < length run.setups → HavePlayed run k (get_or accounts k d).items

-- a stream of a run
pub record IsStream {K : Type 0} (run : RunValue K) (shared : SharedValue) : Type 0 where
  pub there : shared.number < length run.setups
  pub setup_is : (s : Setup) → get_or run.setups shared.number s ≡ shared.setup
  pub callers : shared.seats ≡ length run.scripts

-- a stream on which all have played, the accounts of its callers, and the result of its feed
pub record FinishedStreamValue (K : Type 0) : Type 0 where
  pub stream : SharedValue
  pub accounts : List (AccountValue K)
  pub fed : Option FeedResultValue

-- the streams of them, in order
abbrev pub streams_of : {K : Type 0} → List (FinishedStreamValue K) → List SharedValue
streams_of all = map (λ due. due.stream) all

-- a stream of a run whose callers have played, with their accounts on it
pub record IsFinishedStream {K : Type 0} (run : RunValue K) (shared : SharedValue) (accounts : List (AccountValue K)) : Type 0 where
  pub stream : IsStream run shared
  pub played : HavePlayed run shared.number accounts

-- streams have these accounts and these results of their feeds, in order
pub record HaveParts {K : Type 0} (due : List (FinishedStreamValue K)) (accounts : List (Vec (AccountValue K) Global)) (results : List (Option FeedResultValue)) : Type 0 where
  pub accounts_are : (k : ℕ) (one : FinishedStreamValue K) (d : Vec (AccountValue K) Global) → k < length due → (get_or due k one).accounts ≡ (get_or accounts k d).items
  pub results_are : (k : ℕ) (one : FinishedStreamValue K) (d : Option FeedResultValue) → k < length due → (get_or due k one).fed ≡ get_or results k d

-- no stream but a line is fed
abbrev pub AreLinesFed : {K : Type 0} → RunValue K → Type 0
AreLinesFed run = (k : ℕ) (s : Setup) → k < length run.setups → is_line (get_or run.setups k s).driver ≡ false → feed_of run.feeds k ≡ []

-- no link leads to another stream than a line
abbrev pub AreLinesLinked : {K : Type 0} → RunValue K → Type 0
AreLinesLinked run = (k : ℕ) (s : Setup) (link : RunLink) → k < length run.setups → link_to run.links k ≡ Some link → is_line (get_or run.setups k s).driver ≡ true

-- each link leads to a stream that is there
abbrev pub AreLinksThere : {K : Type 0} → RunValue K → Type 0
AreLinksThere run = (k : ℕ) (link : RunLink) → link_to run.links k ≡ Some link → k < length run.setups

-- the result of a feed that one of these accounts has carried
abbrev pub IsOfAccount : {K : Type 0} → RunValue K → List (AccountValue K) → FeedResultValue → Type 0
IsOfAccount run accounts ended =
    (i : ℕ) × (a : AccountValue _) × (i < length accounts) × (a ≡ get_or accounts i a) × IsCarried run a ended

-- lists that have the same elements as before
pub record HaveSameItems {X : Type 0} (old now : List (Vec X Global)) : Type 0 where
  pub many : length now ≡ length old
  pub each : (k : ℕ) (d e : Vec X Global) → k < length old → (get_or now k d).items ≡ (get_or old k e).items

-- some result of a feed that accounts have carried is added behind others, for each link of which one is (no
-- public clause cites it)
abbrev pub AddsCarried : {K : Type 0} → RunValue K → List (AccountValue K) → List FeedResultValue → List FeedResultValue → Type 0
AddsCarried run accounts old new =
    (more : List FeedResultValue) × (new ≡ old ++ more) × All (λ ended. IsOfAccount run accounts ended) more

-- the result of a feed that an account has carried, by the streams
abbrev pub IsOfAccounts : {K : Type 0} → RunValue K → List (Vec (AccountValue K) Global) → FeedResultValue → Type 0
IsOfAccounts run rows ended =
    (k : ℕ) × (row : Vec (AccountValue _) Global) × (k < length rows) × (row ≡ get_or rows k row) × IsOfAccount run row.items ended

-- the result of the feed of a stream: it has offered its feed, or it is one of these, which accounts have
-- carried
abbrev pub IsResult : {K : Type 0} → RunValue K → List FeedResultValue → Option FeedResultValue → Type 0
IsResult run carried None = Unit {0}
IsResult run carried (Some ended) =
    HasOffered run ended.feed ended.overrun ⊎ ((j : ℕ) × (j < length carried) × (ended ≡ get_or carried j ended))

-- so is each of these; accounts of these rows have carried it
abbrev pub AreResults : {K : Type 0} → RunValue K → List (Vec (AccountValue K) Global) → List (Option FeedResultValue) → Type 0
AreResults run rows results =
    (carried : List FeedResultValue) × All (λ ended. IsOfAccounts run rows ended) carried × All (λ one. IsResult run carried one) results

-- the number of messages that came back from a feeder; none where there is none
abbrev pub overrun_of : Option FeedResultValue → ℕ
overrun_of None = 0
overrun_of (Some ended) = ended.overrun

-- the feed of a result, if there is one
abbrev pub feed_of_result : Option FeedResultValue → Option FeedValue
feed_of_result ended = option_map (λ r. r.feed) ended

-- the log of a stream that ended with this history, and with these messages not come in
pub record IsLogOf {K : Type 0} (history : List (Entry K)) (stream : Image K) (left : List Msg) (overrun : ℕ) (log : StreamLog K) : Type 0 where
  pub same : log.history.items ≡ history
  pub a : log.a ≡ names_at (end_of stream A)
  pub b : log.b ≡ names_at (end_of stream B)
  pub accepted_is : log.accepted ≡ length (arrivals history) + length left
  pub arrived : log.arrived ≡ length (arrivals history)
  pub overrun_is : log.overrun ≡ overrun

-- the fault of a run of which a stream did not end
abbrev pub end_fault : EndFault → RunFault
end_fault EndFaults.Seats = RunFaults.Unfinished
end_fault EndFaults.Unfinished = RunFaults.Unfinished
end_fault EndFaults.Drained = RunFaults.Unfinished
end_fault EndFaults.NoMem = RunFaults.NoMem
end_fault EndFaults.NoReceipt = RunFaults.NoReceipt

-- the log of a stream that ended, where each receipt holds; and else the fault
abbrev pub Leaves : {K : Type 0} → Result (EndedValue K) EndFault → List (Receipts K) → ℕ → Result (StreamLog K) RunFault → Type 0
Leaves (Ok ended) receipts overrun (Ok log) =
    IsLogOf ended.history ended.stream ended.left overrun log × All (λ mine. AreHeld ended.history mine) receipts
Leaves (Ok ended) receipts overrun (Err fault) =
    (fault ≡ RunFaults.NoReceipt) × (All (λ mine. AreHeld ended.history mine) receipts → ⊥)
Leaves (Err fault) receipts overrun (Ok log) = ⊥
Leaves (Err fault) receipts overrun (Err refused) = refused ≡ end_fault fault

-- a stream ended with this fault
abbrev pub is_fault : {K : Type 0} → RunFault → Result (StreamLog K) RunFault → Bool
is_fault fault (Ok log) = false
is_fault fault (Err other) = run_fault_number other == run_fault_number fault

-- the faults of streams, in the order of a run
abbrev pub run_order : List RunFault
run_order = RunFaults.NoMem ∷ RunFaults.Unfinished ∷ RunFaults.NoReceipt ∷ []

-- the first of them, in this order, that some stream has
abbrev pub first_fault : {K : Type 0} → List (Result (StreamLog K) RunFault) → Option RunFault
first_fault ended = find (λ fault. list_any (is_fault fault) ended) run_order

-- the receipts of an account: those of its caller, with its entries, which are of the first calls of that
-- caller's script
pub record AreOf {K : Type 0} (run : RunValue K) (account : AccountValue K) (receipts : Receipts K) : Type 0 where
  pub caller_is : receipts.caller ≡ account.seat.caller
  pub entries_are : receipts.entries.items ≡ account.entries
  pub has : HasReceipts run account.seat account.entries

-- the receipts of accounts: of each its own, in order, and no others
pub record AreParted {K : Type 0} (run : RunValue K) (accounts : List (AccountValue K)) (receipts : List (Receipts K)) : Type 0 where
  pub many : length receipts ≡ length accounts
  pub each : (k : ℕ) (a : AccountValue K) (d : Receipts K) → k < length accounts → AreOf run (get_or accounts k a) (get_or receipts k d)

-- a history has the entries of an account as all calls of its caller, in order
abbrev pub HoldsAccount : {K : Type 0} → List (Entry K) → AccountValue K → Type 0
HoldsAccount history account = own account.seat.caller history ≡ account.entries

-- it has those of each of these accounts
abbrev pub HoldsAccounts : {K : Type 0} → List (AccountValue K) → StreamLog K → Type 0
HoldsAccounts accounts log = All (λ account. HoldsAccount log.history.items account) accounts

-- what has come in to a stream, and what is left, was accepted by the feeder with this result; it is the
-- stream's own, or the stream is no line
pub record HasTaken {K : Type 0} (shared : SharedValue) (ended : Option FeedResultValue) (log : StreamLog K) : Type 0 where
  pub left : List Msg
  pub came_in : arrivals log.history.items ++ left ≡ accepted_of (feed_of_result ended)
  pub many : log.accepted ≡ length (accepted_of (feed_of_result ended))
  pub arrived : log.arrived ≡ length (arrivals log.history.items)
  pub overrun : log.overrun ≡ overrun_of ended
  pub fed : is_fed shared.number shared.setup (feed_of_result ended) ≡ true

-- a stream has ended with this log
pub record HasLeft {K : Type 0} (means : Meaning K) (run : RunValue K) (due : FinishedStreamValue K) (log : StreamLog K) : Type 0 where
  pub is_log : IsLog means run due.stream.number due.stream.setup log
  pub held : HoldsAccounts due.accounts log
  pub fed : HasTaken due.stream due.fed log

-- so has each of these
pub record HaveLeft {K : Type 0} (means : Meaning K) (run : RunValue K) (due : List (FinishedStreamValue K)) (logs : List (StreamLog K)) : Type 0 where
  pub many : length logs ≡ length due
  pub each : (k : ℕ) (one : FinishedStreamValue K) (d : StreamLog K) → k < length due → HasLeft means run (get_or due k one) (get_or logs k d)

-- a fault of a run of which all is there: none of those that were looked at before
abbrev pub IsLate : RunFault → Type 0
IsLate RunFaults.Workers = ⊥
IsLate RunFaults.NoSuch = ⊥
IsLate RunFaults.NoMem = ⊤
IsLate RunFaults.Unfinished = ⊤
IsLate RunFaults.NoReceipt = ⊤
