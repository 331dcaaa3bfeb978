-- The end of a shared stream, and the places of the calls of each caller in its history.
use Rattle.std.specs.Prelude.{◌≡◌, ℕ, suc, ◌<◌, true, Some, List, [], ◌∷◌, All, get_or, length, slice_get, Vec, ⊤}
use Rattle.std.specs.Global.{Global}
use Rattle.strm_msg.specs.Message.{Msg}
use Rattle.strm_chain_ends.specs.Image.{Image}
use Rattle.strm_shared_entry.specs.Entry.{Entry}
use Rattle.strm_shared_entry.specs.Own.{arrivals, entry_at, own, AreFromSeats}
use Rattle.strm_shared_ended.specs.declared.ended.Index.{Index}
use Rattle.strm_shared_ended.specs.declared.holding.Receipts.{Receipts}
use Rattle.strm_shared_entry.specs.Receipt.{ReceiptValue}

-- the history, the stream to which it leads, and the messages that were accepted and have not come in
pub record EndedValue (K : Type 0) : Type 0 where
  pub history : List (Entry K)
  pub stream : Image K
  pub left : List Msg

-- these are the entries that a history has of a caller's first calls, in order
abbrev pub AreFirstCalls : {K : Type 0} → List (Entry K) → ℕ → List (Entry K) → Type 0
AreFirstCalls {K} history caller entries =
    (k : ℕ) (d : Entry K) → k < length entries → entry_at caller (suc k) history ≡ Some (get_or entries k d)

-- the history has each call of which its caller has one of these receipts
abbrev pub AreHeld : {K : Type 0} → List (Entry K) → Receipts K → Type 0
AreHeld history receipts = AreFirstCalls history receipts.caller receipts.entries.items

-- the history has the entry of a receipt at its place among its caller's calls
abbrev pub HasEntryOf : {K : Type 0} → List (Entry K) → ReceiptValue K → Type 0
HasEntryOf history receipt = entry_at receipt.caller receipt.number history ≡ Some receipt.entry

-- ---- definitions that no public clause cites

-- these entries are in a history at these places
abbrev pub StandAt : {K : Type 0} → List ℕ → List (Entry K) → List (Entry K) → Type 0
StandAt [] history [] = ⊤
StandAt [] history (entry ∷ entries) = ⊥
StandAt (place ∷ places) history [] = ⊥
StandAt (place ∷ places) history (entry ∷ entries) = (slice_get history place ≡ Some entry) × StandAt places history entries

-- the places of each caller's calls, in order, for callers that make all the calls
pub record AreIndexed {K : Type 0} (places : List (Vec ℕ Global)) (history : List (Entry K)) : Type 0 where
  pub each : (caller : ℕ) (d : Vec ℕ Global) → caller < length places → StandAt (get_or places caller d).items history (own caller history)
  pub seated : AreFromSeats (length places) history

-- the index of a history: these places, and the number of messages that came in
pub record IsIndex {K : Type 0} (index : Index) (history : List (Entry K)) : Type 0 where
  pub places : AreIndexed index.places.items history
  pub arrival_count : index.arrival_count ≡ length (arrivals history)
