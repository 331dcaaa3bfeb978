-- Pieces of a history, which a stream hands out while it goes on.
use Rattle.std.specs.Prelude.{◌≡◌, ℕ, ◌-◌, ◌<◌, min, nat_lt, Option, Some, None, IfSome, List, [], ◌∷◌, ◌++◌, All, get_or, length, set, flat_map, if◌then◌else◌}
use Rattle.strm_msg.specs.Count.{one_more}
use Rattle.strm_module.specs.Kinds.{Meaning}
use Rattle.strm_chain_ends.specs.Image.{Image}
use Rattle.strm_head_calls.specs.declared.setup.Setup.{Setup}
use Rattle.strm_shared_entry.specs.declared.entry.Who.{Who}
use Rattle.strm_shared_entry.specs.declared.entry.Who.TheVariants.{Caller, Line}
use Rattle.strm_shared_entry.specs.Entry.{Entry}
use Rattle.strm_shared_entry.specs.Own.{calls_of, entry_at}
use Rattle.strm_shared_entry.specs.Receipt.{ReceiptValue}
use Rattle.strm_shared_log.specs.History.{Legal}
use Rattle.strm_shared_log.specs.Opened.{opened}
use Rattle.strm_shared_log.specs.declared.part.Part.{Part}

-- a piece of a history: the setup of the stream, the number of calls that each caller has made before it, and
-- its entries
pub record PieceValue (K : Type 0) : Type 0 where
  pub setup : Setup
  pub before : List ℕ
  pub entries : List (Entry K)

-- the taker of a history's pieces: the number of callers whose calls it counts, the setup of the stream, if a
-- piece has come, and the entries of all pieces that have come, one piece behind another
pub record DrainValue (K : Type 0) : Type 0 where
  pub callers : ℕ
  pub setup : Option Setup
  pub history : List (Entry K)

-- the taker to which nothing has come
abbrev pub fresh_drain : {K : Type 0} → ℕ → DrainValue K
fresh_drain callers = record { callers = callers; setup = None; history = [] }

-- the entries of parts, one part behind another
abbrev pub entries_of : {K : Type 0} → List (Part K) → List (Entry K)
entries_of parts = flat_map (λ p. p.entries.items) parts

-- the setup that the first part has
abbrev pub first_setup : {K : Type 0} → List (Part K) → Option Setup
first_setup [] = None
first_setup (p ∷ parts) = Some p.setup

-- a count as 64 bits have it
abbrev pub capped : ℕ → ℕ
capped n = min n 18446744073709551615

-- the counts after a step of this maker
abbrev pub counted_by : List ℕ → Who → List ℕ
counted_by counts (Caller caller) =
    if nat_lt caller (length counts) then set counts caller (one_more (get_or counts caller 0)) else counts
counted_by counts Line = counts

-- the counts are those of each caller's calls in a history
abbrev pub AreCounts : {K : Type 0} → List ℕ → List (Entry K) → Type 0
AreCounts counts history = (caller : ℕ) → caller < length counts → get_or counts caller 0 ≡ capped (calls_of caller history)

-- the piece has the entry of a receipt, at its place among its caller's calls
pub record HasCall {K : Type 0} (piece : PieceValue K) (receipt : ReceiptValue K) : Type 0 where
  pub counted : receipt.caller < length piece.before
  pub found : entry_at receipt.caller (receipt.number - get_or piece.before receipt.caller 0) piece.entries ≡ Some receipt.entry

-- for kinds of any meaning
module _ {K : Type 0} (means : Meaning K) where
  -- the entries are a history of a stream: they lead by steps from one that was just opened by this setup
  abbrev pub IsHistory : Setup → List (Entry K) → Type 0
  IsHistory setup entries = (after : Image K) × Legal means (opened setup) entries after

  -- a part goes on behind others: it is of the same setup, and all together are a history
  pub record GoesOn (before : List (Part K)) (part : Part K) : Type 0 where
    pub setup : All (λ p. p.setup ≡ part.setup) before
    pub legal : IsHistory part.setup (entries_of before ++ part.entries.items)

  -- the next piece has come: it is of the same stream, and goes on where the last one ended
  pub record TakesNext (old : DrainValue K) (piece : PieceValue K) (new : DrainValue K) : Type 0 where
    pub callers : new.callers ≡ old.callers
    pub setup : new.setup ≡ Some piece.setup
    pub same_setup : IfSome old.setup (λ s. s ≡ piece.setup)
    pub history : new.history ≡ old.history ++ piece.entries
    pub legal : IsHistory piece.setup new.history
    pub many : length piece.before ≡ old.callers
    pub before : AreCounts piece.before old.history

  -- a piece leads by steps from the stream to which all before it has led
  pub record LeadsOn (setup : Setup) (before piece : List (Entry K)) : Type 0 where
    pub start : Image K
    pub after : Image K
    pub came : Legal means (opened setup) before start
    pub goes_on : Legal means start piece after

  -- so it is with each history that is cut in two
  abbrev pub PiecesLeadOn : Type 0
  PiecesLeadOn = (setup : Setup) (before piece : List (Entry K)) → IsHistory setup (before ++ piece) → LeadsOn setup before piece
