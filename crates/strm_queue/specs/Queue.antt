-- Queues of messages (Programmer's Guide: STREAMS, "Message Queues and Service Procedures"; putq(9F) and
-- kin).
use Rattle.std.specs.Prelude.{◌≡◌, ℕ, ◌+◌, ◌-◌, ◌==◌, ◌&&◌, not, nat_le, nat_lt, Bool, true, false, List, [], ◌∷◌, length, if◌then◌else◌, filter, sum_by, insert, Option, MatchOption}
use Rattle.std.specs.List.{prefix_len, suffix_len, list_any, list_all}
use Rattle.strm_msg.specs.Marks.{WaterMarks}
use Rattle.strm_msg.specs.Message.{Msg, rank_of, weight_of}
use Rattle.strm_msg.specs.Kind.{is_high}
use Rattle.strm_msg.specs.declared.kind.MsgKind.{MsgKind}
use Rattle.strm_msg.specs.declared.kind.MsgKind.TheVariants.{MData, MProto, MPcproto}

-- a queue: its marks, its messages in the order in which they are taken, and for each rank the number of
-- messages that it takes without memory
pub record Queue : Type 0 where
  pub marks : WaterMarks
  pub messages : List Msg
  pub room : List ℕ

-- the number of messages at the front that have at least this rank
abbrev pub front_len : ℕ → List Msg → ℕ
front_len least q = prefix_len (λ x. nat_le least (rank_of x)) q

-- the first message is taken, or none is there (getq)
abbrev pub TakesFirst : Option Msg → List Msg → List Msg → Type 0
TakesFirst taken old new = MatchOption taken ((old ≡ []) × (new ≡ [])) (λ m. old ≡ m ∷ new)

-- m behind the messages of its rank (putq)
abbrev pub put_in : List Msg → Msg → List Msg
put_in q m = insert q (front_len (rank_of m) q) m

-- m before the messages of its rank (putbq)
abbrev pub put_back_in : List Msg → Msg → List Msg
put_back_in q m = insert q (front_len (rank_of m + 1) q) m

-- m behind the last message of at least its rank, at the front if there is none
abbrev pub behind_last : List Msg → Msg → List Msg
behind_last q m = insert q (length q - suffix_len (λ x. nat_lt (rank_of x) (rank_of m)) q) m

-- greatest rank first
abbrev pub is_ordered : List Msg → Bool
is_ordered [] = true
is_ordered (x ∷ q) = list_all (λ y. nat_le (rank_of y) (rank_of x)) q && is_ordered q

-- the kinds that a flush removes: data and protocol messages (flushq with FLUSHDATA)
abbrev pub is_flushed : MsgKind → Bool
is_flushed MData = true
is_flushed MProto = true
is_flushed MPcproto = true
is_flushed kind = false

-- the messages that a flush leaves
abbrev pub flush_of : List Msg → List Msg
flush_of q = filter (λ m. not (is_flushed m.kind)) q

-- a band has its ordinary messages, and band 0 the high ones too
abbrev pub is_of_band : ℕ → Msg → Bool
is_of_band band m = if is_high m.kind then band == 0 else (m.band == band)

-- the messages that a flush of one band leaves (flushband)
abbrev pub flush_band_of : ℕ → List Msg → List Msg
flush_band_of band q = filter (λ m. not (is_flushed m.kind && is_of_band band m)) q

-- the weight that a message adds to a band
abbrev pub weight_in : ℕ → Msg → ℕ
weight_in band m = if is_of_band band m then weight_of m else 0

-- the weights of a band's messages together
abbrev pub held_of : List Msg → ℕ → ℕ
held_of q band = sum_by (weight_in band) q

-- a band holds its high water mark or more
abbrev pub is_full : WaterMarks → List Msg → ℕ → Bool
is_full marks q band = nat_le marks.hi (held_of q band)

-- a band holds its low water mark or less
abbrev pub is_slack : WaterMarks → List Msg → ℕ → Bool
is_slack marks q band = nat_le (held_of q band) marks.lo

abbrev pub is_pcproto : MsgKind → Bool
is_pcproto MPcproto = true
is_pcproto kind = false

-- whether high-priority protocol information is there
abbrev pub has_pcproto : List Msg → Bool
has_pcproto q = list_any (λ m. is_pcproto m.kind) q

-- whether an ordinary message of a band is there
abbrev pub has_band : List Msg → ℕ → Bool
has_band q band = list_any (λ m. not (is_high m.kind) && (m.band == band)) q
