-- The bytes that a read gives of the messages at the head, and the messages that stay (read(2); streamio(7),
-- I_SRDOPT).
use Rattle.std.specs.Prelude.{◌≡◌, ◌≤◌, ℕ, ◌-◌, ◌&&◌, not, nat_le, nat_lt, Bool, true, false, Option, Some, None, List, [], ◌∷◌, ◌++◌, length, take, drop, take_while, flat_map, slice_get, suc, zero, if◌then◌else◌, is_some, ◌<◌, ◌⊎◌, Result, IfOk, IfSome}
use Rattle.strm_msg.specs.Message.{Msg, Part, part_len}
use Rattle.strm_msg.specs.declared.words.End.{End}
use Rattle.strm_msg.specs.declared.words.Prot.{Prot}
use Rattle.strm_msg.specs.declared.words.ReadMode.{ReadMode}
use Rattle.strm_msg.specs.declared.words.ReadMode.TheVariants.{Rnorm, Rmsgn, Rmsgd}
use Rattle.strm_chain_ends.specs.Image.{Image, end_of, with_head}
use Rattle.strm_head_calls.specs.declared.refusal.Refusal.{Refusal}
use Rattle.strm_head_calls.specs.declared.refusal.Refusal.TheVariants.{BadMessage, WouldWait}
use Rattle.strm_head_calls.specs.declared.answer.Reply.{Reply}
use Rattle.strm_head_calls.specs.declared.answer.Reply.TheVariants as Replies
use Rattle.strm_head_calls.specs.Effect.{Effect, effect}
use Rattle.strm_head_calls.specs.Cut.{cut_of}
use Rattle.strm_chain_end.specs.First.{first_message, lacks_message, put_back_if}

abbrev pub bytes_in : Part → List ℕ
bytes_in None = []
bytes_in (Some bytes) = bytes

-- the bytes that a read gives of a message: its data, and in data mode its control before it
abbrev pub bytes_read : Prot → Msg → List ℕ
bytes_read Prot.Norm m = bytes_in m.dat
bytes_read Prot.Dat m = bytes_in m.ctl ++ bytes_in m.dat
bytes_read Prot.Dis m = bytes_in m.dat

-- a message that a read under the norm protocol does not read
abbrev pub is_unread : Prot → Msg → Bool
is_unread Prot.Norm m = is_some m.ctl
is_unread Prot.Dat m = false
is_unread Prot.Dis m = false

-- a read that has read bytes goes on to this message: it has bytes, and they are read
abbrev pub goes_on_to : Prot → Msg → Bool
goes_on_to prot m = nat_lt 0 (length (bytes_read prot m)) && not (is_unread prot m)

-- the messages that one read may reach: the first, and in byte-stream mode, where that has bytes, those
-- behind it to which the read goes on
abbrev pub reached : ReadMode → Prot → List Msg → List Msg
reached mode prot [] = []
reached Rnorm prot (m ∷ q) =
    m ∷ (if nat_lt 0 (length (bytes_read prot m)) then take_while (goes_on_to prot) q else [])
reached Rmsgn prot (m ∷ q) = m ∷ []
reached Rmsgd prot (m ∷ q) = m ∷ []

abbrev pub bytes_of_all : Prot → List Msg → List ℕ
bytes_of_all prot q = flat_map (bytes_read prot) q

-- the bytes of the first n messages that one read may reach
abbrev pub bytes_reached : ReadMode → Prot → ℕ → List Msg → List ℕ
bytes_reached mode prot n q = bytes_of_all prot (take n (reached mode prot q))

-- the number of these messages that a read of at most n bytes gives whole
abbrev pub whole_in : Prot → ℕ → List Msg → ℕ
whole_in prot n [] = 0
whole_in prot n (m ∷ q) =
    let size = length (bytes_read prot m) in if nat_le size n then suc (whole_in prot (n - size) q) else 0

-- the rest of a message of which some bytes are read, and not all. Of control and data, control is read
-- first. A read that discards control takes all of it, and a read that discards messages leaves nothing
abbrev pub rest_of : ReadMode → Prot → ℕ → Msg → Option Msg
rest_of Rmsgd prot n m = None
rest_of mode Prot.Norm n m = (cut_of m None (Some n)).rest
rest_of mode Prot.Dat n m = (cut_of m (Some n) (Some (n - length (bytes_in m.ctl)))).rest
rest_of mode Prot.Dis n m = (cut_of m (Some (length (bytes_in m.ctl))) (Some n)).rest

-- the first n messages of a head are gone
abbrev pub without_first : {K : Type 0} → Image K → End → ℕ → Image K
without_first image e n = with_head image e (drop n (end_of image e).head)

-- and this rest of the last of them is put back
abbrev pub with_rest : {K : Type 0} → Image K → End → ℕ → Option Msg → Image K
with_rest image e n rest = with_head image e (put_back_if (drop n (end_of image e).head) rest)

-- the rest of a list whose first message, where the read reaches it, has more bytes than are still to be read
abbrev pub cut_first : ReadMode → Prot → ℕ → Option Msg → List Msg → List Msg
cut_first mode prot n None q = q
cut_first mode prot zero (Some m) q = q
cut_first mode prot (suc n) (Some m) q = put_back_if (drop 1 q) (rest_of mode prot (suc n) m)

-- the bytes of the first message's data (no public clause cites it)
abbrev pub bytes_of_first : List Msg → Option (List ℕ)
bytes_of_first [] = None
bytes_of_first (m ∷ q) = m.dat

-- what was made says the bytes of the first message's data (no public clause cites it)
abbrev pub SaysData : {A X : Type 0} → (A → Reply) → Result A X → List Msg → Type 0
SaysData says result q = IfOk result (λ made. IfSome (bytes_of_first q) (λ bytes. says made ≡ Replies.Read bytes))

-- one message waits, which has data alone, n bytes or fewer (no public clause cites it)
pub record IsAlone (n : ℕ) (q : List Msg) : Type 0 where
  pub m : Msg
  pub only : q ≡ m ∷ []
  pub bare : m.ctl ≡ None
  pub given : is_some m.dat ≡ true
  pub fits : part_len m.dat ≤ n

-- a read of n bytes takes bytes of the first message alone, which has data and no control (no public clause
-- cites it)
pub record IsReadAlone (mode : ReadMode) (prot : Prot) (n : ℕ) (q : List Msg) (m : Msg) : Type 0 where
  pub first : Some m ≡ slice_get q 0
  pub bare : m.ctl ≡ None
  pub given : is_some m.dat ≡ true
  pub alone : (n < part_len m.dat) ⊎ (None ≡ slice_get (reached mode prot q) 1)

-- the bytes that are read of a list of messages, and the rest of it
pub record Reading : Type 0 where
  pub bytes : List ℕ
  pub stays : List Msg

-- at most n bytes of the messages that the read reaches. Those that are given whole are gone; of the one
-- behind them, where bytes are still to be read, the rest is put back
abbrev pub read_of : ReadMode → Prot → ℕ → List Msg → Reading
read_of mode prot n q =
    let reach = reached mode prot q in
    let whole = whole_in prot n reach in
    let left = n - length (bytes_of_all prot (take whole reach)) in
    record {
      bytes = take n (bytes_of_all prot reach);
      stays = cut_first mode prot left (slice_get reach whole) (drop whole q);
    }

-- where the first messages are gone, and this rest is put back, those stay that a read leaves (no public
-- clause cites it)
abbrev pub LeavesAsRead : ReadMode → Prot → ℕ → List Msg → ℕ → Option Msg → Type 0
LeavesAsRead mode prot n q gone rest = put_back_if (drop gone q) rest ≡ (read_of mode prot n q).stays

-- whether the first message is one that the mode does not read
abbrev pub is_bad_message : Prot → List Msg → Bool
is_bad_message prot [] = false
is_bad_message prot (m ∷ q) = is_unread prot m

-- the refusals of a read; a read of no bytes looks at nothing, and has none
abbrev pub read_refusals : {K : Type 0} → Image K → End → ℕ → List (Bool × Refusal)
read_refusals image e zero = []
read_refusals image e (suc n) =
    let end = end_of image e in
    (is_bad_message end.state.prot end.head, BadMessage) ∷ (lacks_message end (first_message end.head) (λ m. true), WouldWait) ∷ []

abbrev pub read_effect : {K : Type 0} → Image K → End → ℕ → Effect (Image K) K
read_effect image e zero = effect image (Replies.Read [])
read_effect image e (suc n) =
    let end = end_of image e in
    let reading = read_of end.state.mode end.state.prot (suc n) end.head in
    effect (with_head image e reading.stays) (Replies.Read reading.bytes)
