-- Calls that ask about the messages at the head, and about room below it (streamio(7)).
use Rattle.std.specs.Prelude.{ℕ, not, Bool, true, false, List, [], ◌∷◌, length}
use Rattle.strm_msg.specs.Message.{Msg, part_len}
use Rattle.strm_msg.specs.declared.words.End.{End}
use Rattle.strm_queue.specs.Queue.{has_band}
use Rattle.strm_chain_end.specs.Canput.{below, full_in}
use Rattle.strm_chain_ends.specs.Image.{Image, end_of}
use Rattle.strm_head_calls.specs.declared.refusal.Refusal.{Refusal}
use Rattle.strm_head_calls.specs.declared.refusal.Refusal.TheVariants.{NoMessage}
use Rattle.strm_head_calls.specs.declared.answer.Reply.TheVariants.{Nread, Canput, Ckband, Getband}
use Rattle.strm_head_calls.specs.Effect.{Effect, effect}

-- the bytes of data of the first message
abbrev pub first_data : List Msg → ℕ
first_data [] = 0
first_data (m ∷ q) = part_len m.dat

-- I_NREAD
abbrev pub nread_effect : {K : Type 0} → Image K → End → Effect (Image K) K
nread_effect image e =
    let q = (end_of image e).head in effect image (Nread (length q) (first_data q))

-- I_CANPUT: the first write queue is not full in the band
abbrev pub canput_effect : {K : Type 0} → Image K → End → ℕ → Effect (Image K) K
canput_effect image e band = effect image (Canput (not (full_in (below image.driver (end_of image e) 0) band)))

-- I_CKBAND: an ordinary message of the band waits
abbrev pub ckband_effect : {K : Type 0} → Image K → End → ℕ → Effect (Image K) K
ckband_effect image e band = effect image (Ckband (has_band (end_of image e).head band))

abbrev pub is_empty : {X : Type 0} → List X → Bool
is_empty [] = true
is_empty (x ∷ xs) = false

abbrev pub getband_refusals : {K : Type 0} → Image K → End → List (Bool × Refusal)
getband_refusals image e = (is_empty (end_of image e).head, NoMessage) ∷ []

-- a high message is of band 0
abbrev pub first_band : List Msg → ℕ
first_band [] = 0
first_band (m ∷ q) = m.band

-- I_GETBAND
abbrev pub getband_effect : {K : Type 0} → Image K → End → Effect (Image K) K
getband_effect image e = effect image (Getband (first_band (end_of image e).head))
