-- Calls that take the first message at the head, or look at it: getmsg, getpmsg and peek (getmsg(2);
-- streamio(7), I_PEEK).
use Rattle.std.specs.Prelude.{ℕ, ◌||◌, nat_le, Bool, true, false, Option, Some, None, is_none, List, [], ◌∷◌, if◌then◌else◌, drop}
use Rattle.strm_msg.specs.Kind.{is_high}
use Rattle.strm_msg.specs.Message.{Msg}
use Rattle.strm_msg.specs.declared.words.End.{End}
use Rattle.strm_chain_ends.specs.Image.{Image, end_of, with_head}
use Rattle.strm_head_calls.specs.declared.request.Priority.{Priority}
use Rattle.strm_head_calls.specs.declared.request.Priority.TheVariants.{Norm, Hipri}
use Rattle.strm_head_calls.specs.declared.request.Wanted.{Wanted}
use Rattle.strm_head_calls.specs.declared.request.GetFlag.{GetFlag}
use Rattle.strm_head_calls.specs.declared.refusal.Refusal.{Refusal}
use Rattle.strm_head_calls.specs.declared.refusal.Refusal.TheVariants.{Invalid, WouldWait}
use Rattle.strm_head_calls.specs.declared.answer.More.TheVariants.{Nothing}
use Rattle.strm_head_calls.specs.declared.answer.Received.{Received}
use Rattle.strm_head_calls.specs.declared.answer.Peeked.{Peeked}
use Rattle.strm_head_calls.specs.declared.answer.Reply.{Reply}
use Rattle.strm_head_calls.specs.Reply.{received_of}
use Rattle.strm_head_calls.specs.Effect.{Effect, effect}
use Rattle.strm_head_calls.specs.Cut.{Most, cut_of}
use Rattle.strm_chain_end.specs.First.{first_message, lacks_message, put_back_if}

-- whether a getmsg takes this message
abbrev pub matches_getmsg : Wanted → Msg → Bool
matches_getmsg Wanted.Any m = true
matches_getmsg Wanted.Hipri m = is_high m.kind

-- whether a getpmsg takes this message
abbrev pub matches_getpmsg : GetFlag → ℕ → Msg → Bool
matches_getpmsg GetFlag.Zero band m = false
matches_getpmsg GetFlag.Any band m = true
matches_getpmsg GetFlag.Band band m = is_high m.kind || nat_le band m.band
matches_getpmsg GetFlag.Hipri band m = is_high m.kind

abbrev pub getmsg_refusals : {K : Type 0} → Image K → End → Wanted → List (Bool × Refusal)
getmsg_refusals image e flag = (lacks_message (end_of image e) (first_message (end_of image e).head) (matches_getmsg flag), WouldWait) ∷ []

abbrev pub is_zero : GetFlag → Bool
is_zero GetFlag.Zero = true
is_zero GetFlag.Any = false
is_zero GetFlag.Band = false
is_zero GetFlag.Hipri = false

abbrev pub getpmsg_refusals : {K : Type 0} → Image K → End → ℕ → GetFlag → List (Bool × Refusal)
getpmsg_refusals image e band flag =
    (is_zero flag, Invalid) ∷ (lacks_message (end_of image e) (first_message (end_of image e).head) (matches_getpmsg flag band), WouldWait) ∷ []

-- the list of a head from whose first message this much is taken; the rest is put back
abbrev pub taken_from : List Msg → Most → Most → List Msg
taken_from [] maxctl maxdat = []
taken_from (m ∷ q) maxctl maxdat = put_back_if q (cut_of m maxctl maxdat).rest

-- the first message of a head is gone, and this rest of it is put back
abbrev pub with_first_cut : {K : Type 0} → Image K → End → Option Msg → Image K
with_first_cut image e rest = with_head image e (put_back_if (drop 1 (end_of image e).head) rest)

abbrev pub priority_of : Msg → Priority
priority_of m = if is_high m.kind then Hipri else Norm

-- the reply with the first message; at a hung up end without messages both parts have length 0
abbrev pub getmsg_reply : Option Msg → Most → Most → Reply
getmsg_reply None maxctl maxdat = Reply.Getmsg (Some []) (Some []) Norm Nothing
getmsg_reply (Some m) maxctl maxdat =
    let cut = cut_of m maxctl maxdat in Reply.Getmsg cut.ctl cut.dat (priority_of m) cut.more

abbrev pub getpmsg_reply : Option Msg → Most → Most → Reply
getpmsg_reply None maxctl maxdat = Reply.Getpmsg (Some []) (Some []) (Received.Band 0) Nothing
getpmsg_reply (Some m) maxctl maxdat =
    let cut = cut_of m maxctl maxdat in Reply.Getpmsg cut.ctl cut.dat (received_of m) cut.more

abbrev pub getmsg_effect : {K : Type 0} → Image K → End → Most → Most → Effect (Image K) K
getmsg_effect image e maxctl maxdat =
    let q = (end_of image e).head in effect (with_head image e (taken_from q maxctl maxdat)) (getmsg_reply (first_message q) maxctl maxdat)

abbrev pub getpmsg_effect : {K : Type 0} → Image K → End → Most → Most → Effect (Image K) K
getpmsg_effect image e maxctl maxdat =
    let q = (end_of image e).head in effect (with_head image e (taken_from q maxctl maxdat)) (getpmsg_reply (first_message q) maxctl maxdat)

-- the view that a peek gives of a message that it wants
abbrev pub shown_of : Msg → Most → Most → Peeked
shown_of m maxctl maxdat =
    let cut = cut_of m maxctl maxdat in record { ctl = cut.ctl; dat = cut.dat; flag = priority_of m }

abbrev pub peeked_of : Option Msg → Most → Most → Wanted → Option Peeked
peeked_of None maxctl maxdat flag = None
peeked_of (Some m) maxctl maxdat flag = if matches_getmsg flag m then Some (shown_of m maxctl maxdat) else None

-- a peek takes nothing away
abbrev pub peek_effect : {K : Type 0} → Image K → End → Most → Most → Wanted → Effect (Image K) K
peek_effect image e maxctl maxdat flag =
    effect image (Reply.Peek (peeked_of (first_message (end_of image e).head) maxctl maxdat flag))

-- no message is there, or the first is not the one that is wanted
abbrev pub shows_nothing : {K : Type 0} → Image K → End → Most → Most → Wanted → Bool
shows_nothing image e maxctl maxdat flag = is_none (peeked_of (first_message (end_of image e).head) maxctl maxdat flag)
