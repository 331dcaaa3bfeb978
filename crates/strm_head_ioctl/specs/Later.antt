-- An ioctl of a program's own whose answer is asked for later.
use Rattle.std.specs.Prelude.{ℕ, ◌&&◌, ◌||◌, not, nat_lt, Bool, true, false, Option, None, Some, is_none, is_some, List, [], ◌∷◌}
use Rattle.strm_msg.specs.Message.{Part, part_len, ioctl_msg}
use Rattle.strm_msg.specs.declared.words.End.{End}
use Rattle.strm_module.specs.Kinds.{Meaning}
use Rattle.strm_chain_end.specs.Change.{asking, asking_none}
use Rattle.strm_chain.specs.declared.spot.Spot.TheVariants.{Down}
use Rattle.strm_chain_ends.specs.Image.{Image, end_of, with_state}
use Rattle.strm_chain.specs.Deliver.{deliver}
use Rattle.strm_head_calls.specs.declared.request.TheConstants.{MAX_DATA}
use Rattle.strm_head_calls.specs.declared.refusal.Refusal.{Refusal}
use Rattle.strm_head_calls.specs.declared.refusal.Refusal.TheVariants.{Invalid, HungUp, WouldWait}
use Rattle.strm_head_calls.specs.declared.answer.Reply.{Reply}
use Rattle.strm_head_calls.specs.declared.answer.Reply.TheVariants.{Str, Strput}
use Rattle.strm_head_calls.specs.Reply.{acknowledged}
use Rattle.strm_head_calls.specs.Effect.{Effect, effect}

-- the refusals of a strput: data that are too long, an end that is hung up, and an answer that is asked for
-- or kept already, or no id that is left
abbrev pub strput_refusals : {K : Type 0} → Image K → End → Part → List (Bool × Refusal)
strput_refusals image e dat =
    let state = (end_of image e).state in
    (nat_lt MAX_DATA (part_len dat), Invalid) ∷ (state.hung, HungUp) ∷ (is_some state.asked || is_some state.answer || is_none state.next, WouldWait) ∷ []

-- the refusals of a strget: no answer is asked for, or none has come and the ioctl is not dropped
abbrev pub strget_refusals : {K : Type 0} → Image K → End → Bool → List (Bool × Refusal)
strget_refusals image e drops =
    let state = (end_of image e).state in
    (is_none state.asked, Invalid) ∷ (not drops && is_none state.answer, WouldWait) ∷ []

-- its reply: the answer, or none where the ioctl is dropped before one came
abbrev pub strget_effect : {K : Type 0} → Image K → End → Effect (Image K) K
strget_effect image e =
    let state = (end_of image e).state in effect (with_state image e (asking_none state)) (Str (acknowledged state.answer))

-- the id of the ioctl; where none is left, it was refused
abbrev pub strput_reply : Option ℕ → Reply
strput_reply None = Strput 0
strput_reply (Some id) = Strput id

-- for kinds of any meaning
module _ {K : Type 0} (means : Meaning K) where
  -- an ioctl of an id goes down from the head, and its answer is asked for later
  abbrev pub put_of : Image K → End → ℕ → Part → Option ℕ → Image K
  put_of image e cmd dat None = image
  put_of image e cmd dat (Some id) =
      deliver means (with_state image e (asking (end_of image e).state (Some id))) (Down e 1) (ioctl_msg id cmd dat)

  -- the next id is taken
  abbrev pub strput_effect : Image K → End → ℕ → Part → Effect (Image K) K
  strput_effect image e cmd dat =
      let next = (end_of image e).state.next in effect (put_of image e cmd dat next) (strput_reply next)
