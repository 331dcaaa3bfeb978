-- An ioctl of a program's own is sent down, and its answer is awaited (streamio(7), I_STR).
use Rattle.std.specs.Prelude.{ℕ, nat_lt, Bool, Option, None, Some, is_none, List, [], ◌∷◌}
use Rattle.strm_msg.specs.Message.{Part, part_len, ioctl_msg}
use Rattle.strm_msg.specs.declared.words.End.{End}
use Rattle.strm_module.specs.Kinds.{Meaning}
use Rattle.strm_chain_end.specs.Change.{awaiting}
use Rattle.strm_chain.specs.declared.spot.Spot.TheVariants.{Down}
use Rattle.strm_chain_ends.specs.Image.{Image, end_of, with_state}
use Rattle.strm_chain.specs.Deliver.{deliver}
use Rattle.strm_head_calls.specs.declared.request.TheConstants.{MAX_DATA}
use Rattle.strm_head_calls.specs.declared.refusal.Refusal.{Refusal}
use Rattle.strm_head_calls.specs.declared.refusal.Refusal.TheVariants.{Invalid, HungUp, WouldWait}
use Rattle.strm_head_calls.specs.Effect.{Effect, effect_ioctl}

-- the refusals of an ioctl: data that are too long, an end that is hung up, and no id that is left
abbrev pub str_refusals : {K : Type 0} → Image K → End → Part → List (Bool × Refusal)
str_refusals image e dat =
    let state = (end_of image e).state in
    (nat_lt MAX_DATA (part_len dat), Invalid) ∷ (state.hung, HungUp) ∷ (is_none state.next, WouldWait) ∷ []

-- for kinds of any meaning
module _ {K : Type 0} (means : Meaning K) where
  -- an ioctl of an id goes down from the head, which awaits its answer
  abbrev pub asked_of : Image K → End → ℕ → Part → Option ℕ → Image K
  asked_of image e cmd dat None = image
  asked_of image e cmd dat (Some id) =
      deliver means (with_state image e (awaiting (end_of image e).state (Some id))) (Down e 1) (ioctl_msg id cmd dat)

  -- the next id is taken
  abbrev pub str_effect : Image K → End → ℕ → Part → Effect (Image K) K
  str_effect image e cmd dat = effect_ioctl (asked_of image e cmd dat (end_of image e).state.next)
