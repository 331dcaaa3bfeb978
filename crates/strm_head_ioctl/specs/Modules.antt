-- Modules are put in, taken out and looked at (streamio(7): I_PUSH, I_POP, I_LOOK).
use Rattle.std.specs.Prelude.{ℕ, not, Bool, List, [], ◌∷◌, take}
use Rattle.arrayvec.specs.ArrayVec.{ArrayVec}
use Rattle.strm_msg.specs.declared.words.End.{End}
use Rattle.strm_module.specs.Kinds.{Meaning}
use Rattle.strm_module.specs.declared.shape.Shape.{Shape}
use Rattle.strm_chain_end.specs.Pair.{QueuePair}
use Rattle.strm_chain_end.specs.End.{shapes_of}
use Rattle.strm_chain_end.specs.Change.{has_room, inserted, removed}
use Rattle.strm_chain_ends.specs.Image.{Image, end_of, with_end}
use Rattle.strm_chain_ends.specs.Order.{goes_round}
use Rattle.strm_head_calls.specs.declared.refusal.Refusal.{Refusal}
use Rattle.strm_head_calls.specs.declared.refusal.Refusal.TheVariants.{Invalid, HungUp}
use Rattle.strm_head_calls.specs.declared.answer.Reply.TheVariants.{Push, Pop, Look}
use Rattle.strm_head_calls.specs.Effect.{Effect, effect, effect_taking}
use Rattle.strm_head_ioctl.specs.Ask.{is_empty}

-- the refusals of a push: no room for the module, messages that could go round a circle with it, and an end
-- that is hung up
abbrev pub push_refusals : {K : Type 0} → Meaning K → Image K → End → Shape K → List (Bool × Refusal)
push_refusals means image e shape =
    (not (has_room (end_of image e)), Invalid) ∷ (goes_round means image e shape, Invalid) ∷ ((end_of image e).state.hung, HungUp) ∷ []

-- just below the head, with empty queues
abbrev pub push_effect : {K : Type 0} → Image K → End → Shape K → Effect (Image K) K
push_effect image e shape = effect (with_end image e (inserted (end_of image e) shape)) Push

abbrev pub pop_refusals : {K : Type 0} → Image K → End → List (Bool × Refusal)
pop_refusals image e = (is_empty (end_of image e).modules, Invalid) ∷ ((end_of image e).state.hung, HungUp) ∷ []

-- the name of the topmost module
abbrev pub first_name : {K : Type 0} → List (QueuePair K) → ArrayVec ℕ
first_name [] = record { items = [] }
first_name (s ∷ modules) = s.shape.name

-- the messages in the queues of the module go with it
abbrev pub pop_effect : {K : Type 0} → Image K → End → Effect (Image K) K
pop_effect image e =
    let end = end_of image e in
    effect_taking (with_end image e (removed end)) (Pop (first_name end.modules)) (take 1 (shapes_of end))

abbrev pub look_refusals : {K : Type 0} → Image K → End → List (Bool × Refusal)
look_refusals image e = (is_empty (end_of image e).modules, Invalid) ∷ []

abbrev pub look_effect : {K : Type 0} → Image K → End → Effect (Image K) K
look_effect image e = effect image (Look (first_name (end_of image e).modules))
