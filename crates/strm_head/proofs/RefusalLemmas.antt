-- The first refusal that holds, of those that all calls share and those of a call of its kind.
use Rattle.std.proofs.Common.{◌≡◌, ◌∙◌, ℕ, Bool, true, false, Option, Some, None, List, [], ◌∷◌, ◌++◌, refl, sym}
use Rattle.std.specs.Option.{option_or}
use Rattle.arrayvec.specs.ArrayVec.{ArrayVec}
use Rattle.strm_msg.specs.declared.words.End.{End}
use Rattle.strm_msg.specs.declared.words.Side.{Side}
use Rattle.strm_head_calls.specs.declared.service.ServiceCall.{ServiceCall}
use Rattle.strm_module.specs.declared.shape.Shape.{Shape}
use Rattle.strm_module.specs.Kinds.{Meaning}
use Rattle.strm_chain_ends.specs.Image.{Image}
use Rattle.strm_head_calls.specs.declared.request.Request.{Request}
use Rattle.strm_head_calls.specs.declared.request.Request.TheVariants.{Close, Take, Service, Poll}
use Rattle.strm_head_calls.specs.declared.refusal.Refusal.{Refusal}
use Rattle.strm_head_calls.specs.Refusal.{first_that_holds}
use Rattle.strm_head.specs.Effects.{common_refusals, own_refusals, is_common, refusal_of}

-- of two lists, one behind the other
pub first_of_both : (first later : List (Bool × Refusal)) → first_that_holds (first ++ later) ≡ option_or (first_that_holds first) (first_that_holds later)
first_of_both [] later = refl
first_of_both ((true, refusal) ∷ first) later = refl
first_of_both ((false, refusal) ∷ first) later = first_of_both first later

-- of all that may refuse a call that is refused by what refuses most
pub first_of_all : {K : Type 0} (means : Meaning K) (image : Image K) (e : End) (request : Request (Shape K)) → is_common request ≡ true → refusal_of means image e request ≡ option_or (first_that_holds (common_refusals image e request)) (first_that_holds (own_refusals means image e request))
first_of_all means image e Close other = cc
first_of_all means image e Take other = cc
first_of_all means image e (Service name side call) other = cc
first_of_all means image e Poll other = cc
first_of_all means image e request other = first_of_both (common_refusals image e request) (own_refusals means image e request)

pub common_of : {P : Type 0} (request : Request P) → (request ≡ Close → ⊥) → (request ≡ Take → ⊥) → ((name : ArrayVec ℕ) (side : Side) (call : ServiceCall) → request ≡ Service name side call → ⊥) → (request ≡ Poll → ⊥) → is_common request ≡ true
common_of Close c t s p = absurd (c refl)
common_of Take c t s p = absurd (t refl)
common_of (Service name side call) c t s p = absurd (s name side call refl)
common_of Poll c t s p = absurd (p refl)
common_of request c t s p = refl

pub none_behind : (first later : Option Refusal) → option_or first later ≡ None → later ≡ None
none_behind None later h = h
none_behind (Some refusal) later h = cc

-- of a call that is not refused none of its own holds
own_of : {K : Type 0} (means : Meaning K) (image : Image K) (e : End) (request : Request (Shape K)) → refusal_of means image e request ≡ None → is_common request ≡ true → first_that_holds (own_refusals means image e request) ≡ None
own_of means image e request h other =
    none_behind (first_that_holds (common_refusals image e request)) (first_that_holds (own_refusals means image e request)) (sym (first_of_all means image e request other) ∙ h)

pub own_none : {K : Type 0} (means : Meaning K) (image : Image K) (e : End) (request : Request (Shape K)) → refusal_of means image e request ≡ None → first_that_holds (own_refusals means image e request) ≡ None
own_none means image e Close h = refl
own_none means image e Take h = h
own_none means image e (Service name side call) h = h
own_none means image e Poll h = refl
own_none means image e request h = own_of means image e request h refl
