-- The names of the modules and of the driver on an end (streamio(7): I_LIST, I_FIND).
use Rattle.std.specs.Prelude.{ℕ, ◌&&◌, not, nat_le, Bool, List, [], ◌∷◌, length, map}
use Rattle.std.specs.List.{list_any}
use Rattle.std.specs.Str.{bytes_eq}
use Rattle.arrayvec.specs.ArrayVec.{ArrayVec}
use Rattle.strm_msg.specs.declared.words.End.{End}
use Rattle.strm_module.specs.declared.shape.TheConstants.{LONGEST_NAME}
use Rattle.strm_chain_end.specs.End.{EndState}
use Rattle.strm_chain_ends.specs.Image.{Image, end_of}
use Rattle.strm_head_calls.specs.declared.refusal.Refusal.{Refusal}
use Rattle.strm_head_calls.specs.declared.refusal.Refusal.TheVariants.{Invalid}
use Rattle.strm_head_calls.specs.declared.answer.Reply.TheVariants as Reply
use Rattle.strm_head_calls.specs.Effect.{Effect, effect}

-- the names of the modules, topmost first
abbrev pub names_of : {K : Type 0} → EndState K → List (ArrayVec ℕ)
names_of e = map (λ s. s.shape.name) e.modules

-- the driver is below them
abbrev pub list_effect : {K : Type 0} → Image K → End → Effect (Image K) K
list_effect image e =
    effect image (Reply.List (record { items = names_of (end_of image e) }) image.driver)

-- the refusals of a find: a name that has not 1 to 8 bytes
abbrev pub find_refusals : List ℕ → List (Bool × Refusal)
find_refusals name = (not (nat_le 1 (length name) && nat_le (length name) LONGEST_NAME), Invalid) ∷ []

abbrev pub has_name : ArrayVec ℕ → List ℕ → Bool
has_name own name = bytes_eq own.items name

-- the driver is no module
abbrev pub find_effect : {K : Type 0} → Image K → End → List ℕ → Effect (Image K) K
find_effect image e name =
    effect image (Reply.Find (list_any (λ own. has_name own name) (names_of (end_of image e))))
