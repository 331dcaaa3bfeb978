-- What a program serves, by its name: a module, or the output of a wire (noenable(9F)); and the way on from a
-- module (putnext(9F)).
use Rattle.std.specs.Prelude.{ℕ, ◌≡◌, ◌≤◌, ◌+◌, ◌-◌, ◌&&◌, Bool, true, false, Option, Some, None, List, [], ◌∷◌, length, if◌then◌else◌}
use Rattle.std.specs.Str.{bytes_eq}
use Rattle.strm_msg.specs.declared.words.End.{End}
use Rattle.strm_msg.specs.declared.words.Side.{Side}
use Rattle.strm_msg.specs.declared.words.Side.TheVariants.{Rd, Wr}
use Rattle.strm_module.specs.Driver.{driver_name}
use Rattle.strm_module.specs.declared.driver.TheConstants.{MOST_MODULES}
use Rattle.strm_chain_end.specs.Pair.{QueuePair}
use Rattle.strm_chain_end.specs.End.{EndState}
use Rattle.strm_chain_ends.specs.Image.{Image, end_of}
use Rattle.strm_chain.specs.declared.spot.Spot.{Spot}
use Rattle.strm_chain.specs.declared.spot.Spot.TheVariants.{Down, Up}
use Rattle.strm_head_ioctl.specs.Outside.{has_output}
use Rattle.strm_head_service.specs.declared.served.Served.{Served}
use Rattle.strm_head_service.specs.declared.served.Served.TheVariants.{Module, Output}

-- the first of these modules that has this name and whose service procedures are the program's, where the
-- first of them has this number
abbrev pub programs_from : {K : Type 0} → ℕ → List ℕ → List (QueuePair K) → Option ℕ
programs_from i name [] = None
programs_from i name (s ∷ rest) =
    if s.shape.noenable && bytes_eq s.shape.name.items name then Some i else programs_from (i + 1) name rest

-- the topmost such module of an end, counted from 1
abbrev pub programs_module : {K : Type 0} → EndState K → List ℕ → Option ℕ
programs_module e name = programs_from 1 name e.modules

-- whether an end is that of a wire, and a name the driver's
abbrev pub names_output : {K : Type 0} → Image K → End → List ℕ → Bool
names_output image e name = has_output image e && bytes_eq (driver_name image.driver) name

-- a module goes before the output
abbrev pub module_or : Option ℕ → Bool → Option Served
module_or (Some i) is_output = Some (Module i)
module_or None true = Some Output
module_or None false = None

-- what a name means on an end
abbrev pub served_at : {K : Type 0} → Image K → End → List ℕ → Option Served
served_at image e name = module_or (programs_module (end_of image e) name) (names_output image e name)

-- a module that is served is one of the end's, which are at most eight, and an output is that of a wire
abbrev pub IsThere : {K : Type 0} → Image K → End → Served → Type 0
IsThere image e (Module i) = (1 ≤ i) × (i ≤ length (end_of image e).modules) × (i ≤ MOST_MODULES)
IsThere image e Output = has_output image e ≡ true

abbrev pub is_output : Option Served → Bool
is_output (Some Output) = true
is_output found = false

-- the spot where a message is handed in that a module sends on to a side
abbrev pub spot_past : End → ℕ → Side → Spot
spot_past e i Wr = Down e (i + 1)
spot_past e i Rd = Up e (i - 1)
