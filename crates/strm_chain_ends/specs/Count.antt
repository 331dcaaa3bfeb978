-- The number of places, of messages that wait, and of those that set options of a head.
use Rattle.std.specs.Prelude.{ℕ, ◌+◌, Bool, true, false, List, [], ◌∷◌, ◌++◌, length, sum_by, is_some, if◌then◌else◌}
use Rattle.strm_msg.specs.Message.{Msg}
use Rattle.strm_msg.specs.declared.words.End.{End}
use Rattle.strm_msg.specs.declared.words.End.TheVariants.{A, B}
use Rattle.strm_msg.specs.declared.words.Side.TheVariants.{Rd, Wr}
use Rattle.strm_module.specs.Calm.{options_of, options_held}
use Rattle.strm_module.specs.declared.driver.Driver.{Driver}
use Rattle.strm_module.specs.declared.driver.Driver.TheVariants.{Echo}
use Rattle.strm_module.specs.Driver.{is_serviced}
use Rattle.strm_chain_end.specs.End.{EndState}
use Rattle.strm_chain_end.specs.declared.driver.DriverSends.{DriverSends}
use Rattle.strm_chain_end.specs.declared.driver.DriverSends.TheVariants.{Nothing, Reply, Across, Options}
use Rattle.strm_chain_end.specs.Modules.{Identity}
use Rattle.strm_chain_end.specs.Next.{has_queue}
use Rattle.strm_chain_ends.specs.declared.place.Place.{Place}
use Rattle.strm_chain_ends.specs.declared.place.Place.TheVariants as Places
use Rattle.strm_chain_ends.specs.Next.{modules_at}
use Rattle.strm_chain_ends.specs.Image.{Image}

-- whether a place is there: a queue that a module has, or a list of the driver that it serves
abbrev pub is_place : {K : Type 0} → Image K → Place → Bool
is_place image (Place.Wr e i) = has_queue Wr (modules_at image e) i
is_place image (Place.Drv e) = is_serviced image.driver e
is_place image (Place.Rd e i) = has_queue Rd (modules_at image e) i

-- the queues of modules, the first of which has this number
abbrev pub places_in : End → ℕ → List Identity → List Place
places_in e i [] = []
places_in e i (m ∷ rest) =
    (if is_some m.wr then Places.Wr e i ∷ [] else []) ++ ((if is_some m.rd then Places.Rd e i ∷ [] else []) ++ places_in e (i + 1) rest)

abbrev pub places_at : {K : Type 0} → Image K → End → List Place
places_at image e = (if is_serviced image.driver e then Places.Drv e ∷ [] else []) ++ places_in e 1 (modules_at image e)

-- the places that are there
abbrev pub places_of : {K : Type 0} → Image K → List Place
places_of image = places_at image A ++ places_at image B

abbrev pub place_count : {K : Type 0} → Image K → ℕ
place_count image = length (places_of image)

-- a measure of the messages of each queue, together
abbrev pub measured_on : {K : Type 0} → (List Msg → ℕ) → EndState K → ℕ
measured_on measure e = measure e.head + (measure e.drv + sum_by (λ s. measure s.rd + measure s.wr) e.modules)

abbrev pub measured : {K : Type 0} → (List Msg → ℕ) → Image K → ℕ
measured measure image = measured_on measure image.a + measured_on measure image.b

-- the messages in all queues
abbrev pub message_count : {K : Type 0} → Image K → ℕ
message_count image = measured (λ q. length q) image

-- whether a driver answers an ioctl that asks for options with them
abbrev pub answers_options : Driver → Bool
answers_options Echo = true
answers_options driver = false

-- the number of times that the messages of a driver set options of a head
abbrev pub options_driven : Bool → DriverSends → ℕ
options_driven answered Nothing = 0
options_driven answered (Reply m) = options_of answered m
options_driven answered (Across m) = options_of answered m
options_driven answered (Options mode prot marks id) = 1

-- the number of times that the messages in all queues set options of a head
abbrev pub options_count : {K : Type 0} → Image K → ℕ
options_count image = measured (options_held (answers_options image.driver)) image
