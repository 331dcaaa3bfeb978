-- The place where moves are stored.
use Rattle.std.specs.Prelude.{List}
use Rattle.strm_chain_ends.specs.declared.place.Place.{Place}
use Rattle.strm_chain.specs.declared.moves.Stored.{Stored}
use Rattle.strm_chain.specs.declared.moves.Stored.TheVariants.{Few, Many}

-- the places, wherever they are
abbrev pub places_in : Stored → List Place
places_in (Few places) = places
places_in (Many places) = places.value.items
