-- Settling that ends (Programmer's Guide: STREAMS, "Service Procedures").
use Rattle.std.specs.Prelude.{◌≡◌, true}
use Rattle.strm_module.specs.Kinds.{Meaning}
use Rattle.strm_chain_ends.specs.declared.place.Place.{Place}
use Rattle.strm_chain_ends.specs.Flow.{may}
use Rattle.strm_chain_ends.specs.Image.{Image}
use Rattle.strm_chain.specs.Service.{move}

-- the moves from an image end: whichever place moves that may, the moves from there end
pub data Ends {K : Type 0} (means : Meaning K) : Image K → Type 0 where
  rule : (image : Image K) → ((place : Place) → may means image place ≡ true → Ends means (move means image place)) → Ends means image
