-- The message that a getq would find first.
use Rattle.std.specs.Prelude.{ℕ, Option, Some, None, List, slice_get}
use Rattle.strm_msg.specs.Message.{Msg}
use Rattle.strm_msg.specs.declared.words.End.{End}
use Rattle.strm_msg.specs.declared.words.Side.{Side}
use Rattle.strm_msg.specs.declared.words.Side.TheVariants.{Rd, Wr}
use Rattle.strm_chain_end.specs.End.{list_at}
use Rattle.strm_chain_ends.specs.Image.{Image, end_of}
use Rattle.strm_head_service.specs.declared.served.Served.{Served}
use Rattle.strm_head_service.specs.declared.served.Served.TheVariants.{Module, Output}
use Rattle.strm_head_service.specs.Served.{served_at}

-- the first message of a queue that is served; the output of a wire is on the write side
abbrev pub first_by : {K : Type 0} → Image K → End → Option Served → Side → Option Msg
first_by image e None side = None
first_by image e (Some (Module i)) side = slice_get (list_at (end_of image e) i side) 0
first_by image e (Some Output) Wr = slice_get (end_of image e).drv 0
first_by image e (Some Output) Rd = None

abbrev pub first_served : {K : Type 0} → Image K → End → List ℕ → Side → Option Msg
first_served image e name side = first_by image e (served_at image e name) side
