-- A getq of the output of a wire is a take.
use Rattle.std.specs.Prelude.{◌≡◌, true, None}
use Rattle.strm_msg.specs.declared.words.End.{End}
use Rattle.strm_msg.specs.declared.words.Side.TheVariants.{Wr}
use Rattle.strm_module.specs.Driver.{driver_name}
use Rattle.strm_module.specs.Kinds.{Meaning}
use Rattle.strm_chain_ends.specs.Image.{Image, end_of}
use Rattle.strm_head_calls.specs.declared.request.Wanted.TheVariants.{Any}
use Rattle.strm_head_calls.specs.declared.service.ServiceCall.TheVariants.{Getq}
use Rattle.strm_head_calls.specs.Refusal.{first_that_holds}
use Rattle.strm_head_ioctl.specs.Outside.{has_output, take_refusals, take_effect}
use Rattle.strm_head_service.specs.Served.{programs_module}
use Rattle.strm_head_service.specs.Serve.{service_refusals, service_effect}

-- it is refused as a take is, and has its effect
pub record IsTake {K : Type 0} (means : Meaning K) (image : Image K) (e : End) : Type 0 where
  pub refused : first_that_holds (service_refusals image e (driver_name image.driver) Wr (Getq Any)) ≡ first_that_holds (take_refusals image e)
  pub image_is : (service_effect means image e (driver_name image.driver) Wr (Getq Any)).image ≡ (take_effect image e).image
  pub reply_is : (service_effect means image e (driver_name image.driver) Wr (Getq Any)).reply ≡ (take_effect image e).reply

-- at the end of a wire where no module of the program has the driver's name
abbrev pub GetqIsTake : {K : Type 0} → Meaning K → Type 0
GetqIsTake {K = K} means = (image : Image K) (e : End) → has_output image e ≡ true → programs_module (end_of image e) (driver_name image.driver) ≡ None → IsTake means image e
