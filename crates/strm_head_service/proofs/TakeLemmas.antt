-- A getq of the output of a wire is a take.
use Rattle.std.proofs.Common.{◌≡◌, ◌&&◌, not, Bool, true, false, Option, Some, None, List, [], ◌∷◌, refl, ap, ap₂, sym, ◌∙◌}
use Rattle.std.specs.Str.{bytes_eq}
use Rattle.strm_msg.specs.Message.{Msg}
use Rattle.strm_msg.specs.declared.words.End.{End}
use Rattle.strm_msg.specs.declared.words.Side.TheVariants.{Wr}
use Rattle.strm_module.specs.Driver.{driver_name}
use Rattle.strm_module.specs.Kinds.{Meaning}
use Rattle.strm_module.specs.declared.driver.Driver.{Driver}
use Rattle.strm_module.specs.declared.driver.Driver.TheVariants.{Echo, Loop, Line, Wire}
use Rattle.strm_chain_end.specs.First.{first_message}
use Rattle.strm_chain_ends.specs.Image.{Image, end_of}
use Rattle.strm_head_calls.specs.declared.refusal.Refusal.TheVariants.{Closed, Broken, Invalid, WouldWait}
use Rattle.strm_head_calls.specs.declared.request.Wanted.TheVariants.{Any}
use Rattle.strm_head_calls.specs.declared.service.ServiceCall.TheVariants.{Getq}
use Rattle.strm_head_calls.specs.Refusal.{first_that_holds}
use Rattle.strm_head_ioctl.specs.Ask.{is_empty}
use Rattle.strm_head_ioctl.specs.Outside.{has_output}
use Rattle.strm_head_service.specs.declared.served.Served.{Served}
use Rattle.strm_head_service.specs.declared.served.Served.TheVariants.{Output}
use Rattle.strm_head_service.specs.Served.{served_at, module_or, programs_module, is_output}
use Rattle.strm_head_service.specs.Serve.{takes_first, lacks_queue, must_wait, served_by, reply_by}
use Rattle.strm_head_service.specs.Take.{IsTake, GetqIsTake}

own_name : (driver : Driver) → bytes_eq (driver_name driver) (driver_name driver) ≡ true
own_name Echo = refl
own_name Loop = refl
own_name Line = refl
own_name Wire = refl

-- the driver's name means the output
output_found : {K : Type 0} (image : Image K) (e : End) → has_output image e ≡ true → programs_module (end_of image e) (driver_name image.driver) ≡ None → served_at image e (driver_name image.driver) ≡ Some Output
output_found image e output none = ap₂ module_or none (ap₂ (λ a b. a && b) output (own_name image.driver))

-- a getq of any message waits where a take does
waits_alike : (q : List Msg) (is_open : Bool) → (not (is_empty q && not is_open) && not (takes_first Any (first_message q))) ≡ (is_empty q && is_open)
waits_alike [] true = refl
waits_alike [] false = refl
waits_alike (m ∷ q) is_open = refl

pub getq_is_take : {K : Type 0} (means : Meaning K) → GetqIsTake means
getq_is_take means image e output none =
    let found = output_found image e output none in
    let waits = waits_alike (end_of image e).drv (end_of image e).is_open in
    record {
      refused = rw (found, output, waits) refl;
      image_is = ap (λ found. served_by means image e found Wr (Getq Any)) found;
      reply_is = ap (λ found. reply_by image e found Wr (Getq Any)) found;
    }
