-- A service call that is not refused, and what it leaves.
use Rattle.std.proofs.Common.{◌≡◌, ◌≤◌, ◌<◌, ◌+◌, ◌-◌, ◌&&◌, not, ℕ, Bool, true, false, Option, Some, None, is_some, List, [], ◌∷◌, length, drop, refl, sym, ap, arith}
use Rattle.std.proofs.lemmas.Bool.{and_parts}
use Rattle.strm_msg.specs.Message.{Msg}
use Rattle.strm_msg.specs.declared.words.End.{End}
use Rattle.strm_msg.specs.declared.words.Side.{Side}
use Rattle.strm_msg.specs.declared.words.Side.TheVariants.{Rd, Wr}
use Rattle.strm_queue.specs.Queue.{put_back_in}
use Rattle.strm_module.specs.Kinds.{Meaning, AnswersStay}
use Rattle.strm_chain_end.specs.End.{in_drv, list_at}
use Rattle.strm_chain_end.specs.First.{first_message}
use Rattle.strm_chain_end.specs.Change.{is_programs}
use Rattle.strm_chain_ends.specs.Image.{Image, end_of}
use Rattle.strm_chain_ends.specs.Order.{IsOrdered}
use Rattle.strm_chain_ends.specs.Same.{SameModules}
use Rattle.strm_chain_ends.proofs.OrderLemmas.{end_ordered}
use Rattle.strm_chain.proofs.QuietLemmas.{same_end}
use Rattle.strm_chain.proofs.SameLemmas.{deliver_keeps, in_drv_keeps, with_end_keeps}
use Rattle.strm_chain.proofs.OrderLemmas.{delivered_ordered}
use Rattle.strm_head_calls.specs.declared.refusal.Refusal.{Refusal}
use Rattle.strm_head_calls.specs.declared.request.Wanted.{Wanted}
use Rattle.strm_head_calls.specs.declared.service.ServiceCall.{ServiceCall}
use Rattle.strm_head_calls.specs.declared.service.ServiceCall.TheVariants.{Getq, Putbq, Putnext, Bcanputnext, Qsize}
use Rattle.strm_head_calls.specs.Refusal.{first_that_holds}
use Rattle.strm_head_calls.specs.Service.{is_question, needs_queue}
use Rattle.strm_head_ioctl.specs.Ask.{is_empty}
use Rattle.strm_head_ioctl.specs.Outside.{has_output, take_refusals, taken_out}
use Rattle.strm_head_service.specs.declared.served.Served.{Served}
use Rattle.strm_head_service.specs.declared.served.Served.TheVariants.{Module, Output}
use Rattle.strm_head_service.specs.Served.{served_at, is_output, spot_past}
use Rattle.strm_head_service.specs.Serve.{takes_first, lacks_queue, must_wait, module_waits, output_waits, takes_none, service_refusals, module_served, output_served, served_by}
use Rattle.strm_head_service.proofs.QueueLemmas.{queue_keeps, queue_ordered}

-- ---- a call that is not refused

none_of_four : (one two three four : Bool) (q r s t : Refusal) → first_that_holds ((one, q) ∷ (two, r) ∷ (three, s) ∷ (four, t) ∷ []) ≡ None → (one ≡ false) × (two ≡ false) × (three ≡ false) × (four ≡ false)
none_of_four false false false false q r s t h = (refl, refl, refl, refl)
none_of_four false false false true q r s t h = cc
none_of_four false false true four q r s t h = cc
none_of_four false true three four q r s t h = cc
none_of_four true two three four q r s t h = cc

not_false : (b : Bool) → not b ≡ false → b ≡ true
not_false true h = refl
not_false false h = cc

-- none of its refusals holds
pub record IsUnrefused {K : Type 0} (image : Image K) (e : End) (found : Option Served) (side : Side) (call : ServiceCall) : Type 0 where
  pub opened : (not (is_output found) && not (end_of image e).is_open) ≡ false
  pub whole : image.broken ≡ false
  pub has : lacks_queue image e found side call ≡ false
  pub can : must_wait image e found side call ≡ false

pub unrefused : {K : Type 0} (image : Image K) (e : End) (name : List ℕ) (side : Side) (call : ServiceCall) → first_that_holds (service_refusals image e name side call) ≡ None → IsUnrefused image e (served_at image e name) side call
unrefused image e name side call h =
    let found = served_at image e name in
    let none = none_of_four (not (is_output found) && not (end_of image e).is_open) image.broken (lacks_queue image e found side call) (must_wait image e found side call) _ _ _ _ h in
    record { opened = none.0; whole = none.1; has = none.2; can = none.3 }

-- the name means something
pub served_there : {K : Type 0} (image : Image K) (e : End) (found : Option Served) (side : Side) (call : ServiceCall) → lacks_queue image e found side call ≡ false → is_some found ≡ true
served_there image e None side call has = cc
served_there image e (Some served) side call has = refl

-- a module's end is open
pub module_opened : (is_open : Bool) → not is_open ≡ false → is_open ≡ true
module_opened is_open h = not_false is_open h

needed : (needs program : Bool) → (needs && not program) ≡ false → needs ≡ true → program ≡ true
needed true true h is = refl
needed true false h is = cc
needed false program h is = cc

-- with a queue on the side, where the call needs one
pub queue_there : {K : Type 0} (image : Image K) (e : End) (i : ℕ) (side : Side) (call : ServiceCall) → lacks_queue image e (Some (Module i)) side call ≡ false → needs_queue call ≡ true → is_programs (end_of image e) i side ≡ true
queue_there image e i side call has needs = needed (needs_queue call) (is_programs (end_of image e) i side) has needs

first_taken : (flag : Wanted) (first : Option Msg) → not (takes_first flag first) ≡ false → is_some first ≡ true
first_taken flag None h = cc
first_taken flag (Some m) h = refl

-- and with a message, where a getq takes one
pub message_there : {K : Type 0} (image : Image K) (e : End) (i : ℕ) (side : Side) (flag : Wanted) → module_waits image e i side (Getq flag) ≡ false → is_some (first_message (list_at (end_of image e) i side)) ≡ true
message_there image e i side flag can = first_taken flag (first_message (list_at (end_of image e) i side)) can

-- a getq of an output that is not refused is a take that is not
unwaited : (flag : Wanted) (q : List Msg) (is_open : Bool) → (not (is_empty q && not is_open) && not (takes_first flag (first_message q))) ≡ false → (is_empty q && is_open) ≡ false
unwaited flag [] true h = cc
unwaited flag [] false h = refl
unwaited flag (m ∷ q) is_open h = refl

none_of_take : (one two three four : Bool) (q r s t : Refusal) → one ≡ false → two ≡ false → three ≡ false → four ≡ false → first_that_holds ((one, q) ∷ (two, r) ∷ (three, s) ∷ (four, t) ∷ []) ≡ None
none_of_take one two three four q r s t a b c d = rw (a, b, c, d) refl

pub take_unrefused : {K : Type 0} (image : Image K) (e : End) (flag : Wanted) → has_output image e ≡ true → image.broken ≡ false → output_waits (end_of image e) (Getq flag) ≡ false → first_that_holds (take_refusals image e) ≡ None
take_unrefused image e flag output whole can =
    none_of_take (not (has_output image e) && not (end_of image e).is_open) image.broken (not (has_output image e)) (is_empty (end_of image e).drv && (end_of image e).is_open) _ _ _ _
    (rw output refl) whole (rw output refl) (unwaited flag (end_of image e).drv (end_of image e).is_open can)

-- ---- what it leaves

same_image : {K : Type 0} (image : Image K) → SameModules image image
same_image image =
    record { driver = refl; broken = refl; on_a = same_end image.a; on_b = same_end image.b }

taken_keeps : {K : Type 0} (image : Image K) (e : End) (q : List Msg) → SameModules image (taken_out image e q).image
taken_keeps image e [] = same_image image
taken_keeps image e (m ∷ q) = with_end_keeps image e (in_drv (end_of image e) q) (in_drv_keeps (end_of image e) q)

output_keeps : {K : Type 0} (image : Image K) (e : End) (call : ServiceCall) → SameModules image (output_served image e call)
output_keeps image e (Getq flag) = taken_keeps image e (end_of image e).drv
output_keeps image e (Putbq m) =
    let end = end_of image e in
    let q = put_back_in end.drv m in with_end_keeps image e (in_drv end q) (in_drv_keeps end q)
output_keeps image e (Putnext m) = same_image image
output_keeps image e (Bcanputnext band) = same_image image
output_keeps image e Qsize = same_image image

output_leaves : {K : Type 0} (image : Image K) (e : End) (call : ServiceCall) → is_question call ≡ true → output_served image e call ≡ image
output_leaves image e (Getq flag) is = cc
output_leaves image e (Putbq m) is = cc
output_leaves image e (Putnext m) is = refl
output_leaves image e (Bcanputnext band) is = refl
output_leaves image e Qsize is = refl

none_taken : {K : Type 0} (image : Image K) (e : End) (q : List Msg) → is_empty q ≡ true → (taken_out image e q).image ≡ image
none_taken image e [] none = refl
none_taken image e (m ∷ q) none = cc

none_served : {K : Type 0} (image : Image K) (e : End) (call : ServiceCall) → takes_none (end_of image e) call ≡ true → output_served image e call ≡ image
none_served image e (Getq flag) none = none_taken image e (end_of image e).drv none
none_served image e (Putbq m) none = cc
none_served image e (Putnext m) none = cc
none_served image e (Bcanputnext band) none = cc
none_served image e Qsize none = cc

-- for kinds of any meaning
module _ {K : Type 0} (means : Meaning K) where
  module_keeps : (image : Image K) (e : End) (i : ℕ) (side : Side) (call : ServiceCall) → SameModules image (module_served means image e i side call)
  module_keeps image e i side (Getq flag) = queue_keeps image e i side (drop 1 (list_at (end_of image e) i side))
  module_keeps image e i side (Putbq m) = queue_keeps image e i side (put_back_in (list_at (end_of image e) i side) m)
  module_keeps image e i side (Putnext m) = deliver_keeps means image (spot_past e i side) m
  module_keeps image e i side (Bcanputnext band) = same_image image
  module_keeps image e i side Qsize = same_image image

  -- it keeps the parts that no message changes
  pub service_keeps : (image : Image K) (e : End) (found : Option Served) (side : Side) (call : ServiceCall) → SameModules image (served_by means image e found side call)
  service_keeps image e None side call = same_image image
  service_keeps image e (Some (Module i)) side call = module_keeps image e i side call
  service_keeps image e (Some Output) side call = output_keeps image e call

  module_leaves : (image : Image K) (e : End) (i : ℕ) (side : Side) (call : ServiceCall) → is_question call ≡ true → module_served means image e i side call ≡ image
  module_leaves image e i side (Getq flag) is = cc
  module_leaves image e i side (Putbq m) is = cc
  module_leaves image e i side (Putnext m) is = cc
  module_leaves image e i side (Bcanputnext band) is = refl
  module_leaves image e i side Qsize is = refl

  -- a question changes nothing
  pub service_leaves : (image : Image K) (e : End) (found : Option Served) (side : Side) (call : ServiceCall) → is_question call ≡ true → served_by means image e found side call ≡ image
  service_leaves image e None side call is = refl
  service_leaves image e (Some (Module i)) side call is = module_leaves image e i side call is
  service_leaves image e (Some Output) side call is = output_leaves image e call is

  -- nor does a getq of an output that holds nothing
  pub nothing_leaves : (image : Image K) (e : End) (found : Option Served) (side : Side) (call : ServiceCall) → (takes_none (end_of image e) call && is_output found) ≡ true → served_by means image e found side call ≡ image
  nothing_leaves image e None side call h = refl
  nothing_leaves image e (Some (Module i)) side call h =
      let never : false ≡ true = (and_parts (takes_none (end_of image e) call) false h).1 in cc
  nothing_leaves image e (Some Output) side call h =
      none_served image e call ((and_parts (takes_none (end_of image e) call) true h).0)

  module _ (stay : AnswersStay means) where
    module_ordered : (image : Image K) (e : End) (i : ℕ) (side : Side) (call : ServiceCall) → IsOrdered means image → IsOrdered means (module_served means image e i side call)
    module_ordered image e i side (Getq flag) ordered = queue_ordered means image e i side _ ordered
    module_ordered image e i side (Putbq m) ordered = queue_ordered means image e i side _ ordered
    module_ordered image e i side (Putnext m) ordered = delivered_ordered means stay image (spot_past e i side) m ordered
    module_ordered image e i side (Bcanputnext band) ordered = ordered
    module_ordered image e i side Qsize ordered = ordered

    taken_ordered : (image : Image K) (e : End) (q : List Msg) → IsOrdered means image → IsOrdered means (taken_out image e q).image
    taken_ordered image e [] ordered = ordered
    taken_ordered image e (m ∷ q) ordered = end_ordered means image e (in_drv (end_of image e) q) refl ordered

    output_ordered : (image : Image K) (e : End) (call : ServiceCall) → IsOrdered means image → IsOrdered means (output_served image e call)
    output_ordered image e (Getq flag) ordered = taken_ordered image e (end_of image e).drv ordered
    output_ordered image e (Putbq m) ordered =
        end_ordered means image e (in_drv (end_of image e) (put_back_in (end_of image e).drv m)) refl ordered
    output_ordered image e (Putnext m) ordered = ordered
    output_ordered image e (Bcanputnext band) ordered = ordered
    output_ordered image e Qsize ordered = ordered

    -- it keeps messages from going round
    pub service_ordered : (image : Image K) (e : End) (found : Option Served) (side : Side) (call : ServiceCall) → IsOrdered means image → IsOrdered means (served_by means image e found side call)
    service_ordered image e None side call ordered = ordered
    service_ordered image e (Some (Module i)) side call ordered = module_ordered image e i side call ordered
    service_ordered image e (Some Output) side call ordered = output_ordered image e call ordered
