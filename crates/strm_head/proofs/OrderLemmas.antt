-- What may refuse a call is looked for in the order of the refusals.
use Rattle.std.proofs.Common.{◌≡◌, zero, suc, not, Bool, true, false, Option, Some, None, List, [], ◌∷◌, ◌++◌, refl}
use Rattle.strm_msg.specs.declared.errno.Errno.{Errno}
use Rattle.strm_msg.specs.declared.words.End.{End}
use Rattle.strm_module.specs.declared.shape.Shape.{Shape}
use Rattle.strm_module.specs.Kinds.{Meaning}
use Rattle.strm_chain_ends.specs.Image.{Image, end_of}
use Rattle.strm_head_calls.specs.declared.request.Request.{Request}
use Rattle.strm_head_calls.specs.declared.request.Request.TheVariants.{Putmsg, Putpmsg, Getmsg, Getpmsg, Read, Write, Push, Nread, Peek, SetRead, GetRead, Canput, Ckband, Getband, Pop, Look, Find, Str, Strput, Strget, Flush, FlushBand, Close, Take, Service, Tick, Poll}
use Rattle.strm_head_calls.specs.declared.request.Request.TheVariants as Requests
use Rattle.strm_head_calls.specs.declared.refusal.Refusal.{Refusal}
use Rattle.strm_head_calls.specs.declared.refusal.Refusal.TheVariants.{Closed, Broken}
use Rattle.strm_head_msg.specs.Send.{putmsg_refusals, putpmsg_refusals, write_refusals}
use Rattle.strm_head_read.specs.Read.{read_refusals}
use Rattle.strm_head_msg.specs.Take.{getmsg_refusals, getpmsg_refusals}
use Rattle.strm_head_ioctl.specs.Ask.{getband_refusals}
use Rattle.strm_head_ioctl.specs.Modules.{push_refusals, pop_refusals, look_refusals}
use Rattle.strm_head_ioctl.specs.Names.{find_refusals}
use Rattle.strm_head_ioctl.specs.Ioctl.{str_refusals}
use Rattle.strm_head_ioctl.specs.Later.{strput_refusals, strget_refusals}
use Rattle.strm_head_ioctl.specs.Flush.{flush_refusals}
use Rattle.strm_head_ioctl.specs.Tick.{tick_refusals}
use Rattle.strm_head.specs.Effects.{error_refusals, refusals, are_in_order}

-- so it is of a call with these refusals of its own, whichever errors it looks at, where these have come up
-- or none
abbrev Ordered : {K : Type 0} → Image K → End → Bool × Bool → List (Bool × Refusal) → Option Errno → Option Errno → Type 0
Ordered image e looks own rd wr =
    are_in_order ((not (end_of image e).is_open, Closed) ∷ (image.broken, Broken) ∷ error_refusals looks rd wr ++ own) ≡ true

by_error : {K : Type 0} (image : Image K) (e : End) (looks : Bool × Bool) (own : List (Bool × Refusal)) (rd wr : Option Errno) → Ordered image e looks own None None → ((x : Errno) → Ordered image e looks own (Some x) None) → ((y : Errno) → Ordered image e looks own None (Some y)) → ((x y : Errno) → Ordered image e looks own (Some x) (Some y)) → Ordered image e looks own rd wr
by_error image e looks own None None none read write both = none
by_error image e looks own (Some x) None none read write both = read x
by_error image e looks own None (Some y) none read write both = write y
by_error image e looks own (Some x) (Some y) none read write both = both x y

ordered : {K : Type 0} (image : Image K) (e : End) (looks : Bool × Bool) (own : List (Bool × Refusal)) → Ordered image e looks own None None → ((x : Errno) → Ordered image e looks own (Some x) None) → ((y : Errno) → Ordered image e looks own None (Some y)) → ((x y : Errno) → Ordered image e looks own (Some x) (Some y)) → Ordered image e looks own (end_of image e).state.rd_errno (end_of image e).state.wr_errno
ordered image e looks own = by_error image e looks own (end_of image e).state.rd_errno (end_of image e).state.wr_errno

pub in_order : {K : Type 0} (means : Meaning K) (image : Image K) (e : End) (request : Request (Shape K)) → are_in_order (refusals means image e request) ≡ true
in_order means image e (Putmsg flag parts) = ordered image e (false, true) (putmsg_refusals image e parts.ctl parts.dat flag) refl (λ x. refl) (λ y. refl) (λ x y. refl)
in_order means image e (Putpmsg band flag parts) = ordered image e (false, true) (putpmsg_refusals image e parts.ctl parts.dat band flag) refl (λ x. refl) (λ y. refl) (λ x y. refl)
in_order means image e (Getmsg maxctl maxdat flag) = ordered image e (true, false) (getmsg_refusals image e flag) refl (λ x. refl) (λ y. refl) (λ x y. refl)
in_order means image e (Getpmsg maxctl maxdat band flag) = ordered image e (true, false) (getpmsg_refusals image e band flag) refl (λ x. refl) (λ y. refl) (λ x y. refl)
in_order means image e (Read zero) = ordered image e (true, false) [] refl (λ x. refl) (λ y. refl) (λ x y. refl)
in_order means image e (Read (suc n)) = ordered image e (true, false) (read_refusals image e (suc n)) refl (λ x. refl) (λ y. refl) (λ x y. refl)
in_order means image e (Write dat) = ordered image e (false, true) (write_refusals image e dat) refl (λ x. refl) (λ y. refl) (λ x y. refl)
in_order means image e (Push shape) = ordered image e (true, true) (push_refusals means image e shape) refl (λ x. refl) (λ y. refl) (λ x y. refl)
in_order means image e Nread = ordered image e (true, false) [] refl (λ x. refl) (λ y. refl) (λ x y. refl)
in_order means image e (Peek maxctl maxdat flag) = ordered image e (true, false) [] refl (λ x. refl) (λ y. refl) (λ x y. refl)
in_order means image e (SetRead mode prot) = ordered image e (true, true) [] refl (λ x. refl) (λ y. refl) (λ x y. refl)
in_order means image e GetRead = ordered image e (true, true) [] refl (λ x. refl) (λ y. refl) (λ x y. refl)
in_order means image e (Canput band) = ordered image e (false, true) [] refl (λ x. refl) (λ y. refl) (λ x y. refl)
in_order means image e (Ckband band) = ordered image e (true, false) [] refl (λ x. refl) (λ y. refl) (λ x y. refl)
in_order means image e Getband = ordered image e (true, false) (getband_refusals image e) refl (λ x. refl) (λ y. refl) (λ x y. refl)
in_order means image e Pop = ordered image e (true, true) (pop_refusals image e) refl (λ x. refl) (λ y. refl) (λ x y. refl)
in_order means image e Look = ordered image e (true, true) (look_refusals image e) refl (λ x. refl) (λ y. refl) (λ x y. refl)
in_order means image e Requests.List = ordered image e (true, true) [] refl (λ x. refl) (λ y. refl) (λ x y. refl)
in_order means image e (Find name) = ordered image e (true, true) (find_refusals name) refl (λ x. refl) (λ y. refl) (λ x y. refl)
in_order means image e (Str cmd dat) = ordered image e (true, true) (str_refusals image e dat) refl (λ x. refl) (λ y. refl) (λ x y. refl)
in_order means image e (Strput cmd dat) = ordered image e (true, true) (strput_refusals image e dat) refl (λ x. refl) (λ y. refl) (λ x y. refl)
in_order means image e (Strget drops) = ordered image e (true, true) (strget_refusals image e drops) refl (λ x. refl) (λ y. refl) (λ x y. refl)
in_order means image e (Flush r w) = ordered image e (true, true) (flush_refusals image e r w) refl (λ x. refl) (λ y. refl) (λ x y. refl)
in_order means image e (FlushBand band r w) = ordered image e (true, true) (flush_refusals image e r w) refl (λ x. refl) (λ y. refl) (λ x y. refl)
in_order means image e Close = refl
in_order means image e Take = refl
in_order means image e (Service name side call) = refl
in_order means image e (Tick ticks) = ordered image e (false, false) (tick_refusals ticks) refl (λ x. refl) (λ y. refl) (λ x y. refl)
in_order means image e Poll = refl
