-- A call that sends a message, or puts it back, shares refusals with a call that asks of the same queue.
use Rattle.std.proofs.Common.{◌≡◌, ℕ, Bool, true, false, Option, Some, None, List, [], ◌∷◌, not, ◌&&◌, refl, sym, subst, ap, ap₂, ◌∙◌}
use Rattle.strm_msg.specs.Message.{Msg}
use Rattle.strm_msg.specs.declared.words.End.{End}
use Rattle.strm_msg.specs.declared.words.Side.{Side}
use Rattle.strm_msg.specs.declared.words.Side.TheVariants.{Rd, Wr}
use Rattle.strm_chain_ends.specs.Image.{Image, end_of}
use Rattle.strm_head_calls.specs.Refusal.{first_that_holds}
use Rattle.strm_head_calls.specs.declared.refusal.Refusal.{Refusal}
use Rattle.strm_head_calls.specs.declared.refusal.Refusal.TheVariants.{Closed, Broken, Invalid, WouldWait}
use Rattle.strm_head_calls.specs.declared.service.ServiceCall.TheVariants.{Putbq, Putnext, Bcanputnext, Qsize}
use Rattle.strm_head_service.specs.declared.served.Served.{Served}
use Rattle.strm_head_service.specs.declared.served.Served.TheVariants.{Module, Output}
use Rattle.strm_head_service.specs.Served.{served_at, is_output}
use Rattle.strm_head_service.specs.Serve.{lacks_queue, must_wait, service_refusals}

-- the first of a service call's refusals, by what holds
abbrev first_by : Bool → Bool → Bool → Bool → Option Refusal
first_by closed broken lacks waits = first_that_holds ((closed, Closed) ∷ (broken, Broken) ∷ (lacks, Invalid) ∷ (waits, WouldWait) ∷ [])

-- one that holds of a call which lacks less and never waits holds of the other
holds_too : (closed broken less lacks waits : Bool) (refusal : Refusal) → (less ≡ true → lacks ≡ true) → first_by closed broken less false ≡ Some refusal → first_by closed broken lacks waits ≡ Some refusal
holds_too true broken less lacks waits refusal more is = is
holds_too false true less lacks waits refusal more is = is
holds_too false false true lacks waits refusal more is = rw (more refl) is
holds_too false false false lacks waits refusal more is = absurd cc

asked_waits : {K : Type 0} (image : Image K) (e : End) (found : Option Served) (side : Side) (band : ℕ) → must_wait image e found side (Bcanputnext band) ≡ false
asked_waits image e None side band = refl
asked_waits image e (Some (Module i)) side band = refl
asked_waits image e (Some Output) side band = refl

counted_waits : {K : Type 0} (image : Image K) (e : End) (found : Option Served) (side : Side) → must_wait image e found side Qsize ≡ false
counted_waits image e None side = refl
counted_waits image e (Some (Module i)) side = refl
counted_waits image e (Some Output) side = refl

sent_lacks : {K : Type 0} (image : Image K) (e : End) (found : Option Served) (side : Side) (m : Msg) → lacks_queue image e found side (Bcanputnext m.band) ≡ true → lacks_queue image e found side (Putnext m) ≡ true
sent_lacks image e None side m is = refl
sent_lacks image e (Some (Module i)) side m is = is
sent_lacks image e (Some Output) Rd m is = refl
sent_lacks image e (Some Output) Wr m is = refl

put_lacks : {K : Type 0} (image : Image K) (e : End) (found : Option Served) (side : Side) (m : Msg) → lacks_queue image e found side Qsize ≡ true → lacks_queue image e found side (Putbq m) ≡ true
put_lacks image e None side m is = refl
put_lacks image e (Some (Module i)) side m is = is
put_lacks image e (Some Output) Rd m is = refl
put_lacks image e (Some Output) Wr m is = absurd cc

-- what refuses a bcanputnext refuses a putnext
pub putnext_shares : {K : Type 0} (image : Image K) (e : End) (name : List ℕ) (side : Side) (m : Msg) (refusal : Refusal) → first_that_holds (service_refusals image e name side (Bcanputnext m.band)) ≡ Some refusal → first_that_holds (service_refusals image e name side (Putnext m)) ≡ Some refusal
putnext_shares image e name side m refusal is =
    let found = served_at image e name in
    let closed = not (is_output found) && not (end_of image e).is_open in
    holds_too closed image.broken (lacks_queue image e found side (Bcanputnext m.band)) (lacks_queue image e found side (Putnext m)) (must_wait image e found side (Putnext m)) refusal (sent_lacks image e found side m) (subst (λ (waits : Bool). first_by closed image.broken (lacks_queue image e found side (Bcanputnext m.band)) waits ≡ Some refusal) (asked_waits image e found side m.band) is)

-- and what refuses a qsize refuses a putbq
pub putbq_shares : {K : Type 0} (image : Image K) (e : End) (name : List ℕ) (side : Side) (m : Msg) (refusal : Refusal) → first_that_holds (service_refusals image e name side Qsize) ≡ Some refusal → first_that_holds (service_refusals image e name side (Putbq m)) ≡ Some refusal
putbq_shares image e name side m refusal is =
    let found = served_at image e name in
    let closed = not (is_output found) && not (end_of image e).is_open in
    holds_too closed image.broken (lacks_queue image e found side Qsize) (lacks_queue image e found side (Putbq m)) (must_wait image e found side (Putbq m)) refusal (put_lacks image e found side m) (subst (λ (waits : Bool). first_by closed image.broken (lacks_queue image e found side Qsize) waits ≡ Some refusal) (counted_waits image e found side) is)
