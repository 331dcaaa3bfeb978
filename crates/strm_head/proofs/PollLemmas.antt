-- What a poll tells agrees with what would refuse calls.
use Rattle.std.proofs.Common.{◌≡◌, ◌&&◌, ◌||◌, not, Bool, true, false, Option, Some, None, is_some, is_none, option_map, [], ◌∷◌, refl, sym, ◌∙◌, ap, slice_get}
use Rattle.strm_msg.specs.Message.{Msg}
use Rattle.strm_msg.specs.Kind.{is_high}
use Rattle.strm_msg.specs.declared.errno.Errno.{Errno}
use Rattle.strm_msg.specs.declared.words.End.{End}
use Rattle.strm_chain_end.specs.Canput.{below, full_in}
use Rattle.strm_module.specs.Kinds.{Meaning}
use Rattle.strm_chain_ends.specs.Image.{Image, end_of}
use Rattle.strm_head_calls.specs.declared.refusal.Refusal.TheVariants.{TooLong, HungUp, WouldWait}
use Rattle.strm_head_calls.specs.Refusal.{first_that_holds}
use Rattle.strm_head_calls.specs.Reply.{received_of}
use Rattle.strm_head_calls.specs.declared.request.Wanted.TheVariants as Wanteds
use Rattle.strm_head_msg.specs.Take.{getmsg_refusals}
use Rattle.strm_head_msg.specs.Send.{is_too_long}
use Rattle.strm_head_calls.specs.declared.answer.Polled.{Polled}
use Rattle.strm_head_ioctl.specs.Poll.{open_in, polled}
use Rattle.strm_head_calls.specs.Polled.{is_pri}
use Rattle.strm_head.specs.Polls.{AgreesWithCalls}

-- a getmsg of any message
gets_any : {K : Type 0} (image : Image K) (e : End) (hung : Bool) (first : Option Msg) → (end_of image e).state.hung ≡ hung → slice_get (end_of image e).head 0 ≡ first → (is_some (option_map received_of first) || hung) ≡ is_none (first_that_holds (getmsg_refusals image e Wanteds.Any))
gets_any image e true None h f = rw (f, h) refl
gets_any image e false None h f = rw (f, h) refl
gets_any image e hung (Some m) h f = rw f refl

-- a getmsg of a high one
gets_high : {K : Type 0} (image : Image K) (e : End) (high : Bool) (m : Msg) → is_high m.kind ≡ high → slice_get (end_of image e).head 0 ≡ Some m → is_pri (Some (received_of m)) ≡ is_none (first_that_holds (getmsg_refusals image e Wanteds.Hipri))
gets_high image e true m is f = rw (f, is) refl
gets_high image e false m is f = rw (f, is) refl

first_high : {K : Type 0} (image : Image K) (e : End) (first : Option Msg) → slice_get (end_of image e).head 0 ≡ first → is_some (option_map received_of first) ≡ true → is_pri (option_map received_of first) ≡ is_none (first_that_holds (getmsg_refusals image e Wanteds.Hipri))
first_high image e None f some = cc
first_high image e (Some m) f some = gets_high image e (is_high m.kind) m refl f

-- a write
sends : (long hung full : Bool) → long ≡ false → (not hung && not full) ≡ is_none (first_that_holds ((long, TooLong) ∷ ((hung, HungUp) ∷ ((full, WouldWait) ∷ []))))
sends true hung full fits = cc
sends false true full fits = refl
sends false false true fits = refl
sends false false false fits = refl

-- what is told of an open end of a stream that is not broken, to which no error came up
abbrev plain : {K : Type 0} → Image K → End → Polled
plain image e =
    let s = end_of image e in
    let q = below image.driver s 0 in
    let sends = not s.state.hung in
    record { first = option_map received_of (slice_get s.head 0); out = sends && not (full_in q 0); wrband = sends && open_in q; err = false; hup = s.state.hung; nval = false }

plain_is : {K : Type 0} (image : Image K) (e : End) → (end_of image e).is_open ≡ true → image.broken ≡ false → (end_of image e).state.rd_errno ≡ None → (end_of image e).state.wr_errno ≡ None → polled image e ≡ plain image e
plain_is image e opened whole rd wr = rw (opened, rd, wr, whole) refl

agrees_open : {K : Type 0} (means : Meaning K) (image : Image K) (e : End) → (end_of image e).is_open ≡ true → image.broken ≡ false → (end_of image e).state.rd_errno ≡ None → (end_of image e).state.wr_errno ≡ None → AgreesWithCalls means image e (polled image e)
agrees_open means image e opened whole rd wr =
    let s = end_of image e in
    let is : polled image e ≡ plain image e = plain_is image e opened whole rd wr in
    record {
      reads = λ maxctl maxdat. ap (λ (p : Polled). is_some p.first || p.hup) is ∙ rw (opened, rd, wr, whole) (gets_any image e s.state.hung (slice_get s.head 0) refl refl);
      pri = λ maxctl maxdat some. ap (λ (p : Polled). is_pri p.first) is ∙ rw (opened, rd, wr, whole) (first_high image e (slice_get s.head 0) refl (sym (ap (λ (p : Polled). is_some p.first) is) ∙ some));
      writes = λ dat fits. ap (λ (p : Polled). p.out) is ∙ rw (opened, rd, wr, whole) (sends (is_too_long None (Some dat)) s.state.hung (full_in (below image.driver s 0) 0) fits);
    }

agrees_at : {K : Type 0} (means : Meaning K) (image : Image K) (e : End) (opened broken : Bool) (rd wr : Option Errno) → (end_of image e).is_open ≡ opened → image.broken ≡ broken → (end_of image e).state.rd_errno ≡ rd → (end_of image e).state.wr_errno ≡ wr → (polled image e).nval ≡ false → (polled image e).err ≡ false → AgreesWithCalls means image e (polled image e)
agrees_at means image e false broken rd wr o b r w nval err = absurd (let no : true ≡ false = rw o at nval in cc)
agrees_at means image e true true rd wr o b r w nval err = absurd (let no : true ≡ false = rw (o, b) at err in cc)
agrees_at means image e true false (Some x) wr o b r w nval err = absurd (let no : true ≡ false = rw (o, b, r) at err in cc)
agrees_at means image e true false None (Some y) o b r w nval err = absurd (let no : true ≡ false = rw (o, b, r, w) at err in cc)
agrees_at means image e true false None None o b r w nval err = agrees_open means image e o b r w

pub tells : {K : Type 0} (means : Meaning K) (image : Image K) (e : End) → (polled image e).nval ≡ false → (polled image e).err ≡ false → AgreesWithCalls means image e (polled image e)
tells means image e nval err =
    agrees_at means image e (end_of image e).is_open image.broken (end_of image e).state.rd_errno (end_of image e).state.wr_errno refl refl refl refl nval err
