-- What the service of a place would do rests on the module alone that has it.
use Rattle.std.proofs.Common.{◌≡◌, ◌≢◌, ℕ, Bool, true, false, cond, Option, Some, None, List, [], ◌∷◌, slice_get, slice_set, refl, sym, ◌∙◌, ap, suc, zero}
use Rattle.strm_msg.specs.Message.{Msg}
use Rattle.strm_msg.specs.declared.kind.MsgKind.{MsgKind}
use Rattle.strm_msg.specs.declared.kind.MsgKind.TheVariants.{MPcproto, MFlush}
use Rattle.strm_msg.specs.declared.words.End.{End}
use Rattle.strm_msg.specs.declared.words.End.TheVariants.{A, B}
use Rattle.strm_msg.specs.declared.words.Side.{Side}
use Rattle.strm_msg.specs.declared.words.Side.TheVariants.{Rd, Wr}
use Rattle.strm_module.specs.Kinds.{Meaning}
use Rattle.strm_queue.specs.Queue.{put_in, has_pcproto}
use Rattle.strm_module.specs.Calm.{IsCalm}
use Rattle.strm_module.specs.Module.{is_queued, serve_of, put_of, Taken}
use Rattle.strm_module.specs.declared.shape.Shape.{Shape}
use Rattle.strm_module.specs.declared.outs.Put.{Put}
use Rattle.strm_module.specs.declared.outs.Put.TheVariants.{Queue as Queued, Sent}
use Rattle.strm_module.specs.declared.turn.Turn.{Turn}
use Rattle.strm_module.specs.declared.turn.Turn.TheVariants.{Serves, Shut, Sends}
use Rattle.strm_chain_end.specs.Pair.{QueuePair, list_on, flushed_pair, after_put, pair_gets, pair_front, pair_turns, pair_serves, service_turn}
use Rattle.strm_chain_end.specs.End.{EndState, in_head, pair_at, set_pair, found_gets, found_serves, found_expired, end_gets, end_serves, expired_at}
use Rattle.strm_chain_end.specs.Head.{open_head, keeps, put_at_head}
use Rattle.strm_chain_end.specs.Offer.{turn_found}
use Rattle.strm_chain_ends.specs.declared.place.Place.{Place}
use Rattle.strm_chain_ends.specs.declared.place.Place.TheVariants as Places
use Rattle.strm_chain_ends.specs.Flow.{turn_of}
use Rattle.strm_module.specs.declared.driver.Driver.{Driver}
use Rattle.strm_module.specs.declared.driver.Driver.TheVariants.{Echo, Loop, Line, Wire}
use Rattle.strm_chain_ends.specs.Image.{Image, end_of, with_end, put_at_driver, input_flushed, driven}
use Rattle.strm_chain_ends.proofs.FrameLemmas.{driver_modules, pair_there}

either : {K : Type 0} (b : Bool) (e x : EndState K) → x.modules ≡ e.modules → (cond b e x).modules ≡ e.modules
either true e x h = refl
either false e x h = h

open_modules : {K : Type 0} (e : EndState K) (kind : MsgKind) (m : Msg) → (open_head e kind m).state.modules ≡ e.modules
open_modules e MPcproto m = either (has_pcproto e.head) e (in_head e (put_in e.head m)) refl
open_modules e kind m = refl

head_modules_if : {K : Type 0} (b : Bool) (e : EndState K) (m : Msg) → (cond b (open_head e m.kind m) (keeps e)).state.modules ≡ e.modules
head_modules_if true e m = open_modules e m.kind m
head_modules_if false e m = refl

-- a head changes no module
pub head_modules : {K : Type 0} (e : EndState K) (m : Msg) → (put_at_head e m).state.modules ≡ e.modules
head_modules e m = head_modules_if e.is_open e m

pub set_other : {X : Type 0} (xs : List X) (i j : ℕ) (x : X) → j ≢ i → slice_get (slice_set xs i x) j ≡ slice_get xs j
set_other [] i j x h = refl
set_other (y ∷ xs) zero zero x h = absurd (h refl)
set_other (y ∷ xs) zero (suc j) x h = refl
set_other (y ∷ xs) (suc i) zero x h = refl
set_other (y ∷ xs) (suc i) (suc j) x h = set_other xs i j x (λ e. h (ap suc e))

-- a flush of what came in to a wire leaves the modules
pub input_modules : {K : Type 0} (d : Driver) (far : EndState K) (kind : MsgKind) → (input_flushed d far kind).modules ≡ far.modules
input_modules Echo far kind = refl
input_modules Loop far kind = refl
input_modules Line far kind = refl
input_modules Wire far (MFlush true w band) = refl
input_modules Wire far (MFlush false w band) = refl
input_modules Wire far kind = refl

-- for kinds of any meaning
module _ {K : Type 0} (means : Meaning K) where
  pub turns_with : (image : Image K) (e : End) (s : EndState K) → s.modules ≡ (end_of image e).modules → (p : Place) → turn_of means (with_end image e s) p ≡ turn_of means image p
  turns_with image A s h (Place.Wr A i) = ap (λ ms. turn_found means (pair_at ms i) Wr) h
  turns_with image A s h (Place.Wr B i) = refl
  turns_with image A s h (Place.Rd A i) = ap (λ ms. turn_found means (pair_at ms i) Rd) h
  turns_with image A s h (Place.Rd B i) = refl
  turns_with image A s h (Place.Drv e) = refl
  turns_with image B s h (Place.Wr A i) = refl
  turns_with image B s h (Place.Wr B i) = ap (λ ms. turn_found means (pair_at ms i) Wr) h
  turns_with image B s h (Place.Rd A i) = refl
  turns_with image B s h (Place.Rd B i) = ap (λ ms. turn_found means (pair_at ms i) Rd) h
  turns_with image B s h (Place.Drv e) = refl

  pub turns_head : (image new : Image K) (e : End) (m : Msg) → new ≡ with_end image e (put_at_head (end_of image e) m).state → (p : Place) → turn_of means new p ≡ turn_of means image p
  turns_head image new e m is p =
      ap (λ i. turn_of means i p) is ∙ turns_with image e (put_at_head (end_of image e) m).state (head_modules (end_of image e) m) p

  turns_driven : (image : Image K) (e : End) (m : Msg) (p : Place) → turn_of means (driven image e m) p ≡ turn_of means image p
  turns_driven image A m p =
      let s = (put_at_driver image.driver A image.a m).state in
      turns_with (with_end image A s) B (input_flushed image.driver image.b m.kind) (input_modules image.driver image.b m.kind) p ∙ turns_with image A s (driver_modules image.driver A image.a m) p
  turns_driven image B m p = turns_with image B (put_at_driver image.driver B image.b m).state (driver_modules image.driver B image.b m) p

  pub turns_driver : (image new : Image K) (e : End) (m : Msg) → new ≡ driven image e m → (p : Place) → turn_of means new p ≡ turn_of means image p
  turns_driver image new e m is p = ap (λ i. turn_of means i p) is ∙ turns_driven image e m p

  -- a module at another number is as it was
  pair_other : (ms : List (QueuePair K)) (i j : ℕ) (s : QueuePair K) → j ≢ i → pair_at (set_pair ms i s) j ≡ pair_at ms j
  pair_other ms zero j s h = refl
  pair_other ms (suc i) zero s h = refl
  pair_other ms (suc i) (suc j) s h = set_other ms i j s (λ e. h (ap suc e))

  gets_other : (e : EndState K) (i j : ℕ) (side t : Side) (m : Msg) → j ≢ i → turn_found means (pair_at (end_gets means e i side m).state.modules j) t ≡ turn_found means (pair_at e.modules j) t
  gets_other e i j side t m h =
      elim (pair_at e.modules i) as (λ o. turn_found means (pair_at (found_gets means e i o side m).state.modules j) t ≡ turn_found means (pair_at e.modules j) t) [
        | None ↦ refl
        | Some s ↦ ap (λ o. turn_found means o t) (pair_other e.modules i j _ h)
      ]

  serves_other : (e : EndState K) (i j : ℕ) (side t : Side) → j ≢ i → turn_found means (pair_at (end_serves means e i side).state.modules j) t ≡ turn_found means (pair_at e.modules j) t
  serves_other e i j side t h =
      elim (pair_at e.modules i) as (λ o. turn_found means (pair_at (found_serves means e i o side).state.modules j) t ≡ turn_found means (pair_at e.modules j) t) [
        | None ↦ refl
        | Some s ↦ ap (λ o. turn_found means o t) (pair_other e.modules i j _ h)
      ]

  expires_other : (e : EndState K) (i j ticks : ℕ) (t : Side) → j ≢ i → turn_found means (pair_at (expired_at means e i ticks).modules j) t ≡ turn_found means (pair_at e.modules j) t
  expires_other e i j ticks t h =
      elim (pair_at e.modules i) as (λ o. turn_found means (pair_at (found_expired means e i o ticks).modules j) t ≡ turn_found means (pair_at e.modules j) t) [
        | None ↦ refl
        | Some s ↦ ap (λ o. turn_found means o t) (pair_other e.modules i j _ h)
      ]

  -- one end has changed in what one module does
  abbrev pub IsElsewhere : EndState K → EndState K → ℕ → Type 0
  IsElsewhere old new i = (j : ℕ) (t : Side) → j ≢ i → turn_found means (pair_at new.modules j) t ≡ turn_found means (pair_at old.modules j) t

  elsewhere : (image : Image K) (e : End) (s : EndState K) (i : ℕ) → IsElsewhere (end_of image e) s i → (p : Place) → p ≢ Places.Wr e i → p ≢ Places.Rd e i → turn_of means (with_end image e s) p ≡ turn_of means image p
  elsewhere image A s i h (Place.Wr A j) w r = h j Wr (λ e. w (ap (Places.Wr A) e))
  elsewhere image A s i h (Place.Wr B j) w r = refl
  elsewhere image A s i h (Place.Rd A j) w r = h j Rd (λ e. r (ap (Places.Rd A) e))
  elsewhere image A s i h (Place.Rd B j) w r = refl
  elsewhere image A s i h (Place.Drv e) w r = refl
  elsewhere image B s i h (Place.Wr A j) w r = refl
  elsewhere image B s i h (Place.Wr B j) w r = h j Wr (λ e. w (ap (Places.Wr B) e))
  elsewhere image B s i h (Place.Rd A j) w r = refl
  elsewhere image B s i h (Place.Rd B j) w r = h j Rd (λ e. r (ap (Places.Rd B) e))
  elsewhere image B s i h (Place.Drv e) w r = refl

  pub turns_gets : (image new : Image K) (e : End) (i : ℕ) (side : Side) (m : Msg) → new ≡ with_end image e (end_gets means (end_of image e) i side m).state → (p : Place) → p ≢ Places.Wr e i → p ≢ Places.Rd e i → turn_of means new p ≡ turn_of means image p
  turns_gets image new e i side m is p w r =
      ap (λ x. turn_of means x p) is ∙ elsewhere image e (end_gets means (end_of image e) i side m).state i (λ j t h. gets_other (end_of image e) i j side t m h) p w r

  pub turns_serves : (image new : Image K) (e : End) (i : ℕ) (side : Side) → new ≡ with_end image e (end_serves means (end_of image e) i side).state → (p : Place) → p ≢ Places.Wr e i → p ≢ Places.Rd e i → turn_of means new p ≡ turn_of means image p
  turns_serves image new e i side is p w r =
      ap (λ x. turn_of means x p) is ∙ elsewhere image e (end_serves means (end_of image e) i side).state i (λ j t h. serves_other (end_of image e) i j side t h) p w r

  pub turns_expires : (image new : Image K) (e : End) (i ticks : ℕ) → new ≡ with_end image e (expired_at means (end_of image e) i ticks) → (p : Place) → p ≢ Places.Wr e i → p ≢ Places.Rd e i → turn_of means new p ≡ turn_of means image p
  turns_expires image new e i ticks is p w r =
      ap (λ x. turn_of means x p) is ∙ elsewhere image e (expired_at means (end_of image e) i ticks) i (λ j t h. expires_other (end_of image e) i j ticks t h) p w r

pub after_shape : {K : Type 0} (s : QueuePair K) (side : Side) (put : Put) → (after_put s side put).pair.shape ≡ s.shape
after_shape s Rd (Queued m) = refl
after_shape s Wr (Queued m) = refl
after_shape s side (Sent outs) = refl

-- kinds of a calm vocabulary never change what their services would do
module _ {K : Type 0} (means : Meaning K) (calm : IsCalm means) where
  abbrev put_when : Shape K → Side → Msg → Bool → Taken K
  put_when s side m queued =
      cond queued (record { shape = s; answer = Queued m }) (record { shape = (serve_of means s side m).shape; answer = Sent (record { items = (serve_of means s side m).outs }) })

  put_steady : (s : Shape K) (side t : Side) (m : Msg) → means.turn (put_of means s side m).shape.kind t ≡ means.turn s.kind t
  put_steady s side t m =
      elim (is_queued s side m) as (λ b. means.turn (put_when s side m b).shape.kind t ≡ means.turn s.kind t) [
        | true ↦ refl
        | false ↦ calm.steady.acts s.kind side t m
      ]

  front_steady : (s : QueuePair K) (side t : Side) (q : List Msg) → means.turn (pair_front means s side q).pair.shape.kind t ≡ means.turn s.shape.kind t
  front_steady s side t [] = refl
  front_steady s side t (m ∷ q) = calm.steady.acts s.shape.kind side t m

  turn_steady : (s : QueuePair K) (side t : Side) (turn : Turn) → means.turn (pair_turns means s side turn).pair.shape.kind t ≡ means.turn s.shape.kind t
  turn_steady s side t Serves = front_steady s side t (list_on s side)
  turn_steady s side t Shut = refl
  turn_steady s side t (Sends band) = calm.steady.own s.shape.kind side t

  gets_found : (e : EndState K) (i : ℕ) (o : Option (QueuePair K)) (side t : Side) (m : Msg) → pair_at e.modules i ≡ o → turn_found means (pair_at (found_gets means e i o side m).state.modules i) t ≡ turn_found means (pair_at e.modules i) t
  gets_found e i None side t m at = refl
  gets_found e i (Some s) side t m at =
      let put = put_of means s.shape side m in
      ap (λ o. turn_found means o t) (pair_there e.modules i s (pair_gets means s side m).pair at)
      ∙ ap (λ h. means.turn h.kind t) (after_shape (record (flushed_pair s m.kind) { shape = put.shape }) side put.answer)
      ∙ put_steady s.shape side t m
      ∙ ap (λ o. turn_found means o t) (sym at)

  serves_found : (e : EndState K) (i : ℕ) (o : Option (QueuePair K)) (side t : Side) → pair_at e.modules i ≡ o → turn_found means (pair_at (found_serves means e i o side).state.modules i) t ≡ turn_found means (pair_at e.modules i) t
  serves_found e i None side t at = refl
  serves_found e i (Some s) side t at =
      ap (λ o. turn_found means o t) (pair_there e.modules i s (pair_serves means s side).pair at)
      ∙ turn_steady s side t (service_turn means s.shape side)
      ∙ ap (λ o. turn_found means o t) (sym at)

  own_end : (image : Image K) (e : End) (s : EndState K) → end_of (with_end image e s) e ≡ s
  own_end image A s = refl
  own_end image B s = refl

  pub gets_steady : (image new : Image K) (e : End) (i : ℕ) (side t : Side) (m : Msg) → new ≡ with_end image e (end_gets means (end_of image e) i side m).state → turn_found means (pair_at (end_of new e).modules i) t ≡ turn_found means (pair_at (end_of image e).modules i) t
  gets_steady image new e i side t m is =
      ap (λ x. turn_found means (pair_at (end_of x e).modules i) t) is ∙ ap (λ (s : EndState K). turn_found means (pair_at s.modules i) t) (own_end image e (end_gets means (end_of image e) i side m).state) ∙ gets_found (end_of image e) i (pair_at (end_of image e).modules i) side t m refl

  pub serves_steady : (image new : Image K) (e : End) (i : ℕ) (side t : Side) → new ≡ with_end image e (end_serves means (end_of image e) i side).state → turn_found means (pair_at (end_of new e).modules i) t ≡ turn_found means (pair_at (end_of image e).modules i) t
  serves_steady image new e i side t is =
      ap (λ x. turn_found means (pair_at (end_of x e).modules i) t) is ∙ ap (λ (s : EndState K). turn_found means (pair_at s.modules i) t) (own_end image e (end_serves means (end_of image e) i side).state) ∙ serves_found (end_of image e) i (pair_at (end_of image e).modules i) side t refl
