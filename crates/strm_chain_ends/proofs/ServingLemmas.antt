-- Where kinds always serve, what a place offers is its first message.
use Rattle.strm_module.specs.declared.turn.Turn.TheVariants.{Serves, Shut}
use Rattle.std.proofs.Common.{◌≡◌, ◌∙◌, ℕ, Bool, true, false, cond, Option, Some, None, option_map, List, [], ◌∷◌, slice_get, is_some, refl, ap, suc, zero}
use Rattle.strm_msg.specs.Message.{Msg}
use Rattle.strm_msg.specs.Marks.{WaterMarks}
use Rattle.strm_msg.specs.declared.words.Side.{Side}
use Rattle.strm_msg.specs.declared.words.Side.TheVariants.{Rd, Wr}
use Rattle.strm_module.specs.Kinds.{Acts, serving}
use Rattle.strm_module.specs.Shape.{marks_on}
use Rattle.strm_chain_end.specs.Pair.{QueuePair, list_on}
use Rattle.strm_chain_end.specs.End.{EndState, served_at, served_found}
use Rattle.strm_chain_end.specs.Modules.{waits_in, waits_well, HoldsCalm}
use Rattle.strm_chain_end.specs.Offer.{first_offer, offered, offer_by, offer_found, offer_at}
use Rattle.strm_chain_end.proofs.WaitLemmas.{all-at, waits-on}
use Rattle.strm_chain_ends.specs.declared.place.Place.{Place}
use Rattle.strm_chain_ends.specs.Image.{Image, end_of}
use Rattle.strm_chain_ends.specs.Path.{front_of}
use Rattle.strm_chain_ends.specs.Flow.{offer_of, may_front, due_front}
use Rattle.strm_chain_ends.specs.Held.{AreCalm}
use Rattle.strm_chain_ends.specs.Serving.{plain_may_front, plain_due_front, ServesWhatWaits}
use Rattle.strm_chain_ends.proofs.NextLemmas.{end_ordinary}

plain : (noenable : Bool) (o : Option WaterMarks) (q : List Msg) → waits_in noenable o q ≡ true → cond (is_some o) (offer_by (cond noenable Shut Serves) q) None ≡ first_offer (cond noenable [] q)
plain true None q h = refl
plain true (Some marks) q h = refl
plain false None [] h = refl
plain false None (m ∷ q) h = cc
plain false (Some marks) q h = refl

may_by : {K : Type 0} (image : Image K) (p : Place) (o : Option Msg) → may_front image p (option_map offered o) ≡ plain_may_front image p o
may_by image p None = refl
may_by image p (Some m) = refl

due_by : {K : Type 0} (image : Image K) (p : Place) (o : Option Msg) → due_front image p (option_map offered o) ≡ plain_due_front image p o
due_by image p None = refl
due_by image p (Some m) = refl

module _ {K : Type 0} (acts : Acts K) (answers : K → Side → Bool) where
  at_module : (e : EndState K) (i : ℕ) (side : Side) → HoldsCalm e → offer_at (serving acts answers) e i side ≡ first_offer (served_at e i side)
  at_module e zero side h = refl
  at_module e (suc i) side h =
      elim (slice_get e.modules i) as (λ (o : Option (QueuePair K)). slice_get e.modules i ≡ o → offer_found (serving acts answers) o side ≡ first_offer (served_found o side)) [
        | None ↦ λ at. refl
        | Some s ↦ λ at. plain s.shape.noenable (marks_on s.shape side) (list_on s side) (waits-on side s (all-at waits_well e.modules i s at h.modules))
      ] refl

  offers : (image : Image K) (p : Place) → AreCalm image → offer_of (serving acts answers) image p ≡ option_map offered (front_of image p)
  offers image (Place.Wr e i) h = at_module (end_of image e) i Wr (end_ordinary image e h)
  offers image (Place.Drv e) h = refl
  offers image (Place.Rd e i) h = at_module (end_of image e) i Rd (end_ordinary image e h)

  pub serves_what_waits : ServesWhatWaits acts answers
  serves_what_waits = record {
    may = λ image p h. ap (may_front image p) (offers image p h) ∙ may_by image p (front_of image p);
    due = λ image p h. ap (due_front image p) (offers image p h) ∙ due_by image p (front_of image p);
  }
