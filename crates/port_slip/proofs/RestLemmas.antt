-- What a SLIP module keeps once nothing must move.
use Rattle.std.proofs.Common.{◌≡◌, ℕ, Bool, true, false, cond, Option, Some, None, List, refl, ap, sym, ◌∙◌}
use Rattle.strm_msg.specs.Message.{Msg}
use Rattle.strm_msg.specs.declared.words.End.{End}
use Rattle.strm_msg.specs.declared.words.Side.TheVariants.{Rd}
use Rattle.strm_module.specs.Shape.{queues_on}
use Rattle.strm_module.specs.declared.turn.Turn.TheVariants.{Serves, Shut, Sends}
use Rattle.strm_chain_end.specs.Pair.{QueuePair}
use Rattle.strm_chain_end.specs.End.{pair_at}
use Rattle.strm_chain_end.specs.Canput.{slack_in}
use Rattle.strm_chain_end.specs.Offer.{offer_by, offer_found, offer_on}
use Rattle.strm_chain_end.specs.declared.offer.Offer.{Offer}
use Rattle.strm_chain_ends.specs.declared.place.Place.TheVariants as Places
use Rattle.strm_chain_ends.specs.Image.{Image, end_of}
use Rattle.strm_chain_ends.specs.Path.{ahead}
use Rattle.strm_chain_ends.specs.Flow.{due_front}
use Rattle.port_slip.specs.Frame.{holds_frame}
use Rattle.port_slip.specs.Slip.{slip, slip_turn}
use Rattle.port_slip.specs.SlipLaws.{NothingIsHeldBack}
use Rattle.port_slip.specs.declared.kinds.SlipKind.{SlipKind}
use Rattle.port_slip.specs.declared.kinds.SlipKind.TheVariants.{Slip}

-- what such a module offers where it keeps a whole frame, or none
abbrev offers : Bool → ℕ → List Msg → Option Offer
offers holds band waiting = offer_by (cond holds (Sends (Some band)) Serves) waiting

offer_is : (s : QueuePair SlipKind) (bytes : List ℕ) (band : ℕ) → s.shape.kind ≡ Slip bytes band → queues_on s.shape Rd ≡ true → s.shape.noenable ≡ false → offer_on slip s Rd ≡ offers (holds_frame bytes) band s.rd
offer_is s bytes band kind queues serves =
    ap (λ b. cond b (offer_by (cond s.shape.noenable Shut (slip_turn s.shape.kind Rd)) s.rd) None) queues
    ∙ ap (λ b. offer_by (cond b Shut (slip_turn s.shape.kind Rd)) s.rd) serves
    ∙ ap (λ k. offer_by (slip_turn k Rd) s.rd) kind

rests_if : (image : Image SlipKind) (e : End) (i band : ℕ) (waiting : List Msg) (holds : Bool) → due_front image (Places.Rd e i) (offers holds band waiting) ≡ false → slack_in (ahead image (Places.Rd e i)) band ≡ true → holds ≡ false
rests_if image e i band waiting false rests slack = refl
rests_if image e i band waiting true rests slack = let no : true ≡ false = sym slack ∙ rests in cc

pub nothing_is_held_back : NothingIsHeldBack
nothing_is_held_back image e i s bytes band quiet at kind queues serves slack =
    let offer : offer_found slip (pair_at (end_of image e).modules i) Rd ≡ offers (holds_frame bytes) band s.rd = ap (λ o. offer_found slip o Rd) at ∙ offer_is s bytes band kind queues serves in
    rests_if image e i band s.rd (holds_frame bytes) (sym (ap (due_front image (Places.Rd e i)) offer) ∙ quiet (Places.Rd e i)) slack
