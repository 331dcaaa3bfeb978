-- Service: the move of a place (Programmer's Guide: STREAMS, "Service Procedures"; srv(9E), getq(9F)).
use Rattle.std.specs.Prelude.{◌≡◌, ℕ, ◌-◌, true, false, List, [], ◌∷◌, fold}
use Rattle.strm_msg.specs.Message.{Msg}
use Rattle.strm_msg.specs.declared.words.End.{End}
use Rattle.strm_msg.specs.declared.words.Side.{Side}
use Rattle.strm_msg.specs.declared.words.Side.TheVariants.{Rd, Wr}
use Rattle.strm_module.specs.Kinds.{Meaning}
use Rattle.strm_module.specs.Driver.{partner}
use Rattle.strm_chain_end.specs.End.{end_serves}
use Rattle.strm_chain_ends.specs.declared.place.Place.{Place}
use Rattle.strm_chain_ends.specs.Flow.{may}
use Rattle.strm_chain_ends.specs.Image.{Image, end_of, count_of, with_drv}
use Rattle.strm_chain.specs.Deliver.{ModuleStep, module_step, up, down, route}

-- for kinds of any meaning
module _ {K : Type 0} (means : Meaning K) where
  -- a module serves the first message of its queue of a side
  abbrev pub serve_at : Image K → End → ℕ → Side → ModuleStep K
  serve_at image e i side = module_step image e (end_serves means (end_of image e) i side)

  -- the driver sends the first message of its list up the partner
  abbrev pub move_drv : Image K → End → List Msg → Image K
  move_drv image e [] = image
  move_drv image e (m ∷ q) =
      let p = partner image.driver e in up means false p (count_of image p) (with_drv image e q) m

  -- the image after a place has moved: each out is carried to its end before the next
  abbrev pub move : Image K → Place → Image K
  move image (Place.Wr e i) =
      let p = serve_at image e i Wr in
      fold (λ j out. route (λ k o. down means false e (count_of image e - i) k o) (λ k o. up means false e (i - 1) k o) j out) p.image p.outs
  move image (Place.Drv e) = move_drv image e (end_of image e).drv
  move image (Place.Rd e i) =
      let p = serve_at image e i Rd in
      fold (λ j out. up means false e (i - 1) j out.1) p.image p.outs

  -- these moves lead from one image to another, and each place may move when it does
  abbrev pub Leads : Image K → List Place → Image K → Type 0
  Leads old [] new = new ≡ old
  Leads old (place ∷ places) new = (may means old place ≡ true) × Leads (move old place) places new
