-- What each step of a message keeps, its whole way keeps, and so does a move, and so do any moves.
use Rattle.std.proofs.Common.{◌+◌, ◌-◌, ℕ, Bool, true, false, Option, Some, None, List, [], ◌∷◌, fold, sym, subst, suc, zero}
use Rattle.strm_msg.specs.Message.{Msg, bare, ack_msg}
use Rattle.strm_msg.specs.declared.kind.MsgKind.TheVariants.{MSetopts}
use Rattle.strm_msg.specs.declared.words.End.{End}
use Rattle.strm_msg.specs.declared.words.Side.{Side}
use Rattle.strm_msg.specs.declared.words.Side.TheVariants.{Rd, Wr}
use Rattle.strm_module.specs.Kinds.{Meaning}
use Rattle.strm_module.specs.Driver.{partner}
use Rattle.strm_chain_end.specs.Head.{put_at_head}
use Rattle.strm_chain_end.specs.declared.driver.DriverSends.{DriverSends}
use Rattle.strm_chain_end.specs.declared.driver.DriverSends.TheVariants.{Nothing, Reply, Across, Options}
use Rattle.strm_chain_ends.specs.declared.place.Place.{Place}
use Rattle.strm_chain_ends.specs.Image.{Image, end_of, with_end, with_drv, count_of, put_at_driver, driven}
use Rattle.strm_chain.specs.declared.spot.Spot.{Spot}
use Rattle.strm_chain.specs.declared.spot.Spot.TheVariants.{Down, Up}
use Rattle.strm_chain.specs.Deliver.{Sender, SenderPast, send_on, head_gets, driver_sends, driver_gets, route, put_at, up_through, down_through, sent_down_with, sends_nothing, sends, up, down, deliver}
use Rattle.strm_chain.specs.Service.{Leads, serve_at, move_drv, move}

-- what each step keeps: a head, a driver or a module gets a message, a module serves, or a message is taken
-- from the driver's list
pub record StepsKeep {K : Type 0} (means : Meaning K) (Keeps : Image K → Image K → Type 0) : Type 0 where
  pub same : (image : Image K) → Keeps image image
  pub trans : (old mid new : Image K) → Keeps old mid → Keeps mid new → Keeps old new
  pub heads : (image : Image K) (e : End) (m : Msg) → Keeps image (with_end image e (put_at_head (end_of image e) m).state)
  pub drives : (image : Image K) (e : End) (m : Msg) → Keeps image (driven image e m)
  pub puts : (image : Image K) (e : End) (i : ℕ) (side : Side) (m : Msg) → Keeps image (put_at means image e i side m).image
  pub serves : (image : Image K) (e : End) (i : ℕ) (side : Side) → Keeps image (serve_at means image e i side).image
  pub takes : (image : Image K) (e : End) (q : List Msg) → Keeps image (with_drv image e q)

-- for kinds of any meaning
module _ {K : Type 0} (means : Meaning K) (Keeps : Image K → Image K → Type 0) (steps : StepsKeep means Keeps) where
  -- a message that goes on keeps it, whichever it is
  abbrev OnwardKeeps : Sender K → Type 0
  OnwardKeeps send = (e : End) (image : Image K) (m : Msg) → Keeps image (send e image m)

  abbrev OnwardPastKeeps : SenderPast K → Type 0
  OnwardPastKeeps send = (e : End) (n : ℕ) (image : Image K) (m : Msg) → Keeps image (send e n image m)

  -- outs that are carried one after another
  fold_keeps : {O : Type 0} (f : Image K → O → Image K) → ((j : Image K) (out : O) → Keeps j (f j out)) → (image : Image K) (outs : List O) → Keeps image (fold f image outs)
  fold_keeps f each image [] = steps.same image
  fold_keeps f each image (out ∷ outs) =
      steps.trans image (f image out) (fold f (f image out) outs) (each image out) (fold_keeps f each (f image out) outs)

  route_keeps : (down up : Image K → Msg → Image K) → ((j : Image K) (m : Msg) → Keeps j (down j m)) → ((j : Image K) (m : Msg) → Keeps j (up j m)) → (j : Image K) (out : Side × Msg) → Keeps j (route down up j out)
  route_keeps down up d u j (Wr, m) = d j m
  route_keeps down up d u j (Rd, m) = u j m

  send_on_keeps : (send : Sender K) → OnwardKeeps send → (e : End) (image : Image K) (o : Option Msg) → Keeps image (send_on send e image o)
  send_on_keeps send each e image None = steps.same image
  send_on_keeps send each e image (Some m) = each e image m

  nothing_keeps : OnwardKeeps sends_nothing
  nothing_keeps e image m = steps.same image

  head_gets_keeps : (send : Sender K) → OnwardKeeps send → OnwardKeeps (head_gets send)
  head_gets_keeps send each e image m =
      let h = put_at_head (end_of image e) m in
      let there = with_end image e h.state in
      steps.trans image there (send_on send e there h.sends) (steps.heads image e m) (send_on_keeps send each e there h.sends)

  driver_sends_keeps : (up : SenderPast K) → OnwardPastKeeps up → (old : Image K) (e : End) (image : Image K) (s : DriverSends) → Keeps image (driver_sends up old e image s)
  driver_sends_keeps up each old e image Nothing = steps.same image
  driver_sends_keeps up each old e image (Reply m) = each e (count_of old e) image m
  driver_sends_keeps up each old e image (Across m) =
      let p = partner old.driver e in each p (count_of old p) image m
  driver_sends_keeps up each old e image (Options mode prot marks id) =
      let n = count_of old e in
      let there = up e n image (bare (MSetopts mode prot marks)) in
      steps.trans image there (up e n there (ack_msg id 0 None)) (each e n image (bare (MSetopts mode prot marks))) (each e n there (ack_msg id 0 None))

  driver_gets_keeps : (up : SenderPast K) → OnwardPastKeeps up → OnwardKeeps (driver_gets up)
  driver_gets_keeps up each e image m =
      let d = put_at_driver image.driver e (end_of image e) m in
      let there = driven image e m in
      steps.trans image there (driver_sends up image e there d.sends) (steps.drives image e m) (driver_sends_keeps up each image e there d.sends)

  -- past any number of modules, if what happens behind them keeps it
  up_through_keeps : (head : Sender K) → OnwardKeeps head → OnwardPastKeeps (up_through means head)
  unfolding up_through
  up_through_keeps head each e zero image m = each e image m
  up_through_keeps head each e (suc n) image m =
      let p = put_at means image e (suc n) Rd m in
      let on = λ (j : Image K) (out : Side × Msg). up_through means head e n j out.1 in
      steps.trans image p.image (fold on p.image p.outs) (steps.puts image e (suc n) Rd m) (fold_keeps on (λ j out. up_through_keeps head each e n j out.1) p.image p.outs)

  down_through_keeps : (up : SenderPast K) → OnwardPastKeeps up → OnwardPastKeeps (down_through means up)
  unfolding down_through
  down_through_keeps up each e zero image m = driver_gets_keeps up each e image m
  down_through_keeps up each e (suc n) image m =
      let i = count_of image e - n in
      let p = put_at means image e i Wr m in
      let below = λ (k : Image K) (o : Msg). down_through means up e n k o in
      let above = λ (k : Image K) (o : Msg). up e (i - 1) k o in
      steps.trans image p.image (fold (route below above) p.image p.outs) (steps.puts image e i Wr m) (fold_keeps (route below above) (route_keeps below above (λ k o. down_through_keeps up each e n k o) (λ k o. each e (i - 1) k o)) p.image p.outs)

  -- what a head sends down, if what a head sends that it comes to keeps it
  sent_down_keeps : (send : Sender K) → OnwardKeeps send → OnwardKeeps (sent_down_with means send)
  sent_down_keeps send each e image m =
      down_through_keeps (λ p n j o. up_through means (head_gets send) p n j o) (up_through_keeps (head_gets send) (head_gets_keeps send each)) e (count_of image e) image m

  sends_keeps : (head_sent : Bool) → OnwardKeeps (sends means head_sent)
  sends_keeps true e image m = nothing_keeps e image m
  sends_keeps false e image m = sent_down_keeps sends_nothing nothing_keeps e image m

  pub up_keeps : (head_sent : Bool) → OnwardPastKeeps (up means head_sent)
  up_keeps head_sent = up_through_keeps (head_gets (sends means head_sent)) (head_gets_keeps (sends means head_sent) (sends_keeps head_sent))

  pub down_keeps : (head_sent : Bool) → OnwardPastKeeps (down means head_sent)
  down_keeps head_sent = down_through_keeps (up means head_sent) (up_keeps head_sent)

  -- a message that is handed in anywhere
  pub delivery_keeps : (image : Image K) (spot : Spot) (m : Msg) → Keeps image (deliver means image spot m)
  delivery_keeps image (Down e i) m = down_keeps false e (count_of image e + 1 - i) image m
  delivery_keeps image (Up e i) m = up_keeps false e i image m

  move_drv_keeps : (image : Image K) (e : End) (q : List Msg) → Keeps image (move_drv means image e q)
  move_drv_keeps image e [] = steps.same image
  move_drv_keeps image e (m ∷ q) =
      let p = partner image.driver e in
      let there = with_drv image e q in
      steps.trans image there (up means false p (count_of image p) there m) (steps.takes image e q) (up_keeps false p (count_of image p) there m)

  -- the move of a place
  pub move_keeps : (image : Image K) (place : Place) → Keeps image (move means image place)
  move_keeps image (Place.Wr e i) =
      let p = serve_at means image e i Wr in
      let below = λ (k : Image K) (o : Msg). down means false e (count_of image e - i) k o in
      let above = λ (k : Image K) (o : Msg). up means false e (i - 1) k o in
      steps.trans image p.image (fold (route below above) p.image p.outs) (steps.serves image e i Wr) (fold_keeps (route below above) (route_keeps below above (λ k o. down_keeps false e (count_of image e - i) k o) (λ k o. up_keeps false e (i - 1) k o)) p.image p.outs)
  move_keeps image (Place.Drv e) = move_drv_keeps image e (end_of image e).drv
  move_keeps image (Place.Rd e i) =
      let p = serve_at means image e i Rd in
      let on = λ (j : Image K) (out : Side × Msg). up means false e (i - 1) j out.1 in
      steps.trans image p.image (fold on p.image p.outs) (steps.serves image e i Rd) (fold_keeps on (λ j out. up_keeps false e (i - 1) j out.1) p.image p.outs)

  -- any moves, one after another
  pub moves_keep : (old : Image K) (moves : List Place) (new : Image K) → Leads means old moves new → Keeps old new
  moves_keep old [] new led = subst (λ (i : Image K). Keeps old i) (sym led) (steps.same old)
  moves_keep old (place ∷ moves) new led =
      steps.trans old (move means old place) new (move_keeps old place) (moves_keep (move means old place) moves new led.1)
