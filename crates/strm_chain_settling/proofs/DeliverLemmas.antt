-- A message that is delivered at a rank adds only below it, and a move takes one and adds only below it.
use Rattle.std.proofs.Common.{inl, inr, ◌≡◌, ◌∙◌, ◌-◌, ◌<◌, ◌≤◌, ℕ, Bool, true, false, cond, Option, Some, None, List, [], ◌∷◌, length, fold, is_some, refl, sym, ap, subst, arith, suc, zero}
use Rattle.strm_chain_ends.proofs.CalmLemmas.{le_same}
use Rattle.strm_msg.specs.Kind.{is_high}
use Rattle.strm_msg.specs.Message.{Msg}
use Rattle.strm_msg.specs.declared.words.End.{End}
use Rattle.strm_msg.specs.declared.words.End.TheVariants.{A, B}
use Rattle.strm_msg.specs.declared.words.Side.{Side}
use Rattle.strm_msg.specs.declared.words.Side.TheVariants.{Rd, Wr}
use Rattle.strm_module.specs.Driver.{is_serviced, partner}
use Rattle.strm_chain_end.specs.Pair.{QueuePair, PairStep, pair_gets, pair_serves}
use Rattle.strm_chain_end.specs.End.{EndState, in_drv, pair_at, set_pair, served_found, served_at, found_gets, found_serves}
use Rattle.strm_chain_end.specs.Offer.{first_offer, offer_found}
use Rattle.strm_chain_end.specs.declared.offer.Offer.{Offer}
use Rattle.strm_chain_ends.specs.declared.place.Place.{Place}
use Rattle.strm_chain_ends.specs.declared.place.Place.TheVariants as Places
use Rattle.strm_chain_ends.specs.Flow.{may_front, offer_of, may}
use Rattle.strm_chain_ends.specs.Image.{Image, end_of, with_end, with_drv, count_of}
use Rattle.strm_chain_ends.proofs.FrameLemmas.{pair_there}
use Rattle.strm_chain.specs.Deliver.{Sender, SenderPast, module_step, head_gets, route, put_at, up_through, down_through, sent_down_with, sends_nothing, sends, up, down}
use Rattle.strm_chain.specs.Service.{move_drv, move}
use Rattle.strm_chain_settling.specs.Orderly.{IsOrderly}
use Rattle.strm_chain_settling.proofs.ListLemmas.{not_both, found_first, found_last}
use Rattle.strm_chain_settling.proofs.Ranks.{Ranking, modules_of, Sinks, IsRanked}
use Rattle.strm_chain_settling.proofs.Below.{PairBelow, SendsBelow, ComesBelow, RisesBelow, HasFrame, counted, role_there, debt_found, debt_at, Below, Each, end_same, below_same, below_trans, frame_after, below_with, end_set, fold_below}
use Rattle.strm_chain_settling.proofs.ModuleLemmas.{Fits, Goes, Rises, acts_down, acts_up, own_down, own_up, gets_below, Took, serves_took}
use Rattle.strm_chain_settling.proofs.DriverLemmas.{head_below, nothing_below, driver_below}

module _ {K : Type 0} (w : Ranking K) (laws : IsOrderly w.means w.debt) (ranked : IsRanked w) where
  -- a message comes to a module at a rank below r
  put_found : (r : ℕ) (image : Image K) (e : End) (i : ℕ) (o : Option (QueuePair K)) (side : Side) (m : Msg) (P : Side × Msg → Type 0) → HasFrame w image → pair_at (end_of image e).modules i ≡ o → (is_high m.kind ≡ false → w.waits side e i < r) → ((s : QueuePair K) → pair_at (end_of image e).modules i ≡ Some s → Each P (w.means.acts s.shape.kind side m).outs) → Below w r image (module_step image e (found_gets w.means (end_of image e) i o side m)).image × Each P (found_gets w.means (end_of image e) i o side m).outs
  put_found r image e i None side m P frame at low outs =
      let s = end_of image e in
      (below_with w r image e s (end_same w r e s s refl (λ on high. le_same (length s.drv))), tt)
  put_found r image e i (Some s) side m P frame at low outs =
      let got = gets_below w laws ranked r e i s side m P (role_there w image e i s frame at) low (outs s at) in
      let new = (pair_gets w.means s side m).pair in
      (below_with w r image e (record (end_of image e) { modules = set_pair (end_of image e).modules i new }) (end_set w r e i (end_of image e) s new at got.0), got.1)

  put_below : (r : ℕ) (image : Image K) (e : End) (i : ℕ) (side : Side) (m : Msg) (P : Side × Msg → Type 0) → HasFrame w image → (is_high m.kind ≡ false → w.waits side e i < r) → ((s : QueuePair K) → pair_at (end_of image e).modules i ≡ Some s → Each P (w.means.acts s.shape.kind side m).outs) → Below w r image (put_at w.means image e i side m).image × Each P (put_at w.means image e i side m).outs
  put_below r image e i side m P frame low outs =
      put_found r image e i (pair_at (end_of image e).modules i) side m P frame refl low outs

  -- up through any number of modules
  rises_below : (head : Sender K) → ComesBelow w head → RisesBelow w (up_through w.means head)
  unfolding up_through
  rises_below head each r e zero image m frame low = each r e image m frame
  rises_below head each r e (suc n) image m frame low =
      let p = put_at w.means image e (suc n) Rd m in
      let on = λ (j : Image K) (out : Side × Msg). up_through w.means head e n j out.1 in
      let P = Fits (Rises w r e n) in
      let both = put_below r image e (suc n) Rd m P frame low (λ s at. acts_up w laws ranked r e n s m (is_high m.kind) refl (λ ordinary. let h = low ordinary in omega (arith, h))) in
      below_trans w r image p.image (fold on p.image p.outs) both.0
      (fold_below w r P on (λ j out frame fits. rises_below head each r e n j out.1 frame fits) p.image p.outs (frame_after w r image p.image frame both.0) both.1)

  route_below : (r : ℕ) (e : End) (i n : ℕ) (below above : Image K → Msg → Image K) → ((j : Image K) (m : Msg) → HasFrame w j → (is_high m.kind ≡ false → Sinks w r e n) → Below w r j (below j m)) → ((j : Image K) (m : Msg) → HasFrame w j → (is_high m.kind ≡ false → w.waits Rd e (i - 1) < r) → Below w r j (above j m)) → (j : Image K) (out : Side × Msg) → HasFrame w j → Fits (Goes w r e i n) out → Below w r j (route below above j out)
  route_below r e i n below above d u j (Wr, m) frame fits = d j m frame fits
  route_below r e i n below above d u j (Rd, m) frame fits = u j m frame fits

  fewer_below : (e : End) (i n : ℕ) → i ≡ modules_of w e - n → 1 ≤ i → n < modules_of w e
  fewer_below e i n at first = omega (arith, at, first)

  -- and down
  sinks_below : (above : SenderPast K) → RisesBelow w above → (r : ℕ) (e : End) (n : ℕ) (image : Image K) (m : Msg) → HasFrame w image → (is_high m.kind ≡ false → Sinks w r e n) → Below w r image (down_through w.means above e n image m)
  unfolding down_through
  sinks_below above each r e zero image m frame low = driver_below w ranked above each r e image m frame low
  sinks_below above each r e (suc n) image m frame low =
      let i = count_of image e - n in
      let at : count_of image e - n ≡ modules_of w e - n = ap (λ k. k - n) (counted w image e frame) in
      let here : is_high m.kind ≡ false → w.waits Wr e (count_of image e - n) < r = λ ordinary. subst (λ k. w.waits Wr e k < r) (sym at) (low ordinary) in
      let p = put_at w.means image e i Wr m in
      let down = λ (k : Image K) (o : Msg). down_through w.means above e n k o in
      let up = λ (k : Image K) (o : Msg). above e (i - 1) k o in
      let P = Fits (Goes w r e i n) in
      let both = put_below r image e i Wr m P frame here (λ s found. acts_down w laws ranked r e i n s m (is_high m.kind) (role_there w image e i s frame found) (fewer_below e i n at (found_first (end_of image e).modules i s found)) at refl (λ ordinary. let h = here ordinary in omega (arith, h))) in
      below_trans w r image p.image (fold (route down up) p.image p.outs) both.0
      (fold_below w r P (route down up) (route_below r e i n down up (λ j o frame fits. sinks_below above each r e n j o frame fits) (λ j o frame fits. each r e (i - 1) j o frame fits)) p.image p.outs (frame_after w r image p.image frame both.0) both.1)

  -- what a head sends down is high
  sent_below : (send : Sender K) → SendsBelow w send → SendsBelow w (sent_down_with w.means send)
  sent_below send each r e image m frame high =
      sinks_below (λ p n j o. up_through w.means (head_gets send) p n j o) (rises_below (head_gets send) (head_below w ranked send each)) r e (count_of image e) image m frame (λ ordinary. not_both (is_high m.kind) high ordinary)

  sends_below : (head_sent : Bool) → SendsBelow w (sends w.means head_sent)
  sends_below true r e image m frame high = below_same w r image
  sends_below false r e image m frame high = sent_below sends_nothing (nothing_below w ranked) r e image m frame high

  up_below : (head_sent : Bool) → RisesBelow w (up w.means head_sent)
  up_below head_sent = rises_below (head_gets (sends w.means head_sent)) (head_below w ranked (sends w.means head_sent) (sends_below head_sent))

  down_below : (head_sent : Bool) (r : ℕ) (e : End) (n : ℕ) (image : Image K) (m : Msg) → HasFrame w image → (is_high m.kind ≡ false → Sinks w r e n) → Below w r image (down w.means head_sent e n image m)
  down_below head_sent r e n image m frame low = sinks_below (up w.means head_sent) (up_below head_sent) r e n image m frame low

  -- y holds less than x of one thing that may move, and no more of all else from its rank on
  pub data Fell (x y : Image K) : Type 0 where
    queue : (side : Side) (e : End) (i : ℕ) → 1 ≤ i → i ≤ modules_of w e → Below w (w.waits side e i) x y → length (served_at (end_of y e) i side) < length (served_at (end_of x e) i side) → Fell x y
    own : (side : Side) (e : End) (i : ℕ) → 1 ≤ i → i ≤ modules_of w e → Below w (w.owes side e i) x y → debt_at w (end_of y e) i side < debt_at w (end_of x e) i side → Fell x y
    drv : (e : End) → is_serviced w.driver e ≡ true → Below w (w.drives e) x y → length (end_of y e).drv < length (end_of x e).drv → Fell x y

  -- the end that was set
  set_there : (image : Image K) (e : End) (s : EndState K) → end_of (with_end image e s) e ≡ s
  set_there image A s = refl
  set_there image B s = refl

  -- what the lists and debts of an image are where a module was set
  abbrev with_pair : Image K → End → ℕ → QueuePair K → Image K
  with_pair image e i t = with_end image e (record (end_of image e) { modules = set_pair (end_of image e).modules i t })

  pair_after : (image : Image K) (e : End) (i : ℕ) (s t : QueuePair K) → pair_at (end_of image e).modules i ≡ Some s → pair_at (end_of (with_pair image e i t) e).modules i ≡ Some t
  pair_after image e i s t at =
      ap (λ (x : EndState K). pair_at x.modules i) (set_there image e (record (end_of image e) { modules = set_pair (end_of image e).modules i t })) ∙ pair_there (end_of image e).modules i s t at

  -- a module served, and what it sent was carried on: what comes of that is below what the module left, and
  -- below what was
  carried_below : (r : ℕ) (P : Side × Msg → Type 0) (on : Image K → Side × Msg → Image K) → ((j : Image K) (out : Side × Msg) → HasFrame w j → P out → Below w r j (on j out)) → (image : Image K) (e : End) (i : ℕ) (s : QueuePair K) (step : PairStep K) → HasFrame w image → pair_at (end_of image e).modules i ≡ Some s → PairBelow w r e i s step.pair → Each P step.outs → Below w r (with_pair image e i step.pair) (fold on (with_pair image e i step.pair) step.outs) × Below w r image (fold on (with_pair image e i step.pair) step.outs)
  carried_below r P on each image e i s step frame at less outs =
      let there = with_pair image e i step.pair in
      let first : Below w r image there = below_with w r image e (record (end_of image e) { modules = set_pair (end_of image e).modules i step.pair }) (end_set w r e i (end_of image e) s step.pair at less) in
      let rest = fold_below w r P on each there step.outs (frame_after w r image there frame first) outs in
      (rest, below_trans w r image there (fold on there step.outs) first rest)

  there_within : (image : Image K) (e : End) (i : ℕ) (s : QueuePair K) → HasFrame w image → pair_at (end_of image e).modules i ≡ Some s → i ≤ modules_of w e
  there_within image e i s frame at = rw (← counted w image e frame) (found_last (end_of image e).modules i s at)

  carried_fell : (P : ℕ → Side × Msg → Type 0) (on : Image K → Side × Msg → Image K) → ((r : ℕ) (j : Image K) (out : Side × Msg) → HasFrame w j → P r out → Below w r j (on j out)) → (image : Image K) (e : End) (i : ℕ) (side : Side) (s : QueuePair K) (step : PairStep K) → HasFrame w image → pair_at (end_of image e).modules i ≡ Some s → Took w laws ranked P e i side s step → Fell image (fold on (with_pair image e i step.pair) step.outs)
  carried_fell P on each image e i side s step frame at (inl h) =
      let r = w.waits side e i in
      let both = carried_below r (P r) on (each r) image e i s step frame at h.0 h.2 in
      let less = (both.0.ends e).lists side i (le_same r) in
      let was = ap (λ o. length (served_found o side)) at in
      let is = ap (λ o. length (served_found o side)) (pair_after image e i s step.pair at) in
      let fewer = h.1 in
      queue side e i (found_first (end_of image e).modules i s at) (there_within image e i s frame at) both.1 (omega (arith, less, was, is, fewer))
  carried_fell P on each image e i side s step frame at (inr h) =
      let r = w.owes side e i in
      let both = carried_below r (P r) on (each r) image e i s step frame at h.0 h.2 in
      let less = (both.0.ends e).debts side i (le_same r) in
      let was = ap (λ o. debt_found w o side) at in
      let is = ap (λ o. debt_found w o side) (pair_after image e i s step.pair at) in
      let fewer = h.1 in
      own side e i (found_first (end_of image e).modules i s at) (there_within image e i s frame at) both.1 (omega (arith, less, was, is, fewer))

  -- the move of a write queue, of a read queue and of a driver's list
  abbrev down_on : End → ℕ → ℕ → Image K → Side × Msg → Image K
  down_on e i n = route (λ k o. down w.means false e n k o) (λ k o. up w.means false e (i - 1) k o)

  down_each : (e : End) (i n : ℕ) (r : ℕ) (j : Image K) (out : Side × Msg) → HasFrame w j → Fits (Goes w r e i n) out → Below w r j (down_on e i n j out)
  down_each e i n r =
      route_below r e i n (λ k o. down w.means false e n k o) (λ k o. up w.means false e (i - 1) k o) (λ j o frame fits. down_below false r e n j o frame fits) (λ j o frame fits. up_below false r e (i - 1) j o frame fits)

  wr_fell : (image : Image K) (e : End) (i n : ℕ) (o : Option (QueuePair K)) → HasFrame w image → n ≡ count_of image e - i → pair_at (end_of image e).modules i ≡ o → is_some (offer_found w.means o Wr) ≡ true → Fell image (fold (down_on e i n) (module_step image e (found_serves w.means (end_of image e) i o Wr)).image (found_serves w.means (end_of image e) i o Wr).outs)
  wr_fell image e i n None frame is at some = cc
  wr_fell image e i n (Some s) frame is at some =
      let there = role_there w image e i s frame at in
      let first = found_first (end_of image e).modules i s at in
      let last = found_last (end_of image e).modules i s at in
      let k = counted w image e frame in
      let less : n < modules_of w e = omega (arith, is, first, last, k) in
      let same : i ≡ modules_of w e - n = omega (arith, is, first, last, k) in
      let P = λ (r : ℕ). Fits (Goes w r e i n) in
      carried_fell P (down_on e i n) (down_each e i n) image e i Wr s (pair_serves w.means s Wr) frame at
      (serves_took w laws ranked e i s Wr P there some
      (λ m. acts_down w laws ranked (w.waits Wr e i) e i n s m (is_high m.kind) there less same refl (λ ordinary. le_same (w.waits Wr e i)))
      (λ band turn. own_down w laws ranked e i n s band there less same turn))

  abbrev up_on : End → ℕ → Image K → Side × Msg → Image K
  up_on e n j out = up w.means false e n j out.1

  rd_fell : (image : Image K) (e : End) (i n : ℕ) (o : Option (QueuePair K)) → HasFrame w image → n ≡ i - 1 → pair_at (end_of image e).modules i ≡ o → is_some (offer_found w.means o Rd) ≡ true → Fell image (fold (up_on e n) (module_step image e (found_serves w.means (end_of image e) i o Rd)).image (found_serves w.means (end_of image e) i o Rd).outs)
  rd_fell image e i n None frame is at some = cc
  rd_fell image e zero n (Some s) frame is at some = cc
  rd_fell image e (suc i) n (Some s) frame is at some =
      let same : n ≡ i = omega (arith, is) in
      let P = λ (r : ℕ). Fits (Rises w r e i) in
      rw same (
      carried_fell P (up_on e i) (λ r j out frame fits. up_below false r e i j out.1 frame fits) image e (suc i) Rd s (pair_serves w.means s Rd) frame at
      (serves_took w laws ranked e (suc i) s Rd P (role_there w image e (suc i) s frame at) some
      (λ m. acts_up w laws ranked (w.waits Rd e (suc i)) e i s m (is_high m.kind) refl (λ ordinary. le_same (w.waits Rd e (suc i))))
      (λ band turn. own_up w laws ranked e i s))
      )

  drv_fell : (image : Image K) (e : End) (on : Bool) (q : List Msg) → HasFrame w image → is_serviced image.driver e ≡ on → (end_of image e).drv ≡ q → is_some (first_offer (cond on q [])) ≡ true → Fell image (move_drv w.means image e q)
  drv_fell image e false q frame is at some = cc
  drv_fell image e true [] frame is at some = cc
  drv_fell image e true (m ∷ q) frame is at some =
      let r = w.drives e in
      let p = partner image.driver e in
      let s = end_of image e in
      let there = with_drv image e q in
      let on : is_serviced w.driver e ≡ true = subst (λ d. is_serviced d e ≡ true) frame.driver is in
      let n = ap length at in
      let first : Below w (w.drives e) image there = below_with w (w.drives e) image e (in_drv s q) (end_same w (w.drives e) e s (in_drv s q) refl (λ on high. omega (arith, n))) in
      let reads : w.waits Rd (partner image.driver e) (count_of image (partner image.driver e)) < w.drives e =
      rw (counted w image (partner image.driver e) frame, frame.driver) (ranked.driven e on) in
      let rest = up_below false (w.drives e) p (count_of image p) there m (frame_after w (w.drives e) image there frame first) (λ ordinary. reads) in
      let y = up w.means false p (count_of image p) there m in
      let less = (rest.ends e).drv on (le_same (w.drives e)) in
      let short = ap (λ (x : EndState K). length x.drv) (set_there image e (in_drv s q)) in
      drv e on (below_trans w (w.drives e) image there y first rest) (omega (arith, less, short, n))

  may_offers : (image : Image K) (place : Place) (o : Option Offer) → may_front image place o ≡ true → is_some o ≡ true
  may_offers image place None may = cc
  may_offers image place (Some o) may = refl

  -- a move of a place that may move
  pub move_fell : (image : Image K) (place : Place) → HasFrame w image → may w.means image place ≡ true → Fell image (move w.means image place)
  move_fell image (Place.Wr e i) frame may =
      wr_fell image e i (count_of image e - i) (pair_at (end_of image e).modules i) frame refl refl (may_offers image (Places.Wr e i) (offer_of w.means image (Places.Wr e i)) may)
  move_fell image (Place.Drv e) frame may =
      drv_fell image e (is_serviced image.driver e) (end_of image e).drv frame refl refl (may_offers image (Places.Drv e) (offer_of w.means image (Places.Drv e)) may)
  move_fell image (Place.Rd e i) frame may =
      rd_fell image e i (i - 1) (pair_at (end_of image e).modules i) frame refl refl (may_offers image (Places.Rd e i) (offer_of w.means image (Places.Rd e i)) may)
