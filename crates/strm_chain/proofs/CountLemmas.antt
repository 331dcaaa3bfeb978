-- What messages on their way enable.
use Rattle.std.proofs.Common.{◌≡◌, ◌+◌, ◌≤◌, ◌&&◌, ℕ, Bool, true, false, List, [], ◌∷◌, ◌++◌, length, map, sum_by, refl, ◌∙◌, ap, arith}
use Rattle.std.proofs.lemmas.List.Sums.{sum_by-cons}
use Rattle.std.proofs.lemmas.Bool.{and_from, and_parts}
use Rattle.strm_chain_ends.proofs.FrameLemmas.{there}
use Rattle.strm_msg.specs.Message.{Msg}
use Rattle.strm_msg.specs.declared.words.End.{End}
use Rattle.strm_msg.specs.declared.words.End.TheVariants.{A, B}
use Rattle.strm_msg.specs.declared.words.Side.{Side}
use Rattle.strm_msg.specs.declared.words.Side.TheVariants.{Rd, Wr}
use Rattle.strm_module.specs.Kinds.{OutList, Meaning}
use Rattle.strm_module.specs.Calm.{is_calm, are_calm, options_of, options_held, options_sent, IsCalm}
use Rattle.strm_chain_end.specs.Head.{put_at_head}
use Rattle.strm_chain_end.specs.End.{EndState, list_at, end_gets, end_serves}
use Rattle.strm_chain_end.specs.Modules.{HoldsCalm}
use Rattle.strm_chain_ends.specs.declared.place.Place.TheVariants as Places
use Rattle.strm_chain_ends.specs.declared.place.NextQueue.{NextQueue}
use Rattle.strm_chain_ends.specs.declared.place.NextQueue.TheVariants.{Of, Head}
use Rattle.strm_chain_ends.specs.Image.{Image, end_of, with_end, put_at_driver}
use Rattle.strm_chain_ends.specs.Held.{held_by, DiffersIn, SetsMarks}
use Rattle.strm_chain_end.specs.declared.driver.DriverSends.{DriverSends}
use Rattle.strm_chain_ends.specs.Count.{message_count, answers_options, options_driven, options_count}
use Rattle.strm_chain_ends.proofs.CountLemmas.{Beside, beside, count_differs, options_differ}
use Rattle.strm_chain_ends.proofs.CalmLemmas.{head_calm, head_options, driver_calm, driver_options, gets_calm, gets_options, serves_calm, serves_options, IsServed}
use Rattle.strm_chain.specs.declared.chain.hop.Hop.{Hop}
use Rattle.strm_chain.specs.Hop.{hop_of}
use Rattle.strm_chain_ends.specs.Held.{module_place}
use Rattle.strm_chain.specs.Count.{are_calm_hops}

-- what waits at a head, at a driver and at a module after a calm message, and what is sent on, sets no more
-- options
pub head_sets_less : {K : Type 0} (b : Bool) (old new : Image K) (e : End) (m : Msg) → is_calm m.kind ≡ true → new ≡ with_end old e (put_at_head (end_of old e) m).state → options_held b (held_by new (Head e)) + 0 ≤ options_held b (held_by old (Head e)) + options_of b m
head_sets_less {K = K} b old new e m calm is =
    let after : options_held b (held_by new (Head e)) ≡ options_held b (put_at_head (end_of old e) m).state.head =
    ap (λ i. options_held b (held_by i (Head e))) is ∙ ap (λ (s : EndState K). options_held b s.head) (there old e (put_at_head (end_of old e) m).state) in
    let less = head_options b (end_of old e) m calm in
    omega (arith, after, less)

pub driver_sets_less : {K : Type 0} (old new : Image K) (e : End) (m : Msg) (sends : DriverSends) → is_calm m.kind ≡ true → new ≡ with_end old e (put_at_driver old.driver e (end_of old e) m).state → sends ≡ (put_at_driver old.driver e (end_of old e) m).sends → options_held (answers_options old.driver) (held_by new (Of (Places.Drv e))) + options_driven (answers_options old.driver) sends ≤ options_held (answers_options old.driver) (held_by old (Of (Places.Drv e))) + options_of (answers_options old.driver) m
driver_sets_less {K = K} old new e m sends calm is sent =
    let b = answers_options old.driver in
    let after : options_held b (held_by new (Of (Places.Drv e))) ≡ options_held b (put_at_driver old.driver e (end_of old e) m).state.drv =
    ap (λ i. options_held b (held_by i (Of (Places.Drv e)))) is ∙ ap (λ (s : EndState K). options_held b s.drv) (there old e (put_at_driver old.driver e (end_of old e) m).state) in
    let by = ap (options_driven b) sent in
    let less = driver_options old.driver e (end_of old e) m calm in
    omega (arith, after, by, less)

-- the list of a head, of a driver and of a module after a calm message is no shorter
pub head_grows : {K : Type 0} (old new : Image K) (e : End) (m : Msg) → is_calm m.kind ≡ true → new ≡ with_end old e (put_at_head (end_of old e) m).state → length (held_by old (Head e)) ≤ length (held_by new (Head e))
head_grows {K = K} old new e m calm is =
    let after : length (held_by new (Head e)) ≡ length (put_at_head (end_of old e) m).state.head =
    ap (λ i. length (held_by i (Head e))) is ∙ ap (λ (s : EndState K). length s.head) (there old e (put_at_head (end_of old e) m).state) in
    let more = (head_calm (end_of old e) m calm).1 in
    omega (arith, after, more)

pub driver_grows : {K : Type 0} (old new : Image K) (e : End) (m : Msg) → is_calm m.kind ≡ true → new ≡ with_end old e (put_at_driver old.driver e (end_of old e) m).state → length (held_by old (Of (Places.Drv e))) ≤ length (held_by new (Of (Places.Drv e)))
driver_grows {K = K} old new e m calm is =
    let after : length (held_by new (Of (Places.Drv e))) ≡ length (put_at_driver old.driver e (end_of old e) m).state.drv =
    ap (λ i. length (held_by i (Of (Places.Drv e)))) is ∙ ap (λ (s : EndState K). length s.drv) (there old e (put_at_driver old.driver e (end_of old e) m).state) in
    let more = (driver_calm old.driver e (end_of old e) m calm).1 in
    omega (arith, after, more)

-- the first message of a driver's list is taken
pub drv_served : {K : Type 0} (old new : Image K) (e : End) (m : Msg) → (end_of old e).drv ≡ m ∷ (end_of new e).drv → IsServed (held_by old (Of (Places.Drv e))) (held_by new (Of (Places.Drv e)))
drv_served old new e m first =
    let n = ap length first in record { fewer = omega (arith, n); one = omega (arith, n) }

pub drv_sets_less : {K : Type 0} (b : Bool) (old new : Image K) (e : End) (m : Msg) → (end_of old e).drv ≡ m ∷ (end_of new e).drv → options_held b (held_by new (Of (Places.Drv e))) + options_of b m ≤ options_held b (held_by old (Of (Places.Drv e)))
drv_sets_less b old new e m first =
    let n = ap (options_held b) first in
    let k = sum_by-cons (options_of b) m (end_of new e).drv in
    omega (arith, n, k)

held_on : {K : Type 0} (image : Image K) (side : Side) (e : End) (i : ℕ) → held_by image (Of (module_place side e i)) ≡ list_at (end_of image e) i side
held_on image Rd e i = refl
held_on image Wr e i = refl

module _ {K : Type 0} (means : Meaning K) where
  pub gets_grows : (old new : Image K) (e : End) (i : ℕ) (side : Side) (m : Msg) → IsCalm means → is_calm m.kind ≡ true → new ≡ with_end old e (end_gets means (end_of old e) i side m).state → length (held_by old (Of (module_place side e i))) ≤ length (held_by new (Of (module_place side e i)))
  gets_grows old new e i side m calm h is =
      rw (held_on old side e i, held_on new side e i, is, there old e (end_gets means (end_of old e) i side m).state)
      (gets_calm means (end_of old e) i side m calm h).1

  pub serves_one : (old new : Image K) (e : End) (i : ℕ) (side : Side) → IsCalm means → HoldsCalm (end_of old e) → new ≡ with_end old e (end_serves means (end_of old e) i side).state → IsServed (held_by old (Of (module_place side e i))) (held_by new (Of (module_place side e i)))
  serves_one old new e i side calm ordinary is =
      rw (held_on old side e i, held_on new side e i, is, there old e (end_serves means (end_of old e) i side).state)
      (serves_calm means (end_of old e) i side calm ordinary).1

  pub gets_sets_less : (b : Bool) (old new : Image K) (e : End) (i : ℕ) (side : Side) (m : Msg) (outs : OutList) → IsCalm means → is_calm m.kind ≡ true → new ≡ with_end old e (end_gets means (end_of old e) i side m).state → outs ≡ (end_gets means (end_of old e) i side m).outs → options_held b (held_by new (Of (module_place side e i))) + options_sent b outs ≤ options_held b (held_by old (Of (module_place side e i))) + options_of b m
  gets_sets_less b old new e i side m outs calm h is sent =
      rw (held_on old side e i, held_on new side e i, is, there old e (end_gets means (end_of old e) i side m).state, sent)
      (gets_options means b (end_of old e) i side m calm h)

  pub serves_sets_less : (b : Bool) (old new : Image K) (e : End) (i : ℕ) (side : Side) (outs : OutList) → IsCalm means → new ≡ with_end old e (end_serves means (end_of old e) i side).state → outs ≡ (end_serves means (end_of old e) i side).outs → options_held b (held_by new (Of (module_place side e i))) + options_sent b outs ≤ options_held b (held_by old (Of (module_place side e i)))
  serves_sets_less b old new e i side outs calm is sent =
      rw (held_on old side e i, held_on new side e i, is, there old e (end_serves means (end_of old e) i side).state, sent)
      (serves_options means b (end_of old e) i side calm)

-- a queue that got a message enabled its place
pub count_put : {K : Type 0} (x y : Image K) (queue : NextQueue) (before after sets leaves : ℕ) → DiffersIn x y queue → after + length (held_by x queue) ≤ before + length (held_by y queue) → options_held (answers_options x.driver) (held_by y queue) + leaves ≤ options_held (answers_options x.driver) (held_by x queue) + sets → after + message_count x + (options_count y + leaves) ≤ before + message_count y + (options_count x + sets)
count_put x y queue before after sets leaves d less options =
    let e = count_differs (λ q. length q) x y queue (beside x y queue d) in
    let o = options_differ x y queue (beside x y queue d) in
    omega (arith, e, o, less, options)

-- a queue that a message was taken from enabled one place more
pub count_take : {K : Type 0} (x y : Image K) (queue : NextQueue) (before after sent : ℕ) → DiffersIn x y queue → IsServed (held_by x queue) (held_by y queue) → after ≤ before + 1 → options_held (answers_options x.driver) (held_by y queue) + sent ≤ options_held (answers_options x.driver) (held_by x queue) → after + message_count x + (options_count y + sent) ≤ before + message_count y + options_count x + 2
count_take x y queue before after sent d served less options =
    let e = count_differs (λ q. length q) x y queue (beside x y queue d) in
    let o = options_differ x y queue (beside x y queue d) in
    omega (arith, e, o, less, options, served.one)

-- options that a head sets enable the place that waits for it
pub count_sets : {K : Type 0} (x y : Image K) (e : End) (before after sets : ℕ) → SetsMarks x y e → sets ≡ 1 → after ≤ before + 1 → after + message_count x + (options_count y + 0) ≤ before + message_count y + (options_count x + sets)
count_sets {K = K} x y e before after sets d one less =
    let still : Beside x y (Head e) = record { same = d.same; others = λ q _. d.held q } in
    let n = count_differs (λ q. length q) x y (Head e) still in
    let o = options_differ x y (Head e) still in
    let long = ap length (d.held (Head e)) in
    let held = ap (options_held (answers_options x.driver)) (d.held (Head e)) in
    omega (arith, n, o, one, less, long, held)

-- one more calm message on its way
pub one_calm : (h : Hop) (hops : List Hop) → is_calm h.m.kind ≡ true → are_calm_hops hops ≡ true → are_calm_hops (h ∷ hops) ≡ true
one_calm h hops x y = and_from (is_calm h.m.kind) (are_calm_hops hops) x y

hop_calm : (sent : Bool) (side : Side) (e : End) (i below : ℕ) (out : Side × Msg) → is_calm out.1.kind ≡ true → is_calm (hop_of sent side e i below out).m.kind ≡ true
hop_calm sent Rd e i below out h = h
hop_calm sent Wr e i below (Wr, m) h = h
hop_calm sent Wr e i below (Rd, m) h = h

-- what a module sends goes on its way in front of the rest
pub outs_calm : (sent : Bool) (side : Side) (e : End) (i below : ℕ) (outs : OutList) (hops : List Hop) → are_calm outs ≡ true → are_calm_hops hops ≡ true → are_calm_hops (map (hop_of sent side e i below) outs ++ hops) ≡ true
outs_calm sent side e i below [] hops x y = y
outs_calm sent side e i below (out ∷ outs) hops x y =
    and_from (is_calm (hop_of sent side e i below out).m.kind) (are_calm_hops (map (hop_of sent side e i below) outs ++ hops))
    (hop_calm sent side e i below out ((and_parts (is_calm out.1.kind) (are_calm outs) x).0))
    (outs_calm sent side e i below outs hops ((and_parts (is_calm out.1.kind) (are_calm outs) x).1) y)

hop_sets : (b sent : Bool) (side : Side) (e : End) (i below : ℕ) (out : Side × Msg) → options_of b (hop_of sent side e i below out).m ≡ options_of b out.1
hop_sets b sent Rd e i below out = refl
hop_sets b sent Wr e i below (Wr, m) = refl
hop_sets b sent Wr e i below (Rd, m) = refl

abbrev pub hops_set : Bool → List Hop → ℕ
hops_set b hops = sum_by (λ (h : Hop). options_of b h.m) hops

-- one more message on its way sets what it sets
pub hop_adds : (b : Bool) (h : Hop) (hops : List Hop) → hops_set b (h ∷ hops) ≡ options_of b h.m + hops_set b hops
hop_adds b h hops = sum_by-cons (λ (x : Hop). options_of b x.m) h hops

-- and so does what a module sends
pub outs_set : (b sent : Bool) (side : Side) (e : End) (i below : ℕ) (outs : OutList) (hops : List Hop) → hops_set b (map (hop_of sent side e i below) outs ++ hops) ≡ options_sent b outs + hops_set b hops
outs_set b sent side e i below [] hops = omega arith
outs_set b sent side e i below (out ∷ outs) hops =
    let first = hop_adds b (hop_of sent side e i below out) (map (hop_of sent side e i below) outs ++ hops) in
    let one = hop_sets b sent side e i below out in
    let more = sum_by-cons (λ (o : Side × Msg). options_of b o.1) out outs in
    let rest = outs_set b sent side e i below outs hops in
    omega (arith, first, one, more, rest)
