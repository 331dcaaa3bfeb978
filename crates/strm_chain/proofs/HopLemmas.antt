-- The hops that a message makes, over plain images.
use Rattle.std.proofs.Common.{◌≡◌, ℕ, ◌-◌, ◌<◌, Bool, true, false, Option, Some, None, List, [], ◌∷◌, ◌++◌, map, length, fold, refl, sym, ◌∙◌, ap, arith, suc, zero}
use Rattle.std.proofs.lemmas.List.{length-map}
use Rattle.std.proofs.lemmas.List.Sums.{fold-append}
use Rattle.strm_msg.specs.Message.{Msg, bare, ack_msg}
use Rattle.strm_msg.specs.declared.kind.MsgKind.TheVariants.{MSetopts}
use Rattle.strm_msg.specs.declared.words.ReadMode.{ReadMode}
use Rattle.strm_msg.specs.declared.words.Prot.{Prot}
use Rattle.strm_msg.specs.declared.words.End.{End}
use Rattle.strm_msg.specs.declared.words.End.TheVariants.{A, B}
use Rattle.strm_msg.specs.declared.words.Side.{Side}
use Rattle.strm_msg.specs.declared.words.Side.TheVariants.{Rd, Wr}
use Rattle.strm_module.specs.Kinds.{OutList, Meaning}
use Rattle.strm_module.specs.Driver.{partner}
use Rattle.strm_chain_end.specs.Pair.{QueuePair}
use Rattle.strm_chain_end.specs.End.{pair_at}
use Rattle.strm_chain_end.specs.Modules.{identity_of, identities_of}
use Rattle.strm_chain_end.specs.Head.{put_at_head}
use Rattle.strm_chain_end.specs.declared.driver.DriverSends.TheVariants.{Nothing, Reply, Across, Options}
use Rattle.strm_chain_ends.specs.Image.{Image, end_of, with_end, with_drv, count_of, put_at_driver, driven}
use Rattle.strm_chain.specs.declared.chain.hop.Hop.{Hop}
use Rattle.strm_chain_ends.specs.declared.place.Place.TheVariants as Place
use Rattle.strm_chain.specs.Deliver.{up, down, up_through, down_through, send_on, sends, sends_nothing, sent_down, put_at, route, driver_sends}
use Rattle.strm_chain.specs.Service.{serve_at, move, move_drv}
use Rattle.strm_chain_ends.specs.Same.{SameModules}
use Rattle.strm_chain.specs.Hop.{carry, deliver_all, up_hop, down_hop, hop_of, next_module}
use Rattle.strm_chain_ends.specs.Held.{module_place}

nothing_sent : {K : Type 0} (e : End) (image : Image K) (o : Option Msg) → send_on sends_nothing e image o ≡ image
nothing_sent e image None = refl
nothing_sent e image (Some m) = refl

-- for kinds of any meaning
module _ {K : Type 0} (means : Meaning K) where
  -- a hop is carried as its side says
  pub carries_up : (image : Image K) (hs : Bool) (e : End) (n : ℕ) (m : Msg) → carry means image (up_hop hs e n m) ≡ up means hs e n image m
  unfolding carry
  carries_up image hs e n m = refl

  pub carries_down : (image : Image K) (hs : Bool) (e : End) (n : ℕ) (m : Msg) → carry means image (down_hop hs e n m) ≡ down means hs e n image m
  unfolding carry
  carries_down image hs e n m = refl

  -- a hop that has passed all modules
  pub carries_to_head : (image : Image K) (h : Hop) → h.side ≡ Rd → h.ahead ≡ 0 → up means h.head_sent h.end 0 image h.m ≡ carry means image h
  unfolding carry
  carries_to_head image h s a = rw (s, a) refl

  pub carries_to_driver : (image : Image K) (h : Hop) → h.side ≡ Wr → h.ahead ≡ 0 → down means h.head_sent h.end 0 image h.m ≡ carry means image h
  unfolding carry
  carries_to_driver image h s a = rw (s, a) refl

  -- a head that sends nothing
  pub head_again : (e : End) (old new : Image K) (m : Msg) → new ≡ with_end old e (put_at_head (end_of old e) m).state → new ≡ up means true e 0 old m
  unfolding up_through
  head_again e old new m h =
      h ∙ sym (nothing_sent e (with_end old e (put_at_head (end_of old e) m).state) (put_at_head (end_of old e) m).sends)

  -- a head that has nothing to send
  pub head_none : (hs : Bool) (e : End) (old new : Image K) (m : Msg) → None ≡ (put_at_head (end_of old e) m).sends → new ≡ with_end old e (put_at_head (end_of old e) m).state → new ≡ up means hs e 0 old m
  unfolding up_through
  head_none hs e old new m none h =
      h ∙ ap (send_on (sends means hs) e (with_end old e (put_at_head (end_of old e) m).state)) none

  -- a head that sends a flush down
  pub head_some : (e : End) (old new : Image K) (m f : Msg) (n : ℕ) → Some f ≡ (put_at_head (end_of old e) m).sends → new ≡ with_end old e (put_at_head (end_of old e) m).state → n ≡ count_of new e → down means true e n new f ≡ up means false e 0 old m
  unfolding up_through
  head_some e old new m f n some h k =
      rw (k, h) (ap (send_on (sent_down means) e (with_end old e (put_at_head (end_of old e) m).state)) some)

  -- what a driver sends
  pub driver_nothing : (hs : Bool) (e : End) (old new : Image K) (m : Msg) → Nothing ≡ (put_at_driver old.driver e (end_of old e) m).sends → new ≡ driven old e m → new ≡ down means hs e 0 old m
  unfolding down_through
  driver_nothing hs e old new m s h =
      h ∙ ap (driver_sends (up means hs) old e (driven old e m)) s

  pub driver_reply : (hs : Bool) (e : End) (n : ℕ) (old new : Image K) (m r : Msg) → n ≡ count_of old e → Reply r ≡ (put_at_driver old.driver e (end_of old e) m).sends → new ≡ driven old e m → up means hs e n new r ≡ down means hs e 0 old m
  unfolding down_through
  driver_reply hs e n old new m r k s h =
      rw (k, h) (ap (driver_sends (up means hs) old e (driven old e m)) s)

  pub driver_across : (hs : Bool) (e p : End) (n : ℕ) (old new : Image K) (m r : Msg) → p ≡ partner old.driver e → n ≡ count_of old p → Across r ≡ (put_at_driver old.driver e (end_of old e) m).sends → new ≡ driven old e m → up means hs p n new r ≡ down means hs e 0 old m
  unfolding down_through
  driver_across hs e p n old new m r hp k s h =
      rw (k, hp, h) (ap (driver_sends (up means hs) old e (driven old e m)) s)

  pub driver_options : (hs : Bool) (e : End) (n : ℕ) (old new : Image K) (m : Msg) (mode : Option ReadMode) (prot : Option Prot) (marks : Option (ℕ × ℕ)) (id : ℕ) → n ≡ count_of old e → Options mode prot marks id ≡ (put_at_driver old.driver e (end_of old e) m).sends → new ≡ driven old e m → up means hs e n (up means hs e n new (bare (MSetopts mode prot marks))) (ack_msg id 0 None) ≡ down means hs e 0 old m
  unfolding down_through
  driver_options hs e n old new m mode prot marks id k s h =
      rw (k, h) (ap (driver_sends (up means hs) old e (driven old e m)) s)

  -- two messages on their way up, one after the other
  pub carries_two : (image : Image K) (hs : Bool) (e : End) (n : ℕ) (x y : Msg) → carry means (carry means image (up_hop hs e n x)) (up_hop hs e n y) ≡ up means hs e n (up means hs e n image x) y
  unfolding carry
  carries_two image hs e n x y = refl

  -- what a module sends, carried
  outs_up : (hs : Bool) (e : End) (i below : ℕ) (image : Image K) (outs : OutList) → deliver_all means image (map (hop_of hs Rd e i below) outs) ≡ fold (λ j out. up means hs e (i - 1) j out.1) image outs
  unfolding carry
  outs_up hs e i below image [] = refl
  outs_up hs e i below image (out ∷ outs) = outs_up hs e i below (up means hs e (i - 1) image out.1) outs

  outs_down : (hs : Bool) (e : End) (i below : ℕ) (image : Image K) (outs : OutList) → deliver_all means image (map (hop_of hs Wr e i below) outs) ≡ fold (λ j out. route (λ k o. down means hs e below k o) (λ k o. up means hs e (i - 1) k o) j out) image outs
  unfolding carry
  outs_down hs e i below image [] = refl
  outs_down hs e i below image ((Wr, m) ∷ outs) = outs_down hs e i below (down means hs e below image m) outs
  outs_down hs e i below image ((Rd, m) ∷ outs) = outs_down hs e i below (up means hs e (i - 1) image m) outs

  up_more : (hs : Bool) (e : End) (n : ℕ) (old : Image K) (m : Msg) → 0 < n → fold (λ j out. up means hs e (n - 1) j out.1) (put_at means old e n Rd m).image (put_at means old e n Rd m).outs ≡ up means hs e n old m
  unfolding up_through
  up_more hs e zero old m h = absurd (omega arith)
  up_more hs e (suc n) old m h = let k : suc n - 1 ≡ n = omega arith in rw k refl

  down_more : (hs : Bool) (e : End) (n i : ℕ) (old : Image K) (m : Msg) → 0 < n → i ≡ count_of old e - (n - 1) → fold (λ j out. route (λ k o. down means hs e (n - 1) k o) (λ k o. up means hs e (i - 1) k o) j out) (put_at means old e i Wr m).image (put_at means old e i Wr m).outs ≡ down means hs e n old m
  unfolding down_through
  down_more hs e zero i old m h at = absurd (omega arith)
  down_more hs e (suc n) i old m h at = let k : suc n - 1 ≡ n = omega arith in rw (at, k) refl

  -- one hop to a module
  pub module_hop : (hs : Bool) (side : Side) (e : End) (n i : ℕ) (old : Image K) (m : Msg) → 0 < n → i ≡ next_module old side e n → deliver_all means (put_at means old e i side m).image (map (hop_of hs side e i (n - 1)) (put_at means old e i side m).outs) ≡ carry means old (record { head_sent = hs; side = side; end = e; ahead = n; m = m })
  unfolding carry
  module_hop hs Rd e n i old m h at =
      rw at (outs_up hs e n (n - 1) (put_at means old e n Rd m).image (put_at means old e n Rd m).outs ∙ up_more hs e n old m h)
  module_hop hs Wr e n i old m h at =
      outs_down hs e i (n - 1) (put_at means old e i Wr m).image (put_at means old e i Wr m).outs ∙ down_more hs e n i old m h at

  -- what was on its way already is carried after what comes of one message
  pub rest_after : (new mid : Image K) (hops rest all : List Hop) → all ≡ hops ++ rest → deliver_all means new hops ≡ mid → deliver_all means new all ≡ deliver_all means mid rest
  rest_after new mid hops rest all a s =
      rw a (fold-append (carry means) new hops rest ∙ ap (λ i. deliver_all means i rest) s)

  -- the move of a queue of a module
  pub module_move : (side : Side) (e : End) (i below : ℕ) (old : Image K) → below ≡ count_of old e - i → deliver_all means (serve_at means old e i side).image (map (hop_of false side e i below) (serve_at means old e i side).outs) ≡ move means old (module_place side e i)
  module_move Rd e i below old hb = outs_up false e i below (serve_at means old e i Rd).image (serve_at means old e i Rd).outs
  module_move Wr e i below old hb =
      rw hb (outs_down false e i (count_of old e - i) (serve_at means old e i Wr).image (serve_at means old e i Wr).outs)

  -- the move of a driver place, with and without a message
  pub driver_moves : (e p : End) (n : ℕ) (old new : Image K) (m : Msg) (q : List Msg) → p ≡ partner old.driver e → n ≡ count_of old p → (end_of old e).drv ≡ m ∷ q → new ≡ with_drv old e q → up means false p n new m ≡ move means old (Place.Drv e)
  driver_moves e p n old new m q hp hn some h = rw (hn, hp, h) (ap (move_drv means old e) (sym some))

  pub driver_stays : (e : End) (old new : Image K) → (end_of old e).drv ≡ [] → new ≡ old → new ≡ move means old (Place.Drv e)
  driver_stays e old new none h = h ∙ ap (move_drv means old e) (sym none)

  -- a module that is not there gets and serves nothing
  pub gets_nowhere : (image : Image K) (e : End) (i : ℕ) (side : Side) (m : Msg) → pair_at (end_of image e).modules i ≡ None → put_at means image e i side m ≡ record { image = image; outs = [] }
  gets_nowhere image A i side m none = rw none refl
  gets_nowhere image B i side m none = rw none refl

  pub serves_nowhere : (image : Image K) (e : End) (i : ℕ) (side : Side) → pair_at (end_of image e).modules i ≡ None → serve_at means image e i side ≡ record { image = image; outs = [] }
  serves_nowhere image A i side none = rw none refl
  serves_nowhere image B i side none = rw none refl

length-identities : {K : Type 0} (xs : List (QueuePair K)) → length (identities_of xs) ≡ length xs
length-identities xs = length-map xs (λ s. identity_of s.shape)

-- as many modules as before
pub same_count : {K : Type 0} (old new : Image K) → SameModules old new → (e : End) → count_of new e ≡ count_of old e
same_count old new s A = sym (length-identities new.a.modules) ∙ ap length s.on_a.modules ∙ length-identities old.a.modules
same_count old new s B = sym (length-identities new.b.modules) ∙ ap length s.on_b.modules ∙ length-identities old.b.modules
