-- What stays true at two ends of a link, whatever happens.
use Rattle.std.proofs.Common.{◌≡◌, ℕ, zero, suc, ◌+◌, ◌-◌, ◌<◌, ◌≤◌, ◌&&◌, Bool, true, false, cond, ◌⊎◌, inl, inr, Option, Some, None, List, [], ◌∷◌, ◌++◌, refl, ap, sym, subst, nat_eq, ◌∙◌, append-nil, length, take, drop, arith, get_or, length-drop, nat_lt, nat_le}
use Rattle.std.specs.Prelude.{option_to_list}
use Rattle.std.specs.List.{slice_get}
use Rattle.std.proofs.lemmas.Bool.{ltb-true, leb-true, leb-false, eqb-true, cond_both, and_parts}
use Rattle.std.proofs.lemmas.Option.{same_Some, slice_get_within, get_or_from_slice_get, slice_get-get_or}
use Rattle.std.proofs.lemmas.List.{length_push, take_more, take-append-le, drop-append-le, take-append-drop, drop-drop, take_all, take-take, get_or-drop}
use Rattle.port_arq.specs.declared.frame.Frame.{Frame}
use Rattle.port_arq.specs.declared.frame.Numbered.{Numbered}
use Rattle.port_arq.specs.declared.refusal.Refusal.{Refusal}
use Rattle.port_arq.specs.declared.refusal.Refusal.TheVariants.{NumbersAreUsed, WindowIsFull}
use Rattle.port_arq.specs.declared.peer.TheConstants.{MOST_MESSAGES}
use Rattle.port_arq.specs.Peer.{PeerValue, used, refusal, acknowledgement, carrying, unsent, frame_of, sent_on, is_news, without_first, acknowledged_by, is_awaited, goes_up, taken, timed}
use Rattle.port_arq.specs.Link.{Side, opened, Act, HandDown, Send, Hear, Tick, with_message, with_heard, acted, Link, Event, AtNear, AtFar, after, after_all}
use Rattle.port_arq.specs.LinkLaws.{IsBeginning, Carries, MessagesAreCarried}

-- ---- lists by index

pub get_front : {X : Type 0} (xs ys : List X) (i : ℕ) (x : X) → slice_get xs i ≡ Some x → slice_get (xs ++ ys) i ≡ Some x
get_front [] ys i x h = cc
get_front (y ∷ xs) ys zero x h = h
get_front (y ∷ xs) ys (suc i) x h = get_front xs ys i x h

get_either : {X : Type 0} (xs ys : List X) (i : ℕ) (x : X) → slice_get (xs ++ ys) i ≡ Some x → (slice_get xs i ≡ Some x) ⊎ ((j : ℕ) × (slice_get ys j ≡ Some x))
get_either [] ys i x h = inr (i, h)
get_either (y ∷ xs) ys zero x h = inl h
get_either (y ∷ xs) ys (suc i) x h = get_either xs ys i x h

pub get_only : {X : Type 0} (y : X) (i : ℕ) (x : X) → slice_get (y ∷ []) i ≡ Some x → y ≡ x
get_only y zero x h = same_Some y x h
get_only y (suc i) x h = cc

get_behind : {X : Type 0} (xs ys : List X) (n i : ℕ) (x : X) → drop n xs ≡ ys → slice_get ys i ≡ Some x → slice_get xs (n + i) ≡ Some x
get_behind xs ys n i x e h =
    let within = slice_get_within ys i x h in
    let long : n + i < length xs = omega (arith, length-drop n xs, ap length e) in
    let value : get_or xs (n + i) x ≡ x = sym (get_or-drop n xs i x) ∙ ap (λ l. get_or l i x) e ∙ get_or_from_slice_get ys i x x h in
    slice_get-get_or xs (n + i) x long ∙ ap Some value

take_one_more : {X : Type 0} (xs : List X) (n : ℕ) (x : X) → slice_get xs n ≡ Some x → take (n + 1) xs ≡ take n xs ++ x ∷ []
take_one_more xs n x h =
    take_more xs n x (slice_get_within xs n x h) ∙ ap (λ y. take n xs ++ y ∷ []) (get_or_from_slice_get xs n x x h)

-- ---- one direction

-- the message of a frame was handed down with its number
abbrev pub IsOf : List (List ℕ) → Option Numbered → Type 0
IsOf handed None = Unit {0}
IsOf handed (Some message) = slice_get handed message.number ≡ Some message.bytes

-- what stays true of an end that messages are handed to, with what it has acknowledged, what waits and all its
-- frames; and of the other end, with the number that it awaits, what went up and all its frames
pub record Holds (acknowledged : ℕ) (waiting handed : List (List ℕ)) (frames : List Frame) (awaited : ℕ) (raised : List (List ℕ)) (answers : List Frame) : Type 0 where
  pub count : acknowledged + length waiting ≡ length handed
  pub waits : drop acknowledged handed ≡ waiting
  pub carried : (i : ℕ) (frame : Frame) → slice_get frames i ≡ Some frame → IsOf handed frame.message
  pub went : raised ≡ take awaited handed
  pub most : awaited ≤ length handed
  pub covers : (i : ℕ) (frame : Frame) → slice_get answers i ≡ Some frame → frame.awaited ≤ awaited
  pub known : acknowledged ≤ awaited
  pub numbers : length handed ≤ MOST_MESSAGES

abbrev pub Between : Side → Side → Type 0
Between from to = Holds from.peer.acknowledged from.peer.waiting from.handed from.frames to.peer.awaited to.raised to.frames

pub opened-holds : Holds 0 [] [] [] 0 [] []
opened-holds = record {
  count = refl;
  waits = refl;
  carried = λ i frame h. cc;
  went = refl;
  most = omega arith;
  covers = λ i frame h. cc;
  known = omega arith;
  numbers = omega arith;
}

is_of-front : (handed more : List (List ℕ)) (message : Option Numbered) → IsOf handed message → IsOf (handed ++ more) message
is_of-front handed more None h = tt
is_of-front handed more (Some message) h = get_front handed more message.number message.bytes h

-- a message is handed down
handed-holds : (a : ℕ) (w h : List (List ℕ)) (f : List Frame) (n : ℕ) (r : List (List ℕ)) (k : List Frame) (bytes : List ℕ) → a + length w < MOST_MESSAGES → Holds a w h f n r k → Holds a (w ++ bytes ∷ []) (h ++ bytes ∷ []) f n r k
handed-holds a w h f n r k bytes left x =
    let last = bytes ∷ [] in
    let fits : a ≤ length h = let e = x.count in omega arith in record {
      count = let e = x.count in omega (arith, length_push w bytes, length_push h bytes);
      waits = drop-append-le a h last fits ∙ ap (λ l. l ++ last) x.waits;
      carried = λ i frame e. is_of-front h last frame.message (x.carried i frame e);
      went = x.went ∙ sym (take-append-le n h last x.most);
      most = let m = x.most in omega (arith, length_push h bytes);
      covers = x.covers;
      known = x.known;
      numbers = let e = x.count in omega (arith, length_push h bytes);
    }

-- frames are sent of what was handed down
sent-holds : (a : ℕ) (w h : List (List ℕ)) (f : List Frame) (n : ℕ) (r : List (List ℕ)) (k more : List Frame) → ((j : ℕ) (frame : Frame) → slice_get more j ≡ Some frame → IsOf h frame.message) → Holds a w h f n r k → Holds a w h (f ++ more) n r k
sent-holds a w h f n r k more all x = record {
  count = x.count;
  waits = x.waits;
  carried = λ i frame e.
      elim (get_either f more i frame e) [ inl old ↦ x.carried i frame old | inr new ↦ all new.0 frame new.1 ];
  went = x.went;
  most = x.most;
  covers = x.covers;
  known = x.known;
  numbers = x.numbers;
}

-- frames are sent that acknowledge what went up
answered-holds : (a : ℕ) (w h : List (List ℕ)) (f : List Frame) (n : ℕ) (r : List (List ℕ)) (k more : List Frame) → ((j : ℕ) (frame : Frame) → slice_get more j ≡ Some frame → frame.awaited ≤ n) → Holds a w h f n r k → Holds a w h f n r (k ++ more)
answered-holds a w h f n r k more all x = record {
  count = x.count;
  waits = x.waits;
  carried = x.carried;
  went = x.went;
  most = x.most;
  covers = λ i frame e.
      elim (get_either k more i frame e) [ inl old ↦ x.covers i frame old | inr new ↦ all new.0 frame new.1 ];
  known = x.known;
  numbers = x.numbers;
}

-- the first messages are acknowledged, which went up
acknowledged-holds : (a : ℕ) (w h : List (List ℕ)) (f : List Frame) (n : ℕ) (r : List (List ℕ)) (k : List Frame) (count : ℕ) → count ≤ length w → a + count ≤ n → Holds a w h f n r k → Holds (a + count) (drop count w) h f n r k
acknowledged-holds a w h f n r k count fits up x = record {
  count = let e = x.count in omega (arith, length-drop count w);
  waits = sym (drop-drop count a h) ∙ ap (drop count) x.waits;
  carried = x.carried;
  went = x.went;
  most = x.most;
  covers = x.covers;
  known = up;
  numbers = x.numbers;
}

-- a message goes up
raised-holds : (a : ℕ) (w h : List (List ℕ)) (f : List Frame) (n : ℕ) (r : List (List ℕ)) (k : List Frame) (bytes : List ℕ) → slice_get h n ≡ Some bytes → Holds a w h f n r k → Holds a w h f (n + 1) (r ++ bytes ∷ []) k
raised-holds a w h f n r k bytes e x = record {
  count = x.count;
  waits = x.waits;
  carried = x.carried;
  went = ap (λ l. l ++ bytes ∷ []) x.went ∙ sym (take_one_more h n bytes e);
  most = let within = slice_get_within h n bytes e in omega arith;
  covers = λ i frame h. let old = x.covers i frame h in omega arith;
  known = let old = x.known in omega arith;
  numbers = x.numbers;
}

-- ---- what happens at an end, as seen by what is handed to it

from-sends : (from to : Side) (o : Option (List ℕ)) → unsent from.peer ≡ o → Between from to → (owes : Bool) → Holds (sent_on from.peer o).acknowledged (sent_on from.peer o).waiting from.handed (from.frames ++ option_to_list (frame_of (record from.peer { owes = owes }) o)) to.peer.awaited to.raised to.frames
from-sends from to (Some bytes) e x owes =
    let at = get_behind from.handed from.peer.waiting from.peer.acknowledged from.peer.sent bytes x.waits e in
    sent-holds _ _ _ _ _ _ _ (carrying from.peer bytes ∷ [])
    (λ j frame h. subst (λ (f : Frame). IsOf from.handed f.message) (get_only (carrying from.peer bytes) j frame h) at) x
from-sends from to None e x true =
    sent-holds _ _ _ _ _ _ _ (acknowledgement from.peer ∷ [])
    (λ j frame h. subst (λ (f : Frame). IsOf from.handed f.message) (get_only (acknowledgement from.peer) j frame h) tt) x
from-sends from to None e x false = sent-holds _ _ _ _ _ _ _ [] (λ j frame h. cc) x

-- an acknowledgement of what went up
from-hears : (from to : Side) (k : ℕ) → k ≤ to.peer.awaited → Between from to → let peer = acknowledged_by from.peer k in Holds peer.acknowledged peer.waiting from.handed from.frames to.peer.awaited to.raised to.frames
from-hears from to k up x =
    let p = from.peer in
    cond_both (is_news p k) (without_first p (k - p.acknowledged)) p
    (λ peer. Holds peer.acknowledged peer.waiting from.handed from.frames to.peer.awaited to.raised to.frames)
    (λ e.
    let news = and_parts _ _ e in
    let over = ltb-true p.acknowledged k news.0 in
    let within = leb-true k (used p) news.1 in
    acknowledged-holds _ _ _ _ _ _ _ (k - p.acknowledged) (omega arith) (omega arith) x)
    (λ _. x)

-- where a message is taken, a number is left for it
number_left : (peer : PeerValue) → refusal peer ≡ None → used peer < MOST_MESSAGES
number_left peer =
    cond_both (nat_le MOST_MESSAGES (used peer)) (Some NumbersAreUsed)
    (cond (nat_le peer.window (length peer.waiting)) (Some WindowIsFull) None)
    (λ o. o ≡ None → used peer < MOST_MESSAGES)
    (λ e h. cc) (λ e h. leb-false MOST_MESSAGES (used peer) e)

pub taken_keeps : (peer : PeerValue) (message : Option Numbered) (P : ℕ → List (List ℕ) → Type 0) → P peer.acknowledged peer.waiting → P (taken peer message).acknowledged (taken peer message).waiting
taken_keeps peer None P h = h
taken_keeps peer (Some message) P h = h

pub timed_keeps : (peer : PeerValue) (ticks : ℕ) (P : PeerValue → Type 0) → P peer → ((t : ℕ) → P (record peer { ticks = t })) → P (record peer { sent = 0; ticks = 0 }) → P (timed peer ticks)
timed_keeps peer ticks P same more out =
    cond_both (nat_eq peer.sent 0) _ _ P (λ _. same)
    (λ _. cond_both (nat_lt (peer.ticks + ticks) peer.interval) _ _ P (λ _. more (peer.ticks + ticks)) (λ _. out))

pub from-acts : (from to : Side) (act : Act) → Between from to → Between (acted from to.frames act) to
from-acts from to (HandDown bytes) x =
    let step : (o : Option Refusal) → refusal from.peer ≡ o → Between (with_message from bytes o) to = elim [
      | None ↦ λ e. handed-holds _ _ _ _ _ _ _ bytes (number_left from.peer e) x
      | Some why ↦ λ e. x
    ] in
    step (refusal from.peer) refl
from-acts from to Send x = from-sends from to (unsent from.peer) refl x from.peer.owes
from-acts from to (Hear i) x =
    let step : (o : Option Frame) → slice_get to.frames i ≡ o → Between (with_heard from o) to = elim [
      | None ↦ λ e. x
      | Some frame ↦ λ e.
          taken_keeps (acknowledged_by from.peer frame.awaited) frame.message
          (λ a w. Holds a w from.handed from.frames to.peer.awaited to.raised to.frames)
          (from-hears from to frame.awaited (x.covers i frame e) x)
    ] in
    step (slice_get to.frames i) refl
from-acts from to (Tick ticks) x =
    timed_keeps from.peer ticks
    (λ peer. Holds peer.acknowledged peer.waiting from.handed from.frames to.peer.awaited to.raised to.frames)
    x (λ t. x) x

-- ---- what happens at an end, as seen by what goes up there

to-sends : (from to : Side) (o : Option (List ℕ)) → Between from to → (owes : Bool) → Holds from.peer.acknowledged from.peer.waiting from.handed from.frames (sent_on to.peer o).awaited to.raised (to.frames ++ option_to_list (frame_of (record to.peer { owes = owes }) o))
to-sends from to (Some bytes) x owes =
    answered-holds _ _ _ _ _ _ _ (carrying to.peer bytes ∷ [])
    (λ j frame h. let e = ap (λ (f : Frame). f.awaited) (get_only (carrying to.peer bytes) j frame h) in omega arith) x
to-sends from to None x true =
    answered-holds _ _ _ _ _ _ _ (acknowledgement to.peer ∷ [])
    (λ j frame h. let e = ap (λ (f : Frame). f.awaited) (get_only (acknowledgement to.peer) j frame h) in omega arith) x
to-sends from to None x false = answered-holds _ _ _ _ _ _ _ [] (λ j frame h. cc) x

pub acknowledged_by-awaited : (peer : PeerValue) (k : ℕ) → (acknowledged_by peer k).awaited ≡ peer.awaited
acknowledged_by-awaited peer k =
    cond_both (is_news peer k) (without_first peer (k - peer.acknowledged)) peer
    (λ p. p.awaited ≡ peer.awaited) (λ _. refl) (λ _. refl)

nothing-rises : (from to : Side) → Between from to → Holds from.peer.acknowledged from.peer.waiting from.handed from.frames to.peer.awaited (to.raised ++ []) to.frames
nothing-rises from to x =
    subst (λ r. Holds from.peer.acknowledged from.peer.waiting from.handed from.frames to.peer.awaited r to.frames) (sym (append-nil to.raised)) x

rises : (from to : Side) (message : Numbered) → IsOf from.handed (Some message) → Between from to → (b : Bool) → is_awaited to.peer message ≡ b → Holds from.peer.acknowledged from.peer.waiting from.handed from.frames (cond b (to.peer.awaited + 1) to.peer.awaited) (to.raised ++ option_to_list (cond b (Some message.bytes) None)) to.frames
rises from to message of x true e =
    let next = eqb-true message.number to.peer.awaited (and_parts _ _ e).0 in
    raised-holds _ _ _ _ _ _ _ message.bytes (subst (λ n. slice_get from.handed n ≡ Some message.bytes) next of) x
rises from to message of x false e = nothing-rises from to x

-- a message that was handed down, at an end that awaits the same number as before
to-hears : (from to : Side) (peer : PeerValue) (message : Option Numbered) → peer.awaited ≡ to.peer.awaited → IsOf from.handed message → Between from to → Holds from.peer.acknowledged from.peer.waiting from.handed from.frames (taken peer message).awaited (to.raised ++ option_to_list (goes_up to.peer message)) to.frames
to-hears from to peer None same of x =
    subst (λ n. Holds from.peer.acknowledged from.peer.waiting from.handed from.frames n (to.raised ++ []) to.frames) (sym same)
    (nothing-rises from to x)
to-hears from to peer (Some message) same of x =
    subst (λ n. Holds from.peer.acknowledged from.peer.waiting from.handed from.frames (cond (nat_eq message.number n && nat_lt message.number MOST_MESSAGES) (n + 1) n) (to.raised ++ option_to_list (goes_up to.peer (Some message))) to.frames) (sym same)
    (rises from to message of x (is_awaited to.peer message) refl)

pub to-acts : (from to : Side) (act : Act) → Between from to → Between from (acted to from.frames act)
to-acts from to (HandDown bytes) x =
    let step : (o : Option Refusal) → Between from (with_message to bytes o) = elim [ None ↦ x | Some why ↦ x ] in
    step (refusal to.peer)
to-acts from to Send x = to-sends from to (unsent to.peer) x to.peer.owes
to-acts from to (Hear i) x =
    let step : (o : Option Frame) → slice_get from.frames i ≡ o → Between from (with_heard to o) = elim [
      | None ↦ λ e. x
      | Some frame ↦ λ e.
          to-hears from to (acknowledged_by to.peer frame.awaited) frame.message
          (acknowledged_by-awaited to.peer frame.awaited) (x.carried i frame e) x
    ] in
    step (slice_get from.frames i) refl
to-acts from to (Tick ticks) x =
    timed_keeps to.peer ticks
    (λ peer. Holds from.peer.acknowledged from.peer.waiting from.handed from.frames peer.awaited to.raised to.frames)
    x (λ t. x) x

-- ---- any events

pub record BothWays (link : Link) : Type 0 where
  pub there : Between link.near link.far
  pub back : Between link.far link.near

pub event-holds : (link : Link) (event : Event) → BothWays link → BothWays (after link event)
event-holds link (AtNear act) x = record {
  there = from-acts link.near link.far act x.there;
  back = to-acts link.far link.near act x.back;
}
event-holds link (AtFar act) x = record {
  there = to-acts link.near link.far act x.there;
  back = from-acts link.far link.near act x.back;
}

pub events-hold : (link : Link) (events : List Event) → BothWays link → BothWays (after_all link events)
events-hold link [] x = x
events-hold link (event ∷ events) x = events-hold (after link event) events (event-holds link event x)

beginning : (a n : ℕ) (all : List (List ℕ)) → a ≤ n → IsBeginning (take a all) (take n all)
beginning a n all h =
    (drop a (take n all), ap (λ l. l ++ drop a (take n all)) (sym (take-take a n all h)) ∙ take-append-drop a (take n all))

pub carries : (from to : Side) → Between from to → Carries from to
carries from to x = record {
  order = (drop to.peer.awaited from.handed, ap (λ l. l ++ drop to.peer.awaited from.handed) x.went ∙ take-append-drop to.peer.awaited from.handed);
  acknowledged = subst (IsBeginning (take from.peer.acknowledged from.handed)) (sym x.went) (beginning from.peer.acknowledged to.peer.awaited from.handed x.known);
  whole = λ e.
      let none = eqb-true (length from.peer.waiting) 0 e in
      let all : length from.handed ≤ to.peer.awaited = let c = x.count in let k = x.known in omega arith in
      x.went ∙ take_all to.peer.awaited from.handed all;
}

pub messages_are_carried : MessagesAreCarried
messages_are_carried near_window near_interval far_window far_interval events =
    let start : Link = record { near = opened near_window near_interval; far = opened far_window far_interval } in
    let x = events-hold start events (record { there = opened-holds; back = opened-holds }) in
    record { there = carries _ _ x.there; back = carries _ _ x.back }
