-- Whatever has happened, all that was handed down can still go up.
use Rattle.std.proofs.Common.{◌≡◌, ℕ, zero, suc, ◌+◌, ◌-◌, ◌<◌, ◌≤◌, ◌&&◌, true, cond, Option, Some, None, List, [], ◌∷◌, ◌++◌, refl, ap, sym, subst, ◌∙◌, length, get_or, map, arith, length-drop, nat_eq, nat_lt}
use Rattle.std.specs.Prelude.{option_to_list}
use Rattle.std.specs.List.{slice_get}
use Rattle.std.proofs.lemmas.Bool.{ltb-true, lt-ltb, le-leb, eqb-true, eq-eqb, cond_both, and_from}
use Rattle.std.proofs.lemmas.Option.{slice_get-get_or}
use Rattle.port_arq.specs.declared.frame.Frame.{Frame}
use Rattle.port_arq.specs.declared.frame.Numbered.{Numbered}
use Rattle.port_arq.specs.declared.peer.TheConstants.{MOST_MESSAGES}
use Rattle.port_arq.specs.Peer.{PeerValue, used, acknowledgement, carrying, unsent, frame_of, next_frame, sent_on, is_news, without_first, acknowledged_by, taken, after_hearing, timed}
use Rattle.port_arq.specs.Link.{Side, opened, Send, Hear, Tick, with_frame, with_heard, acted, Link, Event, AtNear, AtFar, after, after_all}
use Rattle.port_arq.specs.LinkLaws.{AllCanStillArrive}
use Rattle.port_arq.proofs.LinkLemmas.{Between, BothWays, opened-holds, from-acts, to-acts, events-hold, carries, taken_keeps, timed_keeps, acknowledged_by-awaited}

-- ---- the timer of an end runs out, and it sends its first message

runs_out : (peer : PeerValue) → (timed peer peer.interval).sent ≡ 0
runs_out peer =
    cond_both (nat_eq peer.sent 0) _ _ (λ (p : PeerValue). p.sent ≡ 0)
    (λ e. eqb-true peer.sent 0 e)
    (λ _. cond_both (nat_lt (peer.ticks + peer.interval) peer.interval) _ _ (λ (p : PeerValue). p.sent ≡ 0)
    (λ e. let h = ltb-true (peer.ticks + peer.interval) peer.interval e in absurd (omega arith))
    (λ _. refl))

-- what an end leaves as it was when it sends a frame
record HasSent (before later : Side) (frame : Frame) : Type 0 where
  last : slice_get later.frames (length before.frames) ≡ Some frame
  acknowledged : later.peer.acknowledged ≡ before.peer.acknowledged
  waiting : later.peer.waiting ≡ before.peer.waiting

get_last : (frames : List Frame) (frame : Frame) → slice_get (frames ++ frame ∷ []) (length frames) ≡ Some frame
get_last [] frame = refl
get_last (first ∷ frames) frame = get_last frames frame

sends : (side : Side) (frame : Frame) → next_frame side.peer ≡ Some frame → HasSent side (with_frame side) frame
sends side frame e =
    let step : (o : Option (List ℕ)) → ((sent_on side.peer o).acknowledged ≡ side.peer.acknowledged) × ((sent_on side.peer o).waiting ≡ side.peer.waiting) = elim [
      | None ↦ (refl, refl)
      | Some bytes ↦ (refl, refl)
    ] in
    let same = step (unsent side.peer) in record {
      last = ap (λ o. slice_get (side.frames ++ option_to_list o) (length side.frames)) e ∙ get_last side.frames frame;
      acknowledged = same.0;
      waiting = same.1;
    }

-- an end that owes an acknowledgement has a frame to send, and each of its frames acknowledges all
owes_frame : (peer : PeerValue) → peer.owes ≡ true → (frame : Frame) × (next_frame peer ≡ Some frame) × (frame.awaited ≡ peer.awaited)
owes_frame peer owes =
    let step : (o : Option (List ℕ)) → (frame : Frame) × (frame_of peer o ≡ Some frame) × (frame.awaited ≡ peer.awaited) = elim [
      | None ↦ (acknowledgement peer, ap (λ b. cond b (Some (acknowledgement peer)) None) owes, refl)
      | Some bytes ↦ (carrying peer bytes, refl, refl)
    ] in
    step (unsent peer)

-- ---- the other end hears it

-- a message that is not past the one that is awaited has gone up now, or had before
gone_up : (n : ℕ) (message : Numbered) → message.number ≤ n → message.number < MOST_MESSAGES → message.number < cond (nat_eq message.number n && nat_lt message.number MOST_MESSAGES) (n + 1) n
gone_up n message h small =
    cond_both (nat_eq message.number n && nat_lt message.number MOST_MESSAGES) (n + 1) n (λ k. message.number < k)
    (λ _. omega arith)
    (λ e.
    let other : message.number ≡ n → ⊥ = λ same. let all = and_from _ _ (eq-eqb message.number n same) (lt-ltb message.number MOST_MESSAGES small) in cc in
    omega arith)

-- what an end is after it heard a message
record HasHeard (peer later : PeerValue) (number : ℕ) : Type 0 where
  up : number < later.awaited
  owes : later.owes ≡ true

hears : (peer : PeerValue) (frame : Frame) (message : Numbered) → frame.message ≡ Some message → message.number ≤ peer.awaited → message.number < MOST_MESSAGES → HasHeard peer (after_hearing peer frame) message.number
hears peer frame message e h small =
    let now = acknowledged_by peer frame.awaited in
    let same = acknowledged_by-awaited peer frame.awaited in
    let within : message.number ≤ now.awaited = omega arith in
    subst (λ m. HasHeard peer (taken now m) message.number) (sym e)
    (record { up = gone_up now.awaited message within small; owes = refl })

fewer_wait : (peer : PeerValue) (k : ℕ) (message : Option Numbered) → length (taken (acknowledged_by peer k) message).waiting ≤ length peer.waiting
fewer_wait peer k message =
    taken_keeps (acknowledged_by peer k) message (λ a w. length w ≤ length peer.waiting)
    (cond_both (is_news peer k) (without_first peer (k - peer.acknowledged)) peer
    (λ (p : PeerValue). length p.waiting ≤ length peer.waiting)
    (λ _. omega (arith, length-drop (k - peer.acknowledged) peer.waiting)) (λ _. omega arith))

-- an acknowledgement of messages that wait
one_fewer_waits : (peer : PeerValue) (k : ℕ) (message : Option Numbered) → peer.acknowledged < k → k ≤ used peer → length (taken (acknowledged_by peer k) message).waiting < length peer.waiting
one_fewer_waits peer k message over within =
    taken_keeps (acknowledged_by peer k) message (λ a w. length w < length peer.waiting)
    (cond_both (is_news peer k) (without_first peer (k - peer.acknowledged)) peer
    (λ (p : PeerValue). length p.waiting < length peer.waiting)
    (λ _. omega (arith, length-drop (k - peer.acknowledged) peer.waiting))
    (λ e. let news = and_from _ _ (lt-ltb peer.acknowledged k over) (le-leb k (used peer) within) in cc))

-- ---- an exchange that the link does not disturb

-- the ends after the timer of one has run out, it sent, the other heard just that and sent, and the first heard
-- just that
abbrev timed_out : Side → Side → Side
timed_out from to = acted from to.frames (Tick from.peer.interval)

abbrev having_sent : Side → Side → Side
having_sent from to = acted (timed_out from to) to.frames Send

abbrev having_heard : Side → Side → Side
having_heard from to = acted to (having_sent from to).frames (Hear (length from.frames))

abbrev having_answered : Side → Side → Side
having_answered from to = acted (having_heard from to) (having_sent from to).frames Send

abbrev having_closed : Side → Side → Side
having_closed from to = acted (having_sent from to) (having_answered from to).frames (Hear (length to.frames))

-- what such an exchange brings
record Nearer (from to from_then to_then : Side) : Type 0 where
  there : Between from_then to_then
  back : Between to_then from_then
  fewer : length from_then.peer.waiting < length from.peer.waiting
  no_more : length to_then.peer.waiting ≤ length to.peer.waiting
  from_handed : from_then.handed ≡ from.handed
  to_handed : to_then.handed ≡ to.handed

heard_handed : (side : Side) (o : Option Frame) → (with_heard side o).handed ≡ side.handed
heard_handed side None = refl
heard_handed side (Some frame) = refl

heard_frames : (side : Side) (o : Option Frame) → (with_heard side o).frames ≡ side.frames
heard_frames side None = refl
heard_frames side (Some frame) = refl

exchange_nears : (from to : Side) → Between from to → Between to from → 0 < length from.peer.waiting → Nearer from to (having_closed from to) (having_answered from to)
exchange_nears from to there back some =
    let interval = from.peer.interval in
    let from1 = timed_out from to in
    let from2 = having_sent from to in
    let to1 = having_heard from to in
    let to2 = having_answered from to in
    let there1 = from-acts from to (Tick interval) there in
    let there2 = from-acts from1 to Send there1 in
    let there3 = to-acts from2 to (Hear (length from.frames)) there2 in
    let there4 = to-acts from2 to1 Send there3 in
    let back1 = to-acts to from (Tick interval) back in
    let back2 = to-acts to from1 Send back1 in
    let back3 = from-acts to from2 (Hear (length from.frames)) back2 in
    let back4 = from-acts to1 from2 Send back3 in
    let same = timed_keeps from.peer interval (λ (p : PeerValue). (p.acknowledged ≡ from.peer.acknowledged) × (p.waiting ≡ from.peer.waiting)) (refl, refl) (λ t. (refl, refl)) (refl, refl) in
    let none_sent = runs_out from.peer in
    let waits : length from1.peer.waiting ≡ length from.peer.waiting = ap length same.1 in
    let within : from1.peer.sent < length from1.peer.waiting = omega arith in
    let bytes = get_or from1.peer.waiting from1.peer.sent [] in
    let message : Numbered = record { number = from1.peer.acknowledged + from1.peer.sent; bytes = bytes } in
    let frame = carrying from1.peer bytes in
    let is_next = ap (frame_of from1.peer) (slice_get-get_or from1.peer.waiting from1.peer.sent [] within) in
    let sent = sends from1 frame is_next in
    let number : message.number ≤ to.peer.awaited = let k = there1.known in omega arith in
    let small : message.number < MOST_MESSAGES = let c = there1.count in let m = there1.numbers in omega arith in
    let heard = subst (λ o. HasHeard to.peer (with_heard to o).peer message.number) (sym sent.last) (hears to.peer frame message refl number small) in
    let no_more = subst (λ o. length (with_heard to o).peer.waiting ≤ length to.peer.waiting) (sym sent.last) (fewer_wait to.peer frame.awaited frame.message) in
    let answer = owes_frame to1.peer heard.owes in
    let answered = sends to1 answer.0 answer.1 in
    let last = ap (λ (l : List Frame). slice_get to2.frames (length l)) (sym (heard_frames to (slice_get from2.frames (length from.frames)))) ∙ answered.last in
    let over : from2.peer.acknowledged < answer.0.awaited = let a = sent.acknowledged in let b = answer.2 in let u = heard.up in omega arith in
    let most : answer.0.awaited ≤ used from2.peer = let b = answer.2 in let m = there3.most in let c = there3.count in omega arith in
    let closed = subst (λ o. length (with_heard from2 o).peer.waiting < length from2.peer.waiting) (sym last) (one_fewer_waits from2.peer answer.0.awaited answer.0.message over most) in
    record {
      there = from-acts from2 to2 (Hear (length to.frames)) there4;
      back = to-acts to2 from2 (Hear (length to.frames)) back4;
      fewer = subst (λ n. length (having_closed from to).peer.waiting < n) (ap length sent.waiting ∙ waits) closed;
      no_more = subst (λ n. n ≤ length to.peer.waiting) (ap length (sym answered.waiting)) no_more;
      from_handed = heard_handed from2 (slice_get to2.frames (length to.frames));
      to_handed = heard_handed to (slice_get from2.frames (length from.frames));
    }

-- ---- exchanges until nothing waits

abbrev near_exchange : Link → List Event
near_exchange link =
    AtNear (Tick link.near.peer.interval) ∷ AtNear Send ∷ AtFar (Hear (length link.near.frames)) ∷ AtFar Send
    ∷ AtNear (Hear (length link.far.frames)) ∷ []

-- events after which nothing of the near end waits, and no more of the far end than before
record NearArrives (link : Link) (more : List Event) : Type 0 where
  both : BothWays (after_all link more)
  none : length (after_all link more).near.peer.waiting ≡ 0
  no_more : length (after_all link more).far.peer.waiting ≤ length link.far.peer.waiting
  near_handed : (after_all link more).near.handed ≡ link.near.handed
  far_handed : (after_all link more).far.handed ≡ link.far.handed

near_rests : (link : Link) → BothWays link → length link.near.peer.waiting ≡ 0 → NearArrives link []
near_rests link x e =
    record { both = x; none = e; no_more = omega arith; near_handed = refl; far_handed = refl }

near_arrives : (n : ℕ) (link : Link) → BothWays link → length link.near.peer.waiting ≤ n → (more : List Event) × NearArrives link more
near_arrives zero link x h = ([], near_rests link x (omega arith))
near_arrives (suc n) link x h =
    let step : (w : List (List ℕ)) → link.near.peer.waiting ≡ w → (more : List Event) × NearArrives link more = elim [
      | [] ↦ λ e. ([], near_rests link x (ap length e))
      | bytes ∷ w ↦ λ e.
          let some : 0 < length link.near.peer.waiting = let l = ap length e in omega arith in
          let nearer = exchange_nears link.near link.far x.there x.back some in
          let then : Link = record { near = having_closed link.near link.far; far = having_answered link.near link.far } in
          let fits : length then.near.peer.waiting ≤ n = let f = nearer.fewer in omega arith in
          let rest = near_arrives n then (record { there = nearer.there; back = nearer.back }) fits in (
            near_exchange link ++ rest.0,
            record {
              both = rest.1.both;
              none = rest.1.none;
              no_more = let a = rest.1.no_more in let b = nearer.no_more in omega arith;
              near_handed = rest.1.near_handed ∙ nearer.from_handed;
              far_handed = rest.1.far_handed ∙ nearer.to_handed;
            },
          )
    ] in
    step link.near.peer.waiting refl

-- ---- the same at the other end

abbrev swapped : Link → Link
swapped link = record { near = link.far; far = link.near }

abbrev swapped_event : Event → Event
swapped_event (AtNear act) = AtFar act
swapped_event (AtFar act) = AtNear act

after_all-swapped : (link : Link) (events : List Event) → after_all (swapped link) (map swapped_event events) ≡ swapped (after_all link events)
after_all-swapped link [] = refl
after_all-swapped link (AtNear act ∷ events) = after_all-swapped (after link (AtNear act)) events
after_all-swapped link (AtFar act ∷ events) = after_all-swapped (after link (AtFar act)) events

after_all-append : (link : Link) (events more : List Event) → after_all link (events ++ more) ≡ after_all (after_all link events) more
after_all-append link [] more = refl
after_all-append link (event ∷ events) more = after_all-append (after link event) events more

-- what waits nowhere has gone up
all_went_up : (from to : Side) → Between from to → length from.peer.waiting ≡ 0 → to.raised ≡ from.handed
all_went_up from to x e = (carries from to x).whole (eq-eqb (length from.peer.waiting) 0 e)

record Arrives (link later : Link) : Type 0 where
  far : later.far.raised ≡ link.near.handed
  near : later.near.raised ≡ link.far.handed

can_arrive : (link : Link) → BothWays link → (more : List Event) × Arrives link (after_all link more)
can_arrive link x =
    let first = near_arrives (length link.near.peer.waiting) link x (omega arith) in
    let mid = after_all link first.0 in
    let both = first.1.both in
    let second = near_arrives (length mid.far.peer.waiting) (swapped mid) (record { there = both.back; back = both.there }) (omega arith) in
    let end = after_all (swapped mid) second.0 in
    let is : after_all link (first.0 ++ map swapped_event second.0) ≡ swapped end = after_all-append link first.0 (map swapped_event second.0) ∙ after_all-swapped (swapped mid) second.0 in
    let none : length end.far.peer.waiting ≡ 0 = let a = first.1.none in let b = second.1.no_more in omega arith in (
      first.0 ++ map swapped_event second.0,
      subst (Arrives link) (sym is) (record {
        far = all_went_up end.far end.near second.1.both.back none ∙ second.1.far_handed ∙ first.1.near_handed;
        near = all_went_up end.near end.far second.1.both.there second.1.none ∙ second.1.near_handed ∙ first.1.far_handed;
      }),
    )

pub all_can_still_arrive : AllCanStillArrive
all_can_still_arrive near_window near_interval far_window far_interval events =
    let start : Link = record { near = opened near_window near_interval; far = opened far_window far_interval } in
    let now = after_all start events in
    let can = can_arrive now (events-hold start events (record { there = opened-holds; back = opened-holds })) in
    let arrives = subst (Arrives now) (sym (after_all-append start events can.0)) can.1 in
    (can.0, (arrives.far, arrives.near))
