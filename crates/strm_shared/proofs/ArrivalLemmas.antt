-- What stands under the lock, with one message or one call more.
use Rattle.std.proofs.Common.{◌≡◌, ℕ, ◌+◌, ◌++◌, Option, Some, None, List, [], ◌∷◌, append-nil, sym, ◌∙◌, ap}
use Rattle.std.specs.Prelude.{Bool, true, false}
use Rattle.std.proofs.lemmas.List.{length_push}
use Rattle.std.proofs.lemmas.List.Concat.{flat_map-append}
use Rattle.strm_msg.specs.Message.{Msg}
use Rattle.strm_msg.specs.declared.words.End.{End}
use Rattle.strm_module.specs.Kinds.{Meaning}
use Rattle.strm_module.specs.declared.shape.Shape.{Shape}
use Rattle.strm_module.specs.Driver.{is_line}
use Rattle.strm_head_calls.specs.declared.answer.Answer.{Answer}
use Rattle.strm_head_calls.specs.declared.call.Call.{Call}
use Rattle.strm_head_calls.specs.declared.event.Event.{Event}
use Rattle.strm_head_calls.specs.declared.event.Event.TheVariants.{Asked, Arrived}
use Rattle.strm_shared_entry.specs.Entry.{Entry}
use Rattle.strm_shared_entry.specs.declared.call.Called.{Called}
use Rattle.strm_shared_entry.specs.declared.call.Called.TheVariants.{Done, NoRoom}
use Rattle.strm_shared_entry.specs.Entry.{came_in}
use Rattle.strm_shared_entry.specs.Called.{is_done}
use Rattle.strm_shared_entry.specs.Own.{arrivals}
use Rattle.strm_shared_log.specs.Log.{LogValue, HandsOutIf, HasLanded, CallsBy, IsSameLog}
use Rattle.strm_shared_log.proofs.LogLemmas.{landed_same, same_log, same_logs}
use Rattle.strm_shared_ring.specs.Inlet.{InletValue}
use Rattle.strm_shared_ring.specs.StreamRunName.{IsNextOf}
use Rattle.strm_shared.specs.Seat.{SeatValue}
use Rattle.strm_shared.specs.CallCounts.{turned, IsSharedState, CallCountsValue}
use Rattle.strm_shared.specs.Arrivals.{TakesIn, ComesIn, NoMoreCome, TakesAll, Finds}
use Rattle.strm_shared.proofs.TurnLemmas.{call_keeps, line_in_turn}

-- what came in, with one step more
arrivals_more : {K : Type 0} (history longer : List (Entry K)) (entry : Entry K) (event : Event (Shape K)) → longer ≡ history ++ entry ∷ [] → entry.event ≡ event → arrivals longer ≡ arrivals history ++ came_in event
arrivals_more history longer entry event is has =
    ap (λ (l : List (Entry _)). arrivals l) is
    ∙ flat_map-append (λ (e : Entry _). came_in e.event) history (entry ∷ [])
    ∙ ap (λ (l : List Msg). arrivals history ++ l) (append-nil (came_in entry.event) ∙ ap (λ (e : Event (Shape _)). came_in e) has)

-- for kinds of any meaning
module _ {K : Type 0} (means : Meaning K) where
  -- some messages that came in, and one more
  takes_more : (old between new : LogValue K) (came : List Msg) (m : Msg) → TakesIn means old came between → HasLanded means between m new → TakesIn means old (came ++ m ∷ []) new
  takes_more old between new [] m same lands = (new, landed_same means old between new m same lands, same_log new)
  takes_more old between new (first ∷ rest) m takes lands = (takes.0, takes.1, takes_more takes.0 between new rest m takes.2 lands)

  pub comes_more : (many : ℕ) (old between new : LogValue K) (m : Msg) → ComesIn means many old between → HasLanded means between m new → ComesIn means (many + 1) old new
  comes_more many old between new m comes lands = record {
    came = comes.came ++ m ∷ [];
    takes = takes_more old between new comes.came m comes.takes lands;
    many_came = length_push comes.came m ∙ ap (λ n. n + 1) comes.many_came;
  }

  -- some messages that came in, with other room before them
  takes_same : (old between new : LogValue K) (came : List Msg) → IsSameLog old between → TakesIn means between came new → TakesIn means old came new
  takes_same old between new [] same takes = same_logs old between new same takes
  takes_same old between new (m ∷ rest) same takes = (takes.0, landed_same means old between takes.0 m same takes.1, takes.2)

  comes_same : (many : ℕ) (old between new : LogValue K) → IsSameLog old between → ComesIn means many between new → ComesIn means many old new
  comes_same many old between new same comes = record {
    came = comes.came;
    takes = takes_same old between new comes.came same comes.takes;
    many_came = comes.many_came;
  }

  -- and with other room behind them
  takes_then : (old between new : LogValue K) (came : List Msg) → TakesIn means old came between → IsSameLog between new → TakesIn means old came new
  takes_then old between new [] takes same = same_logs old between new takes same
  takes_then old between new (m ∷ rest) takes same = (takes.0, takes.1, takes_then takes.0 between new rest takes.2 same)

  pub comes_then : (many : ℕ) (old between new : LogValue K) → ComesIn means many old between → IsSameLog between new → ComesIn means many old new
  comes_then many old between new comes same = record {
    came = comes.came;
    takes = takes_then old between new comes.came comes.takes same;
    many_came = comes.many_came;
  }

  -- all that can came in, with other room before
  stops_same : (old between new : LogValue K) (many : ℕ) (has_memory : Bool) (held : Option Msg) → IsSameLog old between → NoMoreCome means between many has_memory new held → NoMoreCome means old many has_memory new held
  stops_same old between new many true held same stops = rw same.setup at stops
  stops_same old between new many false held same stops = stops

  pub all_same : (old between new : LogValue K) (has_memory : Bool) (held : Option Msg) → IsSameLog old between → TakesAll means between has_memory new held → TakesAll means old has_memory new held
  all_same old between new has_memory held same all = record {
    many = all.many;
    few = rw same.setup at all.few;
    comes = comes_same all.many old between new same all.comes;
    stops = stops_same old between new all.many has_memory held same all.stops;
  }

  -- a call that was made found all that can come in
  pub found : {A : Type 0} (old before : LogValue K) (result : Called (Shape K) K A) (held : Option Msg) → is_done result ≡ true → TakesAll means old true before held → Finds means old result before held
  found old before (Done has back receipt) held made all = all
  found old before (NoRoom same) held made all = absurd cc

  -- a call has let nothing in, and keeps the setup
  call_arrivals : {A : Type 0} (Agrees : A → Answer → Type 0) (old new : LogValue K) (caller nth : ℕ) (call : Call (Shape K)) (result : Called (Shape K) K A) → CallsBy means Agrees old caller nth call result new → arrivals new.history ≡ arrivals old.history
  call_arrivals Agrees old new caller nth call (Done has back receipt) by =
      let enters = by.2.enters in
      arrivals_more old.history new.history enters.entry (Asked call.request) enters.history enters.has ∙ append-nil (arrivals old.history)
  call_arrivals Agrees old new caller nth call (NoRoom same) by = ap (λ (l : List (Entry K)). arrivals l) by.1.history

  call_setup : {A : Type 0} (Agrees : A → Answer → Type 0) (old new : LogValue K) (caller nth : ℕ) (call : Call (Shape K)) (result : Called (Shape K) K A) → CallsBy means Agrees old caller nth call result new → is_line new.setup.driver ≡ is_line old.setup.driver
  call_setup Agrees old new caller nth call (Done has back receipt) by = ap (λ s. is_line s.driver) by.2.enters.setup
  call_setup Agrees old new caller nth call (NoRoom same) by = ap (λ s. is_line s.driver) by.1.setup

  module _ (calls : ℕ → ℕ → Option (List (End × Event (Shape K)))) (number : ℕ) where
    pub call_locked : {A : Type 0} (Agrees : A → Answer → Type 0) (old new : LogValue K) (seat : SeatValue) (call : Call (Shape K)) (result : Called (Shape K) K A) (turns after : CallCountsValue) (inlet : InletValue) → CallsBy means Agrees old seat.caller (seat.calls + 1) call result new → after ≡ turned number seat result turns → IsNextOf (calls seat.number seat.caller) seat.calls (call.end, Asked call.request) → IsSharedState (calls number) number old turns inlet → IsSharedState (calls number) number new after inlet
    call_locked Agrees old new seat call result turns after inlet by is next was = record {
      in_turn = call_keeps means calls number Agrees old new seat call result turns after by is next was.in_turn;
      came_in = call_arrivals Agrees old new seat.caller (seat.calls + 1) call result by ∙ was.came_in;
      of = was.of;
      fed = was.fed ∙ sym (call_setup Agrees old new seat.caller (seat.calls + 1) call result by);
    }

    -- so does a message that has left the inlet and came in
    pub landed_locked : (old new : LogValue K) (m : Msg) (turns : CallCountsValue) (inlet after : InletValue) → HasLanded means old m new → after ≡ record inlet { came = inlet.came ++ m ∷ []; held = None } → IsSharedState (calls number) number old turns inlet → IsSharedState (calls number) number new turns after
    landed_locked old new m turns inlet after lands left was =
        let enters = lands.enters in
        record {
          in_turn = λ turn. line_in_turn (calls number) turns.counts old.history new.history enters.entry enters.history enters.by (was.in_turn turn);
          came_in = arrivals_more old.history new.history enters.entry (Arrived m) enters.history enters.has ∙ ap (λ (l : List Msg). l ++ m ∷ []) was.came_in ∙ sym (ap (λ (i : InletValue). i.came) left);
          of = ap (λ (i : InletValue). i.number) left ∙ was.of;
          fed = ap (λ (i : InletValue). i.is_fed) left ∙ was.fed ∙ sym (ap (λ s. is_line s.driver) enters.setup);
        }

-- a message that has left the inlet and is held back leaves what stands under the lock as it was
pub held_locked : {K : Type 0} (calls : ℕ → ℕ → Option (List (End × Event (Shape K)))) (number : ℕ) (old new : LogValue K) (m same : Msg) (turns : CallCountsValue) (inlet taken after : InletValue) → same ≡ m → IsSameLog old new → taken ≡ record inlet { came = inlet.came ++ m ∷ []; held = None } → ((before : List Msg) → taken.came ≡ before ++ same ∷ [] → after ≡ record taken { came = before; held = Some same }) → IsSharedState (calls number) number old turns inlet → IsSharedState (calls number) number new turns after
held_locked calls number old new m same turns inlet taken after is kept left held was =
    let last : taken.came ≡ inlet.came ++ same ∷ [] = ap (λ (i : InletValue). i.came) left ∙ ap (λ (x : Msg). inlet.came ++ x ∷ []) (sym is) in
    let back = held inlet.came last in
    rw (kept.history, kept.setup)
    (record {
      in_turn = was.in_turn;
      came_in = was.came_in ∙ sym (ap (λ (i : InletValue). i.came) back);
      of = ap (λ (i : InletValue). i.number) back ∙ ap (λ (i : InletValue). i.number) left ∙ was.of;
      fed = ap (λ (i : InletValue). i.is_fed) back ∙ ap (λ (i : InletValue). i.is_fed) left ∙ was.fed;
    })

-- so does other room
pub same_locked : {K : Type 0} (calls : ℕ → ℕ → Option (List (End × Event (Shape K)))) (number : ℕ) (old new : LogValue K) (turns : CallCountsValue) (inlet : InletValue) → IsSameLog old new → IsSharedState (calls number) number old turns inlet → IsSharedState (calls number) number new turns inlet
same_locked calls number old new turns inlet same was = record {
  in_turn = rw same.history was.in_turn;
  came_in = rw same.history was.came_in;
  of = was.of;
  fed = rw same.setup was.fed;
}

-- so does handing out
pub handed_locked : {K : Type 0} (calls : ℕ → ℕ → Option (List (End × Event (Shape K)))) (number : ℕ) (old new : LogValue K) (b : Bool) (turns : CallCountsValue) (inlet : InletValue) → HandsOutIf b old new → IsSharedState (calls number) number old turns inlet → IsSharedState (calls number) number new turns inlet
handed_locked calls number old new true turns inlet handed was = record {
  in_turn = rw handed.history was.in_turn;
  came_in = rw handed.history was.came_in;
  of = was.of;
  fed = rw handed.setup was.fed;
}
handed_locked calls number old new false turns inlet same was = same_locked calls number old new turns inlet same was

-- a message that was handed back is held
pub held_is : (m same : Msg) (inlet taken after : InletValue) → same ≡ m → taken ≡ record inlet { came = inlet.came ++ m ∷ []; held = None } → ((before : List Msg) → taken.came ≡ before ++ same ∷ [] → after ≡ record taken { came = before; held = Some same }) → after.held ≡ Some m
held_is m same inlet taken after is left held =
    ap (λ (i : InletValue). i.held) (held inlet.came (ap (λ (i : InletValue). i.came) left ∙ ap (λ (x : Msg). inlet.came ++ x ∷ []) (sym is)))
    ∙ ap (λ (x : Msg). Some x) is
