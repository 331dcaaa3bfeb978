-- Streams that are made, one more at a time, and who sits there.
use Rattle.std.proofs.Common.{◌≡◌, ℕ, zero, suc, true, ◌+◌, ◌<◌, Option, List, [], ◌∷◌, ◌++◌, length, get_or, map, Vec, Global, All, refl, sym, ◌∙◌, ap, subst, arith, below_more, Result, Ok, Err, IfOk, IsOk}
use Rattle.std.proofs.lemmas.List.{length-map, get_or-map, length_push, get_or_push, get_or_append_left, get_or_default}
use Rattle.strm_head_calls.specs.declared.setup.Setup.{Setup}
use Rattle.strm_msg.specs.declared.memory.NoMem.{NoMem}
use Rattle.strm_shared.specs.Seat.{SeatValue}
use Rattle.strm_shared_ring.specs.Feed.{fresh_feeder, FeederValue, RingValue}
use Rattle.strm_shared.specs.Ending.{fresh_seats, SharedValue}
use Rattle.strm_run_callers.specs.RunName.{RunValue}
use Rattle.strm_run_callers.specs.RunName.{ring_of}
use Rattle.strm_run_callers.specs.Dealing.{AreSeated}
use Rattle.strm_run.specs.Inside.Opening.{AreOpened, AreSeatsOn}
use Rattle.strm_run.specs.Inside.Table.{IsTransposed}
use Rattle.strm_run_callers.proofs.ReachedLemmas.{reached_is, reached_there}

-- what holds of each, as of one more behind them
each_push : {X : Type 0} (P : ℕ → X → Type 0) (xs : List X) (x : X) (at : ℕ) → length xs ≡ at → ((k : ℕ) (d : X) → k < at → P k (get_or xs k d)) → P at x → (k : ℕ) (d : X) → k < at + 1 → P k (get_or (xs ++ x ∷ []) k d)
each_push P xs x at many before here k d below =
    below_more (λ (n : ℕ). P n (get_or (xs ++ x ∷ []) n d)) at
    (λ n lower. subst (λ y. P n y) (sym (get_or_append_left xs (x ∷ []) d n (subst (λ m. n < m) (sym many) lower))) (before n d lower))
    (subst (λ y. P at y) (sym (get_or_push xs x d at many)) here) k below

-- the streams, the seats and the feeders of the first setups
pub record AreOpenedTo {K : Type 0} (run : RunValue K) (at : ℕ) (streams : List SharedValue) (seats : List (Vec SeatValue Global)) (feeders : List (Option FeederValue)) : Type 0 where
  pub streams_many : length streams ≡ at
  pub seats_many : length seats ≡ at
  pub feeders_many : length feeders ≡ at
  pub streams_are : (k : ℕ) (d : SharedValue) → k < at → (s : Setup) → get_or streams k d ≡ record { number = k; setup = get_or run.setups k s; seats = length run.scripts }
  pub seats_are : (k : ℕ) (d : Vec SeatValue Global) → k < at → (get_or seats k d).items ≡ fresh_seats k (length run.scripts)
  pub feeders_are : (k : ℕ) (d : Option FeederValue) → k < at → (s : Setup) → get_or feeders k d ≡ fresh_feeder k (get_or run.setups k s)

-- of one setup more
opened_more : {K : Type 0} (run : RunValue K) (at : ℕ) (streams : List SharedValue) (seats : List (Vec SeatValue Global)) (feeders : List (Option FeederValue)) (e : Setup) (shared : SharedValue) (mine : Vec SeatValue Global) (feeder : Option FeederValue) → AreOpenedTo run at streams seats feeders → at < length run.setups → shared ≡ record { number = at; setup = get_or run.setups at e; seats = length run.scripts } → mine.items ≡ fresh_seats at (length run.scripts) → feeder ≡ fresh_feeder at (get_or run.setups at e) → AreOpenedTo run (at + 1) (streams ++ shared ∷ []) (seats ++ mine ∷ []) (feeders ++ feeder ∷ [])
opened_more run at streams seats feeders e shared mine feeder was within shared_is mine_is feeder_is =
    let setup_is : (s : Setup) → get_or run.setups at e ≡ get_or run.setups at s = λ s. get_or_default run.setups at e s within in
    record {
      streams_many = length_push streams shared ∙ ap (λ n. n + 1) was.streams_many;
      seats_many = length_push seats mine ∙ ap (λ n. n + 1) was.seats_many;
      feeders_many = length_push feeders feeder ∙ ap (λ n. n + 1) was.feeders_many;
      streams_are = each_push (λ (k : ℕ) (one : SharedValue). (s : Setup) → one ≡ record { number = k; setup = get_or run.setups k s; seats = length run.scripts }) streams shared at was.streams_many was.streams_are (λ s. shared_is ∙ ap (λ (x : Setup). record { number = at; setup = x; seats = length run.scripts }) (setup_is s));
      seats_are = each_push (λ (k : ℕ) (one : Vec SeatValue Global). one.items ≡ fresh_seats k (length run.scripts)) seats mine at was.seats_many was.seats_are mine_is;
      feeders_are = each_push (λ (k : ℕ) (one : Option FeederValue). (s : Setup) → one ≡ fresh_feeder k (get_or run.setups k s)) feeders feeder at was.feeders_many was.feeders_are (λ s. feeder_is ∙ ap (λ (x : Setup). fresh_feeder at x) (setup_is s));
    }

-- where a stream was made and kept
pub kept_more : {K : Type 0} (run : RunValue K) (at : ℕ) (streams kept_streams : List SharedValue) (seats kept_seats : List (Vec SeatValue Global)) (feeders kept_feeders : List (Option FeederValue)) (e : Setup) (made : Result (SharedValue × Vec SeatValue Global × Option FeederValue) NoMem) → AreOpenedTo run at streams seats feeders → at < length run.setups → IfOk made (λ all. all.0 ≡ record { number = at; setup = get_or run.setups at e; seats = length run.scripts }) → IfOk made (λ all. all.1.items ≡ fresh_seats at (length run.scripts)) → IfOk made (λ all. all.2 ≡ fresh_feeder at (get_or run.setups at e)) → IsOk made → IfOk made (λ one. kept_streams ≡ streams ++ one.0 ∷ []) → IfOk made (λ one. kept_seats ≡ seats ++ one.1 ∷ []) → IfOk made (λ one. kept_feeders ≡ feeders ++ one.2 ∷ []) → AreOpenedTo run (at + 1) kept_streams kept_seats kept_feeders
kept_more run at streams kept_streams seats kept_seats feeders kept_feeders e (Ok one) was within shared_is mine_is feeder_is is streams_is seats_is feeders_is =
    rw (streams_is, seats_is, feeders_is) (opened_more run at streams seats feeders e one.0 one.1 one.2 was within shared_is mine_is feeder_is)
kept_more run at streams kept_streams seats kept_seats feeders kept_feeders e (Err fault) was within shared_is mine_is feeder_is is streams_is seats_is feeders_is = absurd cc

-- the ring behind those so far
ring_seam : (before after : List RingValue) (ring : RingValue) → ring_of (before ++ ring ∷ after) (length before) ≡ ring.name
ring_seam [] after ring = refl
ring_seam (first ∷ before) after ring = ring_seam before after ring

-- a ring that a loop over them has reached, and the setup that it was made by
module _ {K : Type 0} (run : RunValue K) (rings before after : List RingValue) (ring : RingValue) (at : ℕ) (made : map (λ r. r.setup) rings ≡ run.setups) (is : before ++ ring ∷ after ≡ rings) (place : at ≡ length before) where
  inside : at < length rings
  inside = reached_there rings before after ring at is place

  pub ring_there : at < length run.setups
  ring_there = subst (λ n. at < n) (sym (length-map rings (λ (r : RingValue). r.setup)) ∙ ap (λ l. length l) made) inside

  pub ring_setup : (s : Setup) → get_or run.setups at s ≡ ring.setup
  ring_setup s =
      ap (λ (l : List Setup). get_or l at s) (sym made)
      ∙ get_or-map (λ (r : RingValue). r.setup) rings at ring s inside
      ∙ ap (λ (r : RingValue). r.setup) (reached_is rings before after ring ring at is place)

  pub ring_named : ring.name ≡ ring_of rings at
  ring_named = sym (ap (λ l. ring_of l at) (sym is) ∙ ap (λ n. ring_of (before ++ ring ∷ after) n) place ∙ ring_seam before after ring)

-- where all rings have their streams, all are opened
pub opened_all : {K : Type 0} (run : RunValue K) (at : ℕ) (streams : List SharedValue) (seats : List (Vec SeatValue Global)) (feeders : List (Option FeederValue)) → AreOpenedTo run at streams seats feeders → at ≡ length run.setups → AreOpened run streams seats feeders
opened_all run at streams seats feeders was all = record {
  streams_are = record {
    many = was.streams_many ∙ all;
    each = λ k d s below. was.streams_are k d (subst (λ n. k < n) was.streams_many below) s;
  };
  seats_are = record {
    many = was.seats_many ∙ all;
    each = λ k d below. was.seats_are k d (subst (λ n. k < n) (sym all) below);
  };
  feeders_are = record {
    many = was.feeders_many ∙ all;
    each = λ k d s below. was.feeders_are k d (subst (λ n. k < n) (sym all) below) s;
  };
}

-- as many seats as callers, each its caller's own
pub fresh_many : (number callers : ℕ) → length (fresh_seats number callers) ≡ callers
fresh_many number zero = refl
fresh_many number (suc callers) =
    length_push (fresh_seats number callers) (record { number = number; caller = callers; calls = 0; shown = true }) ∙ (let more : length (fresh_seats number callers) + 1 ≡ suc callers = omega (arith, fresh_many number callers) in more)

pub fresh_at : (number callers caller : ℕ) (d : SeatValue) → caller < callers → get_or (fresh_seats number callers) caller d ≡ record { number = number; caller = caller; calls = 0; shown = true }
fresh_at number zero caller d below = absurd (omega arith)
fresh_at number (suc callers) caller d below =
    each_push (λ (k : ℕ) (one : SeatValue). one ≡ record { number = number; caller = k; calls = 0; shown = true }) (fresh_seats number callers) (record { number = number; caller = callers; calls = 0; shown = true }) callers (fresh_many number callers) (λ k e under. fresh_at number callers k e under) refl caller d (omega arith)

-- the seats on each stream are as many as the callers
pub columns_high : {K : Type 0} (run : RunValue K) (columns : List (Vec SeatValue Global)) → AreSeatsOn run columns → All (λ column. length column.items ≡ length run.scripts) columns
columns_high run columns seats k d below =
    ap (λ (l : List SeatValue). length l) (seats.each k d (subst (λ n. k < n) seats.many below)) ∙ fresh_many k (length run.scripts)

-- the seats on each stream, turned into those of each caller
pub seated_after : {K : Type 0} (run : RunValue K) (columns rows : List (Vec SeatValue Global)) → AreSeatsOn run columns → IsTransposed columns (length run.scripts) rows → AreSeated run rows
seated_after run columns rows seats turned = record {
  many = turned.many;
  long = λ caller d below. turned.long caller d below ∙ seats.many;
  each = λ caller k d x below under.
      turned.each caller k d d x below (subst (λ n. k < n) (sym seats.many) under)
      ∙ ap (λ (l : List SeatValue). get_or l caller x) (seats.each k d under)
      ∙ fresh_at k (length run.scripts) caller x below;
}
