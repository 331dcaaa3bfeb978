-- What a message and a service do to a module, by ranks.
use Rattle.std.proofs.Common.{◌⊎◌, inl, inr, ◌≡◌, ◌-◌, ◌<◌, ◌≤◌, ◌&&◌, ◌||◌, not, ℕ, Bool, true, false, cond, Option, Some, None, List, [], ◌∷◌, length, is_some, refl, sym, ◌∙◌, ap, subst, arith, suc, zero}
use Rattle.std.specs.List.{list_all}
use Rattle.strm_chain_ends.proofs.CalmLemmas.{le_same}
use Rattle.strm_msg.specs.Kind.{is_high}
use Rattle.strm_msg.specs.Message.{Msg}
use Rattle.strm_msg.specs.declared.kind.MsgKind.{MsgKind}
use Rattle.strm_msg.specs.declared.kind.MsgKind.TheVariants.{MData, MFlush}
use Rattle.strm_msg.specs.declared.words.End.{End}
use Rattle.strm_msg.specs.declared.words.Side.{Side}
use Rattle.strm_msg.specs.declared.words.Side.TheVariants.{Rd, Wr}
use Rattle.strm_queue.specs.Queue.{put_in}
use Rattle.strm_module.specs.declared.turn.Turn.{Turn}
use Rattle.strm_module.specs.declared.turn.Turn.TheVariants.{Serves, Shut, Sends}
use Rattle.strm_module.specs.declared.shape.Shape.{Shape}
use Rattle.strm_module.specs.declared.outs.Put.TheVariants.{Queue as Queued, Sent}
use Rattle.strm_module.specs.Kinds.{OutList, is_up}
use Rattle.strm_module.specs.Shape.{queues_on}
use Rattle.strm_module.specs.Module.{Taken, is_queued}
use Rattle.strm_chain_end.specs.Pair.{QueuePair, PairStep, list_on, served_on, with_list, flushed_pair, after_put, pair_gets, pair_front, pair_turns, pair_serves, service_turn}
use Rattle.strm_chain_end.specs.Offer.{first_offer, offer_by, offer_on}
use Rattle.strm_chain_end.specs.declared.offer.Offer.{Offer}
use Rattle.strm_chain_settling.specs.Orderly.{ups_are_high, IsOrderly}
use Rattle.strm_chain_settling.proofs.ListLemmas.{not_both, flush_short}
use Rattle.strm_chain_settling.proofs.Ranks.{role_at, Ranking, modules_of, Sinks, IsRanked}
use Rattle.strm_chain_settling.proofs.Below.{role, PairBelow, Each}

-- what holds of all that passes a test, and what holds of everything
each_next : (P : Side × Msg → Type 0) (out : Side × Msg) (outs : OutList) (first rest : Bool) → (first ≡ true → P out) → (rest ≡ true → Each P outs) → (first && rest) ≡ true → P out × Each P outs
each_next P out outs true rest f r all = (f refl, r all)
each_next P out outs false rest f r all = cc

pub each_of : (p : Side × Msg → Bool) (P : Side × Msg → Type 0) → ((out : Side × Msg) → p out ≡ true → P out) → (outs : OutList) → list_all p outs ≡ true → Each P outs
each_of p P each [] all = tt
each_of p P each (out ∷ outs) all =
    each_next P out outs (p out) (list_all p outs) (each out) (each_of p P each outs) all

pub each_any : (P : Side × Msg → Type 0) → ((out : Side × Msg) → P out) → (outs : OutList) → Each P outs
each_any P each [] = tt
each_any P each (out ∷ outs) = (each out, each_any P each outs)

-- where an ordinary message may go, if it leaves at all
abbrev pub Fits : (Side → Type 0) → Side × Msg → Type 0
Fits Goes out = is_high out.1.kind ≡ false → Goes out.0

high_fits : (Goes : Side → Type 0) (out : Side × Msg) → is_high out.1.kind ≡ true → Fits Goes out
high_fits Goes out high = λ ordinary. not_both (is_high out.1.kind) high ordinary

-- what goes down fits, and what goes up if it is not high
down_fits : (Goes : Side → Type 0) → Goes Wr → (out : Side × Msg) → (not (is_up out.0) || is_high out.1.kind) ≡ true → Fits Goes out
down_fits Goes down (Wr, m) ups = λ ordinary. down
down_fits Goes down (Rd, m) ups = λ ordinary. not_both (is_high m.kind) ups ordinary

any_fits : (Goes : Side → Type 0) → Goes Rd → Goes Wr → (out : Side × Msg) → Fits Goes out
any_fits Goes up down (Rd, m) = λ ordinary. up
any_fits Goes up down (Wr, m) = λ ordinary. down

pub sinks_more : {K : Type 0} (w : Ranking K) (q r : ℕ) (e : End) (n : ℕ) → q ≤ r → Sinks w q e n → Sinks w r e n
sinks_more w q r e zero more sinks = λ on. let h = sinks on in omega (arith, h)
sinks_more w q r e (suc n) more sinks = omega (arith, sinks)

-- where module i, which stands above n others, sends what came down to it
abbrev pub Goes : {K : Type 0} → Ranking K → ℕ → End → ℕ → ℕ → Side → Type 0
Goes w r e i n Rd = w.waits Rd e (i - 1) < r
Goes w r e i n Wr = Sinks w r e n

-- where module n + 1 sends what came up to it
abbrev pub Rises : {K : Type 0} → Ranking K → ℕ → End → ℕ → Side → Type 0
Rises w r e n side = w.waits Rd e n < r

module _ {K : Type 0} (w : Ranking K) (laws : IsOrderly w.means w.debt) (ranked : IsRanked w) where
  abbrev IsThere : End → ℕ → QueuePair K → Type 0
  IsThere e i s = role_at (w.roles e) i ≡ Some (role w s)

  -- what a message that came up makes the write side owe, and one that came down the read side
  answer_owed : (r : ℕ) (e : End) (i : ℕ) (s : QueuePair K) (m : Msg) (b : Bool) → IsThere e i s → w.means.answers s.shape.kind Rd ≡ b → w.waits Rd e i ≤ r → r ≤ w.owes Wr e i → w.debt (w.means.acts s.shape.kind Rd m).kind Wr ≤ w.debt s.shape.kind Wr
  answer_owed r e i s m true there is high low =
      let h = ranked.answered e i (role w s) there is in absurd (omega (arith, h))
  answer_owed r e i s m false there is high low = laws.unanswered s.shape.kind Rd m is

  turn_owed : (r : ℕ) (e : End) (i : ℕ) (s : QueuePair K) (m : Msg) (b : Bool) → IsThere e i s → w.means.answers s.shape.kind Wr ≡ b → w.waits Wr e i ≤ r → r ≤ w.owes Rd e i → w.debt (w.means.acts s.shape.kind Wr m).kind Rd ≤ w.debt s.shape.kind Rd
  turn_owed r e i s m true there is high low =
      let h = ranked.turned_owed e i (role w s) there is in absurd (omega (arith, h))
  turn_owed r e i s m false there is high low = laws.unanswered s.shape.kind Wr m is

  ordinary_owed : (r : ℕ) (e : End) (i : ℕ) (s : QueuePair K) (side owing : Side) (m : Msg) → IsThere e i s → w.waits side e i ≤ r → r ≤ w.owes owing e i → w.debt (w.means.acts s.shape.kind side m).kind owing ≤ w.debt s.shape.kind owing
  ordinary_owed r e i s Rd Rd m there high low = let h = ranked.owed Rd e i in absurd (omega (arith, h))
  ordinary_owed r e i s Rd Wr m there high low = answer_owed r e i s m (w.means.answers s.shape.kind Rd) there refl high low
  ordinary_owed r e i s Wr Rd m there high low = turn_owed r e i s m (w.means.answers s.shape.kind Wr) there refl high low
  ordinary_owed r e i s Wr Wr m there high low = let h = ranked.owed Wr e i in absurd (omega (arith, h))

  -- a message makes no side owe more at the rank where it stood, or above it; a high one nowhere
  acts_owed : (r : ℕ) (e : End) (i : ℕ) (s : QueuePair K) (side owing : Side) (m : Msg) (b : Bool) → IsThere e i s → is_high m.kind ≡ b → (is_high m.kind ≡ false → w.waits side e i ≤ r) → r ≤ w.owes owing e i → w.debt (w.means.acts s.shape.kind side m).kind owing ≤ w.debt s.shape.kind owing
  acts_owed r e i s side owing m true there is high low = laws.tame_debt s.shape.kind side owing m is
  acts_owed r e i s side owing m false there is high low = ordinary_owed r e i s side owing m there (high is) low

  -- what leaves the write side of a module goes on at lesser ranks than what the side owes
  wr_fits : (r : ℕ) (e : End) (i n : ℕ) (s : QueuePair K) (outs : OutList) (b : Bool) → IsThere e i s → Sinks w r e n → w.owes Wr e i ≤ r → w.means.answers s.shape.kind Wr ≡ b → (w.means.answers s.shape.kind Wr ≡ false → ups_are_high outs ≡ true) → Each (Fits (Goes w r e i n)) outs
  wr_fits r e i n s outs true there down high is ups =
      let h = ranked.turned e i (role w s) there is in
      let up : w.waits Rd e (i - 1) < r = omega (arith, h) in
      each_any (Fits (Goes w r e i n)) (any_fits (Goes w r e i n) up down) outs
  wr_fits r e i n s outs false there down high is ups =
      each_of (λ out. not (is_up out.0) || is_high out.1.kind) (Fits (Goes w r e i n)) (down_fits (Goes w r e i n) down) outs (ups is)

  sinks_there : (r : ℕ) (e : End) (i n : ℕ) → n < modules_of w e → i ≡ modules_of w e - n → w.owes Wr e i ≤ r → Sinks w r e n
  sinks_there r e i n less at high =
      sinks_more w (w.owes Wr e (modules_of w e - n)) r e n (subst (λ k. w.owes Wr e k ≤ r) at high) (ranked.down e n less)

  all_high : (Goes : Side → Type 0) (kind : K) (side : Side) (m : Msg) → is_high m.kind ≡ true → Each (Fits Goes) (w.means.acts kind side m).outs
  all_high Goes kind side m high =
      each_of (λ out. is_high out.1.kind) (Fits Goes) (high_fits Goes) (w.means.acts kind side m).outs (laws.tame kind side m high)

  -- what is made of a message that comes down to a module, or up
  pub acts_down : (r : ℕ) (e : End) (i n : ℕ) (s : QueuePair K) (m : Msg) (b : Bool) → IsThere e i s → n < modules_of w e → i ≡ modules_of w e - n → is_high m.kind ≡ b → (is_high m.kind ≡ false → w.waits Wr e i ≤ r) → Each (Fits (Goes w r e i n)) (w.means.acts s.shape.kind Wr m).outs
  acts_down r e i n s m true there less at is high = all_high (Goes w r e i n) s.shape.kind Wr m is
  acts_down r e i n s m false there less at is high =
      let h = high is in
      let o = ranked.owed Wr e i in
      let low : w.owes Wr e i ≤ r = omega (arith, h, o) in
      wr_fits r e i n s (w.means.acts s.shape.kind Wr m).outs (w.means.answers s.shape.kind Wr) there (sinks_there r e i n less at low) low refl (laws.unanswered_ups s.shape.kind m)

  pub acts_up : (r : ℕ) (e : End) (n : ℕ) (s : QueuePair K) (m : Msg) (b : Bool) → is_high m.kind ≡ b → (is_high m.kind ≡ false → w.waits Rd e (suc n) ≤ r) → Each (Fits (Rises w r e n)) (w.means.acts s.shape.kind Rd m).outs
  acts_up r e n s m true is high = all_high (Rises w r e n) s.shape.kind Rd m is
  acts_up r e n s m false is high =
      let h = high is in
      let o = ranked.owed Rd e (suc n) in
      let u = ranked.up e n in
      let up : w.waits Rd e n < r = omega (arith, h, o, u) in
      each_any (Fits (Rises w r e n)) (any_fits (Rises w r e n) up up) (w.means.acts s.shape.kind Rd m).outs

  -- what a side sends of its own
  pub own_down : (e : End) (i n : ℕ) (s : QueuePair K) (band : Option ℕ) → IsThere e i s → n < modules_of w e → i ≡ modules_of w e - n → w.means.turn s.shape.kind Wr ≡ Sends band → Each (Fits (Goes w (w.owes Wr e i) e i n)) (w.means.own s.shape.kind Wr).outs
  own_down e i n s band there less at own =
      let low = le_same (w.owes Wr e i) in
      wr_fits (w.owes Wr e i) e i n s (w.means.own s.shape.kind Wr).outs (w.means.answers s.shape.kind Wr) there (sinks_there (w.owes Wr e i) e i n less at low) low refl (laws.unanswered_own s.shape.kind band own)

  pub own_up : (e : End) (n : ℕ) (s : QueuePair K) → Each (Fits (Rises w (w.owes Rd e (suc n)) e n)) (w.means.own s.shape.kind Rd).outs
  own_up e n s =
      let up = ranked.up e n in
      each_any (Fits (Rises w (w.owes Rd e (suc n)) e n)) (any_fits (Rises w (w.owes Rd e (suc n)) e n) up up) (w.means.own s.shape.kind Rd).outs

  same_role : (s t : QueuePair K) → ((side : Side) → w.means.answers t.shape.kind side ≡ w.means.answers s.shape.kind side) → role w t ≡ role w s
  same_role s t same = let up = same Rd in let down = same Wr in cc

  -- a flush makes no queue longer
  flushed_lists : (s : QueuePair K) (kind : MsgKind) (shape : Shape K) (side : Side) → length (list_on (record (flushed_pair s kind) { shape = shape }) side) ≤ length (list_on s side)
  flushed_lists s (MFlush r w band) shape Rd = flush_short r band s.rd
  flushed_lists s (MFlush r w band) shape Wr = flush_short w band s.wr
  flushed_lists s kind shape Rd = le_same (length s.rd)
  flushed_lists s kind shape Wr = le_same (length s.wr)

  -- the queue that a message is put into may be longer, and the other is not
  put_lists : (s : QueuePair K) (kind : MsgKind) (shape : Shape K) (side other : Side) (r x : ℕ) (q : List Msg) → (other ≡ side → x < r) → r ≤ x → length (list_on (with_list (record (flushed_pair s kind) { shape = shape }) side q) other) ≤ length (list_on s other)
  put_lists s kind shape Rd Rd r x q low high = let h = low refl in absurd (omega (arith, h))
  put_lists s kind shape Wr Wr r x q low high = let h = low refl in absurd (omega (arith, h))
  put_lists s kind shape Rd Wr r x q low high = flushed_lists s kind shape Wr
  put_lists s kind shape Wr Rd r x q low high = flushed_lists s kind shape Rd

  -- what a stream serves grows no more than the queue, and is nothing for good where the program serves
  served_by : (noenable : Bool) (now before : List Msg) → (noenable ≡ false → length now ≤ length before) → length (cond noenable [] now) ≤ length (cond noenable [] before)
  served_by true now before less = le_same 0
  served_by false now before less = less refl

  served_less : (s t : QueuePair K) (side : Side) → t.shape.noenable ≡ s.shape.noenable → (s.shape.noenable ≡ false → length (list_on t side) ≤ length (list_on s side)) → length (served_on t side) ≤ length (served_on s side)
  served_less s t side same less = rw same (served_by s.shape.noenable (list_on t side) (list_on s side) less)

  -- a message that comes to a module, by whether it is queued
  abbrev put_if : QueuePair K → Side → Msg → Bool → Taken K
  put_if s side m queued =
      cond queued (record { shape = s.shape; answer = Queued m })
      (record { shape = record s.shape { kind = (w.means.acts s.shape.kind side m).kind }; answer = Sent (record { items = (w.means.acts s.shape.kind side m).outs }) })

  abbrev got : QueuePair K → Side → Msg → Bool → PairStep K
  got s side m queued =
      after_put (record (flushed_pair s m.kind) { shape = (put_if s side m queued).shape }) side (put_if s side m queued).answer

  list_shape : (s : QueuePair K) (side : Side) (q : List Msg) → (with_list s side q).shape ≡ s.shape
  list_shape s Rd q = refl
  list_shape s Wr q = refl

  -- only an ordinary message is queued where the stream serves
  ordinary_waits : (noenable high queues : Bool) → ((noenable || not high) && queues) ≡ true → noenable ≡ false → high ≡ false
  ordinary_waits true high queues h served = cc
  ordinary_waits false true queues h served = cc
  ordinary_waits false false queues h served = refl

  got_below : (r : ℕ) (e : End) (i : ℕ) (s : QueuePair K) (side : Side) (m : Msg) (P : Side × Msg → Type 0) (b : Bool) → IsThere e i s → is_queued s.shape side m ≡ b → (is_high m.kind ≡ false → w.waits side e i < r) → Each P (w.means.acts s.shape.kind side m).outs → PairBelow w r e i s (got s side m b).pair × Each P (got s side m b).outs
  got_below r e i s side m P true there is low outs =
      let flushed : QueuePair K = record (flushed_pair s m.kind) { shape = s.shape } in
      let q = put_in (list_on flushed side) m in
      let shape = list_shape flushed side q in (
        record {
          role_same = ap (λ (x : Shape K). record { answers = w.means.answers x.kind Rd; turns = w.means.answers x.kind Wr }) shape;
          lists = λ other high. served_less s (with_list flushed side q) other (ap (λ (x : Shape K). x.noenable) shape) (λ served.
              let h = low (ordinary_waits s.shape.noenable (is_high m.kind) (queues_on s.shape side) is served) in
              put_lists s m.kind s.shape side other r (w.waits other e i) q (λ same. subst (λ x. w.waits x e i < r) (sym same) h) high);
          debts = λ owing high. subst (λ (x : Shape K). w.debt x.kind owing ≤ w.debt s.shape.kind owing) (sym shape) (le_same (w.debt s.shape.kind owing));
        },
        tt,
      )
  got_below r e i s side m P false there is low outs =
      let shape : Shape K = record s.shape { kind = (w.means.acts s.shape.kind side m).kind } in (
        record {
          role_same = same_role s (got s side m false).pair (λ other. laws.stays.acts s.shape.kind side other m);
          lists = λ other high. served_less s (got s side m false).pair other refl (λ served. flushed_lists s m.kind shape other);
          debts = λ owing high. acts_owed r e i s side owing m (is_high m.kind) there refl (λ ordinary. let h = low ordinary in omega (arith, h)) high;
        },
        outs,
      )

  -- a message that comes to a module at a rank below r
  pub gets_below : (r : ℕ) (e : End) (i : ℕ) (s : QueuePair K) (side : Side) (m : Msg) (P : Side × Msg → Type 0) → IsThere e i s → (is_high m.kind ≡ false → w.waits side e i < r) → Each P (w.means.acts s.shape.kind side m).outs → PairBelow w r e i s (pair_gets w.means s side m).pair × Each P (pair_gets w.means s side m).outs
  gets_below r e i s side m P there low outs = got_below r e i s side m P (is_queued s.shape side m) there refl low outs

  -- a module took a message from its queue, or sent something of its own; nothing else of that rank or above
  -- it grew, and what leaves is in P at that rank
  abbrev pub Took : (ℕ → Side × Msg → Type 0) → End → ℕ → Side → QueuePair K → PairStep K → Type 0
  Took P e i side s step =
      (PairBelow w (w.waits side e i) e i s step.pair × (length (served_on step.pair side) < length (served_on s side)) × Each (P (w.waits side e i)) step.outs)
      ⊎ (PairBelow w (w.owes side e i) e i s step.pair × (w.debt step.pair.shape.kind side < w.debt s.shape.kind side) × Each (P (w.owes side e i)) step.outs)

  front_lists : (s : QueuePair K) (side other : Side) (shape : Shape K) (m : Msg) (q : List Msg) → list_on s side ≡ m ∷ q → length (list_on (record (with_list s side q) { shape = shape }) other) ≤ length (list_on s other)
  front_lists s Rd Rd shape m q at = let n = ap length at in omega (arith, n)
  front_lists s Rd Wr shape m q at = le_same (length s.wr)
  front_lists s Wr Rd shape m q at = le_same (length s.rd)
  front_lists s Wr Wr shape m q at = let n = ap length at in omega (arith, n)

  front_less : (s : QueuePair K) (side : Side) (shape : Shape K) (m : Msg) (q : List Msg) → list_on s side ≡ m ∷ q → length (list_on (record (with_list s side q) { shape = shape }) side) < length (list_on s side)
  front_less s Rd shape m q at = let n = ap length at in omega (arith, n)
  front_less s Wr shape m q at = let n = ap length at in omega (arith, n)

  -- and so it is of what the stream serves, where it serves
  served_fewer : (s t : QueuePair K) (side : Side) → t.shape.noenable ≡ false → s.shape.noenable ≡ false → length (list_on t side) < length (list_on s side) → length (served_on t side) < length (served_on s side)
  served_fewer s t side new old less = rw (new, old) less

  front_took : (e : End) (i : ℕ) (s : QueuePair K) (side : Side) (P : ℕ → Side × Msg → Type 0) (q : List Msg) → IsThere e i s → s.shape.noenable ≡ false → list_on s side ≡ q → is_some (first_offer q) ≡ true → ((m : Msg) → Each (P (w.waits side e i)) (w.means.acts s.shape.kind side m).outs) → Took P e i side s (pair_front w.means s side q)
  front_took e i s side P [] there served at some outs = cc
  front_took e i s side P (m ∷ q) there served at some outs =
      let shape : Shape K = record s.shape { kind = (w.means.acts s.shape.kind side m).kind } in
      inl (
        record {
          role_same = same_role s (record (with_list s side q) { shape = shape }) (λ other. laws.stays.acts s.shape.kind side other m);
          lists = λ other high. served_less s (record (with_list s side q) { shape = shape }) other refl (λ none. front_lists s side other shape m q at);
          debts = λ owing high. acts_owed (w.waits side e i) e i s side owing m (is_high m.kind) there refl (λ ordinary. le_same (w.waits side e i)) high;
        },
        served_fewer s (record (with_list s side q) { shape = shape }) side served served (front_less s side shape m q at),
        outs m,
      )

  -- what a side sends of its own makes it owe less, and the other no more
  own_owed : (s : QueuePair K) (side owing : Side) (band : Option ℕ) → w.means.turn s.shape.kind side ≡ Sends band → w.debt (w.means.own s.shape.kind side).kind owing ≤ w.debt s.shape.kind owing
  own_owed s Rd Rd band is = let h = laws.owns s.shape.kind Rd band is in omega (arith, h)
  own_owed s Rd Wr band is = laws.owns_alone s.shape.kind Rd band is
  own_owed s Wr Rd band is = laws.owns_alone s.shape.kind Wr band is
  own_owed s Wr Wr band is = let h = laws.owns s.shape.kind Wr band is in omega (arith, h)

  shape_lists : (s : QueuePair K) (shape : Shape K) (side : Side) → length (list_on (record s { shape = shape }) side) ≤ length (list_on s side)
  shape_lists s shape Rd = le_same (length s.rd)
  shape_lists s shape Wr = le_same (length s.wr)

  turns_took : (e : End) (i : ℕ) (s : QueuePair K) (side : Side) (P : ℕ → Side × Msg → Type 0) (turn : Turn) → IsThere e i s → s.shape.noenable ≡ false → w.means.turn s.shape.kind side ≡ turn → is_some (offer_by turn (list_on s side)) ≡ true → ((m : Msg) → Each (P (w.waits side e i)) (w.means.acts s.shape.kind side m).outs) → ((band : Option ℕ) → w.means.turn s.shape.kind side ≡ Sends band → Each (P (w.owes side e i)) (w.means.own s.shape.kind side).outs) → Took P e i side s (pair_turns w.means s side turn)
  turns_took e i s side P Serves there served is some outs own = front_took e i s side P (list_on s side) there served refl some outs
  turns_took e i s side P Shut there served is some outs own = cc
  turns_took e i s side P (Sends band) there served is some outs own =
      let shape : Shape K = record s.shape { kind = (w.means.own s.shape.kind side).kind } in
      inr (
        record {
          role_same = same_role s (record s { shape = shape }) (λ other. laws.stays.own s.shape.kind side other);
          lists = λ other high. served_less s (record s { shape = shape }) other refl (λ none. shape_lists s shape other);
          debts = λ owing high. own_owed s side owing band is;
        },
        laws.owns s.shape.kind side band is,
        own band is,
      )

  offered : (queues : Bool) (offer : Option Offer) → is_some (cond queues offer None) ≡ true → is_some offer ≡ true
  offered true offer h = h
  offered false offer h = cc

  -- a side that offers something is served by the stream
  turns_by : (e : End) (i : ℕ) (s : QueuePair K) (side : Side) (P : ℕ → Side × Msg → Type 0) (noenable : Bool) → IsThere e i s → s.shape.noenable ≡ noenable → is_some (offer_by (cond noenable Shut (w.means.turn s.shape.kind side)) (list_on s side)) ≡ true → ((m : Msg) → Each (P (w.waits side e i)) (w.means.acts s.shape.kind side m).outs) → ((band : Option ℕ) → w.means.turn s.shape.kind side ≡ Sends band → Each (P (w.owes side e i)) (w.means.own s.shape.kind side).outs) → Took P e i side s (pair_turns w.means s side (cond noenable Shut (w.means.turn s.shape.kind side)))
  turns_by e i s side P true there is some outs own = cc
  turns_by e i s side P false there is some outs own = turns_took e i s side P (w.means.turn s.shape.kind side) there is refl some outs own

  -- the service of a side that offers something
  pub serves_took : (e : End) (i : ℕ) (s : QueuePair K) (side : Side) (P : ℕ → Side × Msg → Type 0) → IsThere e i s → is_some (offer_on w.means s side) ≡ true → ((m : Msg) → Each (P (w.waits side e i)) (w.means.acts s.shape.kind side m).outs) → ((band : Option ℕ) → w.means.turn s.shape.kind side ≡ Sends band → Each (P (w.owes side e i)) (w.means.own s.shape.kind side).outs) → Took P e i side s (pair_serves w.means s side)
  serves_took e i s side P there some outs own =
      turns_by e i s side P s.shape.noenable there refl (offered (queues_on s.shape side) (offer_by (service_turn w.means s.shape side) (list_on s side)) some) outs own

-- no data is high
pub data_low : (m : Msg) → m.kind ≡ MData → is_high m.kind ≡ true → ⊥
data_low m at high = let no : false ≡ true = ap is_high (sym at) ∙ high in cc
