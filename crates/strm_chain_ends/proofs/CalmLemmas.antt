-- What comes of a calm message is calm, flushes no queue, and sets no more options than the message does.
use Rattle.std.proofs.Common.{◌≡◌, ◌==◌, ◌&&◌, ◌+◌, ◌≤◌, ℕ, Bool, true, false, cond, Option, Some, None, List, [], ◌∷◌, length, slice_get, is_some, refl, sym, ◌∙◌, ap, subst, arith}
use Rattle.std.proofs.lemmas.List.Edits.{length-insert}
use Rattle.std.proofs.lemmas.List.Sums.{prefix_len-le-length, sum_by-insert, sum_by-cons}
use Rattle.strm_msg.specs.Message.{Msg, Part, rank_of}
use Rattle.strm_msg.specs.Options.{options_asked}
use Rattle.strm_msg.specs.declared.options.TheConstants.{SETOPTS}
use Rattle.strm_msg.specs.declared.kind.MsgKind.{MsgKind}
use Rattle.strm_msg.specs.declared.kind.MsgKind.TheVariants.{MData, MProto, MPcproto, MIoctl, MSetopts, MFlush, MError}
use Rattle.strm_msg.specs.declared.words.End.{End}
use Rattle.strm_msg.specs.declared.words.Side.{Side}
use Rattle.strm_msg.specs.declared.words.Side.TheVariants.{Rd, Wr}
use Rattle.strm_queue.specs.Queue.{front_len, put_in, has_pcproto}
use Rattle.strm_module.specs.Kinds.{Meaning}
use Rattle.strm_module.specs.Calm.{is_calm, are_calm, puts_calm, options_by, options_of, options_held, options_sent, puts_options, IsCalm}
use Rattle.strm_module.specs.Module.{put_of}
use Rattle.strm_module.specs.declared.shape.Shape.{Shape}
use Rattle.strm_module.specs.declared.turn.Turn.{Turn}
use Rattle.strm_module.specs.declared.turn.Turn.TheVariants.{Serves, Shut, Sends}
use Rattle.strm_module.specs.declared.outs.Put.{Put}
use Rattle.strm_module.specs.declared.outs.Put.TheVariants.{Queue as Queued, Sent}
use Rattle.strm_module.proofs.CalmLemmas.{ordinary_calm, put_calm, put_keeps, serve_calm, serve_keeps}
use Rattle.strm_module.specs.declared.driver.Driver.{Driver}
use Rattle.strm_module.specs.declared.driver.Driver.TheVariants.{Echo, Loop, Line, Wire}
use Rattle.strm_module.specs.Driver.{has_end}
use Rattle.strm_chain_end.specs.Pair.{QueuePair, list_on, after_put, pair_gets, pair_front, pair_turns, pair_serves, service_turn}
use Rattle.strm_chain_end.specs.End.{EndState, in_head, pair_at, list_at, found_gets, end_gets, found_serves, end_serves}
use Rattle.strm_chain_end.specs.Head.{open_head, keeps, put_at_head}
use Rattle.strm_chain_end.specs.Driver.{consumes, refuses, put_at_line, put_at_loop, options_up, put_at_echo, put_at_wire, driver_at}
use Rattle.strm_chain_end.specs.Modules.{HoldsCalm}
use Rattle.strm_chain_end.specs.declared.driver.DriverSends.{DriverSends}
use Rattle.strm_chain_end.specs.declared.driver.DriverSends.TheVariants.{Nothing, Reply, Across, Options}
use Rattle.strm_chain_end.proofs.NextLemmas.{first_ordinary, found-waits}
use Rattle.strm_chain_ends.specs.Count.{answers_options, options_driven}
use Rattle.strm_chain_ends.specs.Held.{is_flush, sets_options}
use Rattle.strm_chain_ends.proofs.FrameLemmas.{unflushed, pair_there}
use Rattle.strm_chain_ends.specs.Image.{put_at_driver}

longer : (q : List Msg) (m : Msg) → length q ≤ length (put_in q m)
longer q m =
    let n = length-insert q (front_len (rank_of m) q) m (prefix_len-le-length _ q) in omega (arith, n)

pub le_same : (n : ℕ) → n ≤ n
le_same n = omega arith

longer_if : {K : Type 0} (b : Bool) (e : EndState K) (m : Msg) → length e.head ≤ length (cond b e (in_head e (put_in e.head m))).head
longer_if true e m = le_same (length e.head)
longer_if false e m = longer e.head m

-- a calm message makes a head send nothing, and flushes no list
open_head_calm : {K : Type 0} (e : EndState K) (kind : MsgKind) (m : Msg) → is_calm kind ≡ true → ((open_head e kind m).sends ≡ None) × (length e.head ≤ length (open_head e kind m).state.head)
open_head_calm e MData m h = (refl, longer e.head m)
open_head_calm e MProto m h = (refl, longer e.head m)
open_head_calm e MPcproto m h = (refl, longer_if (has_pcproto e.head) e m)
open_head_calm e (MFlush r w band) m h = cc
open_head_calm e (MError rd wr) m h = cc
open_head_calm e kind m h = (refl, le_same (length e.head))

pub head_calm : {K : Type 0} (e : EndState K) (m : Msg) → is_calm m.kind ≡ true → ((put_at_head e m).sends ≡ None) × (length e.head ≤ length (put_at_head e m).state.head)
head_calm e m h =
    elim (e.is_open) as (λ b. ((cond b (open_head e m.kind m) (keeps e)).sends ≡ None) × (length e.head ≤ length (cond b (open_head e m.kind m) (keeps e)).state.head)) [
      | true ↦ open_head_calm e m.kind m h
      | false ↦ (refl, le_same (length e.head))
    ]

-- a message that sets options does so once
by_kind_one : (b : Bool) (kind : MsgKind) (dat : Part) → sets_options kind ≡ true → options_by b kind dat ≡ 1
by_kind_one b (MSetopts mode prot marks) dat h = refl
by_kind_one b kind dat h = cc

pub sets_once : (b : Bool) (m : Msg) → sets_options m.kind ≡ true → options_of b m ≡ 1
sets_once b m h = by_kind_one b m.kind m.dat h

-- a list sets what it set before and what is put into it
held_put : (b : Bool) (q : List Msg) (m : Msg) → options_held b (put_in q m) ≡ options_held b q + options_of b m
held_put b q m = sum_by-insert (options_of b) q (front_len (rank_of m) q) m

held_put_le : (b : Bool) (q : List Msg) (m : Msg) → options_held b (put_in q m) ≤ options_held b q + options_of b m
held_put_le b q m = let e = held_put b q m in omega (arith, e)

no_less : (n k : ℕ) → n ≤ n + k
no_less n k = omega arith

put_if_less : {K : Type 0} (b c : Bool) (e : EndState K) (m : Msg) → options_held b (cond c e (in_head e (put_in e.head m))).head ≤ options_held b e.head + options_of b m
put_if_less b true e m = no_less (options_held b e.head) (options_of b m)
put_if_less b false e m = held_put_le b e.head m

open_head_options : {K : Type 0} (b : Bool) (e : EndState K) (kind : MsgKind) (m : Msg) → is_calm kind ≡ true → options_held b (open_head e kind m).state.head ≤ options_held b e.head + options_of b m
open_head_options b e MData m h = held_put_le b e.head m
open_head_options b e MProto m h = held_put_le b e.head m
open_head_options b e MPcproto m h = put_if_less b (has_pcproto e.head) e m
open_head_options b e (MFlush r w band) m h = cc
open_head_options b e (MError rd wr) m h = cc
open_head_options b e kind m h = no_less (options_held b e.head) (options_of b m)

-- what comes to a head sets there or later what it set before
pub head_options : {K : Type 0} (b : Bool) (e : EndState K) (m : Msg) → is_calm m.kind ≡ true → options_held b (put_at_head e m).state.head ≤ options_held b e.head + options_of b m
head_options b e m h =
    elim (e.is_open) as (λ c. options_held b (cond c (open_head e m.kind m) (keeps e)).state.head ≤ options_held b e.head + options_of b m) [
      | true ↦ open_head_options b e m.kind m h
      | false ↦ no_less (options_held b e.head) (options_of b m)
    ]

-- what a driver sends is calm
abbrev pub sends_calm : DriverSends → Bool
sends_calm Nothing = true
sends_calm (Reply m) = is_calm m.kind
sends_calm (Across m) = is_calm m.kind
sends_calm (Options mode prot marks id) = true

line_calm : {K : Type 0} (e : EndState K) (kind : MsgKind) → is_calm kind ≡ true → (sends_calm (put_at_line e kind).sends ≡ true) × (length e.drv ≤ length (put_at_line e kind).state.drv)
line_calm e (MFlush r w band) h = cc
line_calm e (MIoctl id cmd) h = (refl, le_same (length e.drv))
line_calm e kind h = (refl, le_same (length e.drv))

loop_calm : {K : Type 0} (e : EndState K) (kind : MsgKind) (m : Msg) → is_calm kind ≡ true → is_calm m.kind ≡ true → (sends_calm (put_at_loop e kind m).sends ≡ true) × (length e.drv ≤ length (put_at_loop e kind m).state.drv)
loop_calm e (MFlush r w band) m h k = cc
loop_calm e (MIoctl id cmd) m h k = (refl, le_same (length e.drv))
loop_calm e MData m h k = (refl, longer e.drv m)
loop_calm e MProto m h k = (refl, longer e.drv m)
loop_calm e MPcproto m h k = (k, le_same (length e.drv))
loop_calm e kind m h k = (refl, le_same (length e.drv))

-- so is the answer to an ioctl that asks for options
up_calm : (id : ℕ) (asked : Option MsgKind) → sends_calm (options_up id asked) ≡ true
up_calm id (Some (MSetopts mode prot marks)) = refl
up_calm id asked = refl

asked_calm : {K : Type 0} (c : Bool) (e : EndState K) (id : ℕ) (dat : Part) → (sends_calm (cond c (record { state = e; sends = options_up id (options_asked dat) }) (refuses e id)).sends ≡ true) × (length e.drv ≤ length (cond c (record { state = e; sends = options_up id (options_asked dat) }) (refuses e id)).state.drv)
asked_calm true e id dat = (up_calm id (options_asked dat), le_same (length e.drv))
asked_calm false e id dat = (refl, le_same (length e.drv))

echo_calm : {K : Type 0} (e : EndState K) (kind : MsgKind) (m : Msg) → is_calm kind ≡ true → is_calm m.kind ≡ true → (sends_calm (put_at_echo e kind m).sends ≡ true) × (length e.drv ≤ length (put_at_echo e kind m).state.drv)
echo_calm e (MIoctl id cmd) m h k = asked_calm (cmd == SETOPTS) e id m.dat
echo_calm e kind m h k = loop_calm e kind m h k

wire_calm : {K : Type 0} (e : EndState K) (kind : MsgKind) (m : Msg) → is_calm kind ≡ true → is_calm m.kind ≡ true → (sends_calm (put_at_wire e kind m).sends ≡ true) × (length e.drv ≤ length (put_at_wire e kind m).state.drv)
wire_calm e MPcproto m h k = (refl, longer e.drv m)
wire_calm e kind m h k = loop_calm e kind m h k

at_calm : {K : Type 0} (d : Driver) (e : EndState K) (m : Msg) → is_calm m.kind ≡ true → (sends_calm (driver_at d e m).sends ≡ true) × (length e.drv ≤ length (driver_at d e m).state.drv)
at_calm Line e m h = line_calm e m.kind h
at_calm Echo e m h = echo_calm e m.kind m h h
at_calm Loop e m h = loop_calm e m.kind m h h
at_calm Wire e m h = wire_calm e m.kind m h h

-- a calm message makes a driver send a calm one, if any, and flushes no list
pub driver_calm : {K : Type 0} (d : Driver) (end : End) (e : EndState K) (m : Msg) → is_calm m.kind ≡ true → (sends_calm (put_at_driver d end e m).sends ≡ true) × (length e.drv ≤ length (put_at_driver d end e m).state.drv)
driver_calm d end e m h =
    elim (has_end d end) as (λ b. (sends_calm (cond b (driver_at d e m) (consumes e)).sends ≡ true) × (length e.drv ≤ length (cond b (driver_at d e m) (consumes e)).state.drv)) [
      | true ↦ at_calm d e m h
      | false ↦ (refl, le_same (length e.drv))
    ]

line_options : {K : Type 0} (e : EndState K) (kind : MsgKind) (n : ℕ) → is_calm kind ≡ true → options_held false (put_at_line e kind).state.drv + options_driven false (put_at_line e kind).sends ≤ options_held false e.drv + n
line_options e (MFlush r w band) n h = cc
line_options e (MIoctl id cmd) n h = omega arith
line_options e kind n h = omega arith

put_less : (b : Bool) (q : List Msg) (m : Msg) → options_held b (put_in q m) + 0 ≤ options_held b q + options_of b m
put_less b q m = let e = held_put b q m in omega (arith, e)

loop_options : {K : Type 0} (b : Bool) (e : EndState K) (kind : MsgKind) (m : Msg) → is_calm kind ≡ true → options_held b (put_at_loop e kind m).state.drv + options_driven b (put_at_loop e kind m).sends ≤ options_held b e.drv + options_of b m
loop_options b e (MFlush r w band) m h = cc
loop_options b e (MIoctl id cmd) m h = omega arith
loop_options b e MData m h = put_less b e.drv m
loop_options b e MProto m h = put_less b e.drv m
loop_options b e MPcproto m h = le_same (options_held b e.drv + options_of b m)
loop_options b e kind m h = omega arith

wire_options : {K : Type 0} (b : Bool) (e : EndState K) (kind : MsgKind) (m : Msg) → is_calm kind ≡ true → options_held b (put_at_wire e kind m).state.drv + options_driven b (put_at_wire e kind m).sends ≤ options_held b e.drv + options_of b m
wire_options b e MPcproto m h = put_less b e.drv m
wire_options b e kind m h = loop_options b e kind m h

up_options : (id : ℕ) (o : Option MsgKind) → options_driven true (options_up id o) ≤ cond (is_some o) 1 0
up_options id (Some (MSetopts mode prot marks)) = le_same 1
up_options id (Some kind) = omega arith
up_options id None = le_same 0

asked_options : {K : Type 0} (c : Bool) (e : EndState K) (id n : ℕ) (o : Option MsgKind) → n ≡ cond (true && c && is_some o) 1 0 → options_held true (cond c (record { state = e; sends = options_up id o }) (refuses e id)).state.drv + options_driven true (cond c (record { state = e; sends = options_up id o }) (refuses e id)).sends ≤ options_held true e.drv + n
asked_options true e id n o h = let less = up_options id o in omega (arith, h, less)
asked_options false e id n o h = omega arith

echo_options : {K : Type 0} (e : EndState K) (kind : MsgKind) (m : Msg) → m.kind ≡ kind → is_calm kind ≡ true → options_held true (put_at_echo e kind m).state.drv + options_driven true (put_at_echo e kind m).sends ≤ options_held true e.drv + options_of true m
echo_options e (MIoctl id cmd) m at h =
    asked_options (cmd == SETOPTS) e id (options_of true m) (options_asked m.dat) (ap (λ kind. options_by true kind m.dat) at)
echo_options e kind m at h = loop_options true e kind m h

at_options : {K : Type 0} (d : Driver) (e : EndState K) (m : Msg) → is_calm m.kind ≡ true → options_held (answers_options d) (driver_at d e m).state.drv + options_driven (answers_options d) (driver_at d e m).sends ≤ options_held (answers_options d) e.drv + options_of (answers_options d) m
at_options Line e m h = line_options e m.kind (options_of false m) h
at_options Echo e m h = echo_options e m.kind m refl h
at_options Loop e m h = loop_options false e m.kind m h
at_options Wire e m h = wire_options false e m.kind m h

-- what comes to a driver waits there, or is answered with what sets no more
pub driver_options : {K : Type 0} (d : Driver) (end : End) (e : EndState K) (m : Msg) → is_calm m.kind ≡ true → options_held (answers_options d) (put_at_driver d end e m).state.drv + options_driven (answers_options d) (put_at_driver d end e m).sends ≤ options_held (answers_options d) e.drv + options_of (answers_options d) m
driver_options d end e m h =
    elim (has_end d end) as (λ c. options_held (answers_options d) (cond c (driver_at d e m) (consumes e)).state.drv + options_driven (answers_options d) (cond c (driver_at d e m) (consumes e)).sends ≤ options_held (answers_options d) e.drv + options_of (answers_options d) m) [
      | true ↦ at_options d e m h
      | false ↦ omega arith
    ]

pub no_flush : (kind : MsgKind) → is_calm kind ≡ true → is_flush kind ≡ false
no_flush (MFlush r w band) h = cc
no_flush kind h = refl

list_same : {K : Type 0} (s : QueuePair K) (shape : Shape K) (side : Side) → list_on (record s { shape = shape }) side ≡ list_on s side
list_same s shape Rd = refl
list_same s shape Wr = refl

put_pair : {K : Type 0} (s : QueuePair K) (shape : Shape K) (side : Side) (put : Put) → puts_calm put ≡ true → (are_calm (after_put (record s { shape = shape }) side put).outs ≡ true) × (length (list_on s side) ≤ length (list_on (after_put (record s { shape = shape }) side put).pair side))
put_pair s shape Rd (Queued m) h = (refl, longer s.rd m)
put_pair s shape Wr (Queued m) h = (refl, longer s.wr m)
put_pair s shape Rd (Sent outs) h = (h, le_same (length s.rd))
put_pair s shape Wr (Sent outs) h = (h, le_same (length s.wr))

-- what a put queues or sends sets what it set
put_pair_options : {K : Type 0} (b : Bool) (s : QueuePair K) (shape : Shape K) (side : Side) (put : Put) → options_held b (list_on (after_put (record s { shape = shape }) side put).pair side) + options_sent b (after_put (record s { shape = shape }) side put).outs ≤ options_held b (list_on s side) + puts_options b put
put_pair_options b s shape Rd (Queued m) = put_less b s.rd m
put_pair_options b s shape Wr (Queued m) = put_less b s.wr m
put_pair_options b s shape Rd (Sent outs) = le_same (options_held b s.rd + options_sent b outs.items)
put_pair_options b s shape Wr (Sent outs) = le_same (options_held b s.wr + options_sent b outs.items)

-- a list that a module serves is shorter by one message at most
pub record IsServed (old new : List Msg) : Type 0 where
  pub fewer : length new ≤ length old
  pub one : length old ≤ length new + 1

-- a service that serves is the stream's
serves_itself : (noenable : Bool) (turn : Turn) → cond noenable Shut turn ≡ Serves → noenable ≡ false
serves_itself true turn h = cc
serves_itself false turn h = refl

-- for kinds of any meaning
module _ {K : Type 0} (means : Meaning K) where
  pair_calm : (s : QueuePair K) (side : Side) (m : Msg) → IsCalm means → is_calm m.kind ≡ true → (are_calm (pair_gets means s side m).outs ≡ true) × (length (list_on s side) ≤ length (list_on (pair_gets means s side m).pair side))
  pair_calm s side m calm h =
      let put = put_of means s.shape side m in
      subst (λ (p : QueuePair K). (are_calm (after_put (record p { shape = put.shape }) side put.answer).outs ≡ true) × (length (list_on s side) ≤ length (list_on (after_put (record p { shape = put.shape }) side put.answer).pair side)))
      (sym (unflushed s m.kind (no_flush m.kind h)))
      (put_pair s put.shape side put.answer (put_calm means s.shape side m calm h))

  found_calm : (e : EndState K) (i : ℕ) (o : Option (QueuePair K)) (side : Side) (m : Msg) → IsCalm means → is_calm m.kind ≡ true → pair_at e.modules i ≡ o → (are_calm (found_gets means e i o side m).outs ≡ true) × (length (list_at e i side) ≤ length (list_at (found_gets means e i o side m).state i side))
  found_calm e i None side m calm h at = (refl, le_same (length (list_at e i side)))
  found_calm e i (Some s) side m calm h at =
      let both = pair_calm s side m calm h in
      let new = (pair_gets means s side m).pair in
      (both.0, rw (at, pair_there e.modules i s new at) both.1)

  -- a calm message makes a module send calm ones, and flushes no queue
  pub gets_calm : (e : EndState K) (i : ℕ) (side : Side) (m : Msg) → IsCalm means → is_calm m.kind ≡ true → (are_calm (end_gets means e i side m).outs ≡ true) × (length (list_at e i side) ≤ length (list_at (end_gets means e i side m).state i side))
  gets_calm e i side m calm h = found_calm e i (pair_at e.modules i) side m calm h refl

  front_calm : (s : QueuePair K) (side : Side) (q : List Msg) → IsCalm means → list_on s side ≡ q → ((m : Msg) → slice_get q 0 ≡ Some m → is_calm m.kind ≡ true) → (are_calm (pair_front means s side q).outs ≡ true) × IsServed (list_on s side) (list_on (pair_front means s side q).pair side)
  front_calm s side [] calm at all = (refl, record { fewer = le_same (length (list_on s side)); one = omega arith })
  front_calm s Rd (m ∷ q) calm at all =
      (serve_calm means s.shape Rd m calm (all m refl), let n = ap length at in record { fewer = omega (arith, n); one = omega (arith, n) })
  front_calm s Wr (m ∷ q) calm at all =
      (serve_calm means s.shape Wr m calm (all m refl), let n = ap length at in record { fewer = omega (arith, n); one = omega (arith, n) })

  turns_calm : (s : QueuePair K) (side : Side) (turn : Turn) → IsCalm means → (turn ≡ Serves → (m : Msg) → slice_get (list_on s side) 0 ≡ Some m → is_calm m.kind ≡ true) → (are_calm (pair_turns means s side turn).outs ≡ true) × IsServed (list_on s side) (list_on (pair_turns means s side turn).pair side)
  turns_calm s side Serves calm all = front_calm s side (list_on s side) calm refl (all refl)
  turns_calm s side Shut calm all = (refl, record { fewer = le_same (length (list_on s side)); one = omega arith })
  turns_calm s Rd (Sends band) calm all = (calm.makes.own s.shape.kind Rd, record { fewer = le_same (length s.rd); one = omega arith })
  turns_calm s Wr (Sends band) calm all = (calm.makes.own s.shape.kind Wr, record { fewer = le_same (length s.wr); one = omega arith })

  found_served : (e : EndState K) (i : ℕ) (o : Option (QueuePair K)) (side : Side) → IsCalm means → HoldsCalm e → pair_at e.modules i ≡ o → (are_calm (found_serves means e i o side).outs ≡ true) × IsServed (list_at e i side) (list_at (found_serves means e i o side).state i side)
  found_served e i None side calm ordinary at = (refl, record { fewer = le_same (length (list_at e i side)); one = omega arith })
  found_served e i (Some s) side calm ordinary at =
      let new = (pair_serves means s side).pair in
      let is : list_at e i side ≡ list_on s side = rw at refl in
      let waits = found-waits e.modules i s at ordinary.modules in
      let both = turns_calm s side (service_turn means s.shape side) calm
      (λ turn m first. ordinary_calm m.kind (first_ordinary s side m waits (serves_itself s.shape.noenable (means.turn s.shape.kind side) turn) first)) in
      (both.0, rw (at, pair_there e.modules i s new at) both.1)

  -- a module that serves an ordinary message sends calm ones
  pub serves_calm : (e : EndState K) (i : ℕ) (side : Side) → IsCalm means → HoldsCalm e → (are_calm (end_serves means e i side).outs ≡ true) × IsServed (list_at e i side) (list_at (end_serves means e i side).state i side)
  serves_calm e i side calm ordinary = found_served e i (pair_at e.modules i) side calm ordinary refl

  pair_options : (b : Bool) (s : QueuePair K) (side : Side) (m : Msg) → IsCalm means → is_calm m.kind ≡ true → options_held b (list_on (pair_gets means s side m).pair side) + options_sent b (pair_gets means s side m).outs ≤ options_held b (list_on s side) + options_of b m
  pair_options b s side m calm h =
      let put = put_of means s.shape side m in
      subst (λ (p : QueuePair K). options_held b (list_on (after_put (record p { shape = put.shape }) side put.answer).pair side) + options_sent b (after_put (record p { shape = put.shape }) side put.answer).outs ≤ options_held b (list_on s side) + options_of b m)
      (sym (unflushed s m.kind (no_flush m.kind h)))
      (let less = put_pair_options b s put.shape side put.answer in let own = put_keeps means s.shape side m b calm in omega (arith, less, own))

  found_options : (b : Bool) (e : EndState K) (i : ℕ) (o : Option (QueuePair K)) (side : Side) (m : Msg) → IsCalm means → is_calm m.kind ≡ true → pair_at e.modules i ≡ o → options_held b (list_at (found_gets means e i o side m).state i side) + options_sent b (found_gets means e i o side m).outs ≤ options_held b (list_at e i side) + options_of b m
  found_options b e i None side m calm h at = omega arith
  found_options b e i (Some s) side m calm h at =
      let less = pair_options b s side m calm h in
      let new = (pair_gets means s side m).pair in
      rw (at, pair_there e.modules i s new at) less

  -- a calm message waits at a module, or makes it send what sets no more options
  pub gets_options : (b : Bool) (e : EndState K) (i : ℕ) (side : Side) (m : Msg) → IsCalm means → is_calm m.kind ≡ true → options_held b (list_at (end_gets means e i side m).state i side) + options_sent b (end_gets means e i side m).outs ≤ options_held b (list_at e i side) + options_of b m
  gets_options b e i side m calm h = found_options b e i (pair_at e.modules i) side m calm h refl

  front_options : (b : Bool) (s : QueuePair K) (side : Side) (q : List Msg) → IsCalm means → list_on s side ≡ q → options_held b (list_on (pair_front means s side q).pair side) + options_sent b (pair_front means s side q).outs ≤ options_held b (list_on s side)
  front_options b s side [] calm at = omega arith
  front_options b s Rd (m ∷ q) calm at =
      let n = ap (options_held b) at in
      let e = sum_by-cons (options_of b) m q in
      let own = serve_keeps means s.shape Rd m b calm in
      omega (arith, n, e, own)
  front_options b s Wr (m ∷ q) calm at =
      let n = ap (options_held b) at in
      let e = sum_by-cons (options_of b) m q in
      let own = serve_keeps means s.shape Wr m b calm in
      omega (arith, n, e, own)

  turns_options : (b : Bool) (s : QueuePair K) (side : Side) (turn : Turn) → IsCalm means → options_held b (list_on (pair_turns means s side turn).pair side) + options_sent b (pair_turns means s side turn).outs ≤ options_held b (list_on s side)
  turns_options b s side Serves calm = front_options b s side (list_on s side) calm refl
  turns_options b s side Shut calm = omega arith
  turns_options b s Rd (Sends band) calm = let own = calm.makes.own_options b s.shape.kind Rd in omega (arith, own)
  turns_options b s Wr (Sends band) calm = let own = calm.makes.own_options b s.shape.kind Wr in omega (arith, own)

  found_serves_options : (b : Bool) (e : EndState K) (i : ℕ) (o : Option (QueuePair K)) (side : Side) → IsCalm means → pair_at e.modules i ≡ o → options_held b (list_at (found_serves means e i o side).state i side) + options_sent b (found_serves means e i o side).outs ≤ options_held b (list_at e i side)
  found_serves_options b e i None side calm at = omega arith
  found_serves_options b e i (Some s) side calm at =
      let less = turns_options b s side (service_turn means s.shape side) calm in
      let new = (pair_serves means s side).pair in
      rw (at, pair_there e.modules i s new at) less

  -- what a module sends when it serves a message sets no more options than what waited
  pub serves_options : (b : Bool) (e : EndState K) (i : ℕ) (side : Side) → IsCalm means → options_held b (list_at (end_serves means e i side).state i side) + options_sent b (end_serves means e i side).outs ≤ options_held b (list_at e i side)
  serves_options b e i side calm = found_serves_options b e i (pair_at e.modules i) side calm refl
