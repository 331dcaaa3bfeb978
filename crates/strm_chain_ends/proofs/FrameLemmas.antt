-- What each change of one queue leaves of the others.
use Rattle.std.proofs.Common.{◌⊎◌, inl, inr, ◌≡◌, ◌≢◌, ◌∙◌, ◌==◌, ◌+◌, ◌≤◌, ◌&&◌, not, ℕ, Bool, true, false, cond, Option, Some, None, List, [], ◌∷◌, length, drop, filter, insert, slice_get, slice_set, refl, sym, ap, subst, arith, suc, zero}
use Rattle.std.proofs.lemmas.List.Edits.{length-insert}
use Rattle.std.proofs.lemmas.List.Sums.{sum_by-insert, prefix_len-le-length, length-filter, count_by-le-length}
use Rattle.strm_msg.specs.Message.{Msg, rank_of}
use Rattle.strm_msg.specs.Options.{options_asked}
use Rattle.strm_msg.specs.declared.options.TheConstants.{SETOPTS}
use Rattle.strm_msg.specs.declared.kind.MsgKind.{MsgKind}
use Rattle.strm_msg.specs.declared.kind.MsgKind.TheVariants.{MData, MProto, MPcproto, MIoctl, MSetopts, MIocack, MIocnak, MFlush, MHangup, MError}
use Rattle.strm_msg.specs.declared.words.End.{End}
use Rattle.strm_msg.specs.declared.words.End.TheVariants.{A, B}
use Rattle.strm_msg.specs.declared.words.Side.{Side}
use Rattle.strm_msg.specs.declared.words.Side.TheVariants.{Rd, Wr}
use Rattle.strm_queue.specs.Queue.{front_len, put_in, put_back_in, held_of, weight_in, has_pcproto, is_flushed, is_of_band}
use Rattle.strm_module.specs.Kinds.{Meaning}
use Rattle.strm_module.specs.Module.{put_of, serve_of, own_of}
use Rattle.strm_module.specs.declared.turn.Turn.{Turn}
use Rattle.strm_module.specs.declared.turn.Turn.TheVariants.{Serves, Shut, Sends}
use Rattle.strm_module.specs.declared.shape.Shape.{Shape}
use Rattle.strm_module.specs.declared.outs.Put.{Put}
use Rattle.strm_module.specs.declared.outs.Put.TheVariants.{Queue as Queued, Sent}
use Rattle.strm_module.specs.declared.driver.Driver.{Driver}
use Rattle.strm_module.specs.declared.driver.Driver.TheVariants.{Echo, Loop, Line, Wire}
use Rattle.strm_module.specs.Driver.{has_end, is_wire}
use Rattle.strm_chain_end.specs.Pair.{QueuePair, list_on, with_list, flushed_if, flushed_pair, after_put, pair_gets, pair_front, pair_turns, pair_serves, service_turn}
use Rattle.strm_chain_end.specs.End.{EndState, in_head, in_state, in_drv, pair_at, set_pair, list_found, list_at, found_gets, end_gets, found_serves, end_serves}
use Rattle.strm_chain_end.specs.Head.{kept_answer, with_errors, open_head, keeps, put_at_head}
use Rattle.strm_chain_end.specs.Driver.{DriverStep, consumes, put_at_line, put_at_loop, options_up, refuses, put_at_echo, put_at_wire, driver_at}
use Rattle.strm_chain_end.specs.Modules.{SameIds, SameEnd}
use Rattle.strm_chain_end.specs.declared.record.Record.{Record}
use Rattle.strm_chain_ends.specs.declared.place.Place.{Place}
use Rattle.strm_chain_ends.specs.declared.place.Place.TheVariants as Places
use Rattle.strm_chain_ends.specs.declared.place.NextQueue.{NextQueue}
use Rattle.strm_chain_ends.specs.declared.place.NextQueue.TheVariants.{Of, Head}
use Rattle.strm_chain_ends.specs.Same.{SameModules}
use Rattle.strm_chain_ends.specs.Held.{module_place, held_by, IsShift, SameHeadMarks, DiffersIn, is_flush, sets_options, SetsMarks}
use Rattle.strm_chain_ends.specs.Image.{Image, end_of, with_end, put_at_driver, input_flushed, driven, with_head, with_drv}

-- a list that stays as it is
pub shift_same : (q : List Msg) → IsShift q q
shift_same q = record { still = λ same. refl; fuller = λ more b. absurd (omega arith) }

-- a put takes nothing from a band
pub held_more : (q : List Msg) (m : Msg) (b : ℕ) → held_of q b ≤ held_of (put_in q m) b
held_more q m b = let e = sum_by-insert (weight_in b) q (front_len (rank_of m) q) m in omega arith

shift_insert : (q : List Msg) (i : ℕ) (m : Msg) → i ≤ length q → IsShift q (insert q i m)
shift_insert q i m within =
    let n = length-insert q i m within in
    record {
      still = λ same. absurd (omega arith);
      fuller = λ more b. let e = sum_by-insert (weight_in b) q i m in omega arith;
    }

front_within : (least : ℕ) (q : List Msg) → front_len least q ≤ length q
front_within least q = prefix_len-le-length _ q

-- a list that a message is put into is longer, and holds no less
pub shift_put : (q : List Msg) (m : Msg) → IsShift q (put_in q m)
shift_put q m = shift_insert q (front_len (rank_of m) q) m (front_within (rank_of m) q)

-- a list that a message is put back into is longer, and holds no less
pub shift_put_back : (q : List Msg) (m : Msg) → IsShift q (put_back_in q m)
shift_put_back q m = shift_insert q (front_len (rank_of m + 1) q) m (front_within (rank_of m + 1) q)

-- a list without its first message is shorter
pub shift_tail : (m : Msg) (q : List Msg) → IsShift (m ∷ q) q
shift_tail m q = record { still = λ same. absurd (omega arith); fuller = λ more b. absurd (omega arith) }

-- a list is shorter without its first message, or empty before and after
pub shift_drop : (q : List Msg) → IsShift q (drop 1 q)
shift_drop [] = shift_same []
shift_drop (m ∷ q) = shift_tail m q

pub filter-short : (p : Msg → Bool) (q : List Msg) → length (filter p q) ≤ length q
filter-short p q = let e = length-filter p q in let n = count_by-le-length p q in omega arith

filter-step : (p : Msg → Bool) (m : Msg) (q : List Msg) (b : Bool) → (length (filter p q) ≡ length q → filter p q ≡ q) → length (cond b (m ∷ filter p q) (filter p q)) ≡ length (m ∷ q) → cond b (m ∷ filter p q) (filter p q) ≡ m ∷ q
filter-step p m q true rest long = ap (λ (l : List Msg). m ∷ l) (rest (omega arith))
filter-step p m q false rest long = let n = filter-short p q in absurd (omega arith)

-- a filter that keeps the length keeps the list
filter-same : (p : Msg → Bool) (q : List Msg) → length (filter p q) ≡ length q → filter p q ≡ q
filter-same p [] same = refl
filter-same p (m ∷ q) same = filter-step p m q (p m) (λ h. filter-same p q h) same

shift_filter : (p : Msg → Bool) (q : List Msg) → IsShift q (filter p q)
shift_filter p q =
    let n = filter-short p q in
    record { still = λ same. filter-same p q same; fuller = λ more b. absurd (omega arith) }

-- a flush takes messages out, or leaves the list
pub shift_flush : (wanted : Bool) (band : Option ℕ) (q : List Msg) → IsShift q (flushed_if wanted band q)
shift_flush false band q = shift_same q
shift_flush true None q = shift_filter (λ m. not (is_flushed m.kind)) q
shift_flush true (Some b) q = shift_filter (λ m. not (is_flushed m.kind && is_of_band b m)) q

-- a list that loses everything
pub shift_none : (q : List Msg) → IsShift q []
shift_none [] = shift_same []
shift_none (m ∷ q) = record { still = λ same. absurd (omega arith); fuller = λ more b. absurd (omega arith) }

-- what is read of each end, where an end is replaced by one of which the same is read
kept_at : {K X : Type 0} (f : EndState K → X) (image : Image K) (e : End) (s : EndState K) (x : End) → (x ≡ e → f s ≡ f (end_of image e)) → f (end_of (with_end image e s) x) ≡ f (end_of image x)
kept_at f image A s A h = h refl
kept_at f image A s B h = refl
kept_at f image B s A h = refl
kept_at f image B s B h = h refl

pub there : {K : Type 0} (image : Image K) (e : End) (s : EndState K) → end_of (with_end image e s) e ≡ s
there image A s = refl
there image B s = refl

shift_there : {K : Type 0} (f : EndState K → List Msg) (image : Image K) (e : End) (s : EndState K) → IsShift (f (end_of image e)) (f s) → IsShift (f (end_of image e)) (f (end_of (with_end image e s) e))
shift_there {K = K} f image e s h = subst (λ (t : EndState K). IsShift (f (end_of image e)) (f t)) (sym (there image e s)) h

list_kept : {K : Type 0} (old new : EndState K) (i : ℕ) (side : Side) → new.modules ≡ old.modules → list_at new i side ≡ list_at old i side
list_kept {K = K} old new i side same = ap (λ (l : List (QueuePair K)). list_found (pair_at l i) side) same

beside_head : {K : Type 0} (image : Image K) (e : End) (s : EndState K) → s.modules ≡ (end_of image e).modules → s.drv ≡ (end_of image e).drv → (other : NextQueue) → other ≢ Head e → held_by (with_end image e s) other ≡ held_by image other
beside_head image e s modules drv (Of (Place.Wr x i)) apart =
    kept_at (λ t. list_at t i Wr) image e s x (λ at. list_kept (end_of image e) s i Wr modules)
beside_head image e s modules drv (Of (Place.Drv x)) apart = kept_at (λ t. t.drv) image e s x (λ at. drv)
beside_head image e s modules drv (Of (Place.Rd x i)) apart =
    kept_at (λ t. list_at t i Rd) image e s x (λ at. list_kept (end_of image e) s i Rd modules)
beside_head image e s modules drv (Head x) apart =
    kept_at (λ t. t.head) image e s x (λ at. absurd (apart (ap (λ y. Head y) at)))

-- the heads keep their marks where the one of an end does
marks_kept : {K : Type 0} (image : Image K) (e : End) (s : EndState K) → s.head_marks ≡ (end_of image e).head_marks → SameHeadMarks image (with_end image e s)
marks_kept image e s marks = λ x. kept_at (λ t. t.head_marks) image e s x (λ at. marks)

-- only the list of a head differs
pub differs_in_head : {K : Type 0} (image : Image K) (e : End) (s : EndState K) → SameModules image (with_end image e s) → s.head_marks ≡ (end_of image e).head_marks → s.modules ≡ (end_of image e).modules → s.drv ≡ (end_of image e).drv → IsShift (end_of image e).head s.head → DiffersIn image (with_end image e s) (Head e)
differs_in_head image e s same marks modules drv shift =
    record {
      same = same;
      head_marks = marks_kept image e s marks;
      others = λ other apart. beside_head image e s modules drv other apart;
      shift = shift_there (λ t. t.head) image e s shift;
    }

beside_drv : {K : Type 0} (image : Image K) (e : End) (s : EndState K) → s.modules ≡ (end_of image e).modules → s.head ≡ (end_of image e).head → (other : NextQueue) → other ≢ Of (Places.Drv e) → held_by (with_end image e s) other ≡ held_by image other
beside_drv image e s modules head (Of (Place.Wr x i)) apart =
    kept_at (λ t. list_at t i Wr) image e s x (λ at. list_kept (end_of image e) s i Wr modules)
beside_drv image e s modules head (Of (Place.Drv x)) apart =
    kept_at (λ t. t.drv) image e s x (λ at. absurd (apart (ap (λ y. Of (Places.Drv y)) at)))
beside_drv image e s modules head (Of (Place.Rd x i)) apart =
    kept_at (λ t. list_at t i Rd) image e s x (λ at. list_kept (end_of image e) s i Rd modules)
beside_drv image e s modules head (Head x) apart = kept_at (λ t. t.head) image e s x (λ at. head)

-- only the list of a driver differs
pub differs_in_drv : {K : Type 0} (image : Image K) (e : End) (s : EndState K) → SameModules image (with_end image e s) → s.head_marks ≡ (end_of image e).head_marks → s.modules ≡ (end_of image e).modules → s.head ≡ (end_of image e).head → IsShift (end_of image e).drv s.drv → DiffersIn image (with_end image e s) (Of (Places.Drv e))
differs_in_drv image e s same marks modules head shift =
    record {
      same = same;
      head_marks = marks_kept image e s marks;
      others = λ other apart. beside_drv image e s modules head other apart;
      shift = shift_there (λ t. t.drv) image e s shift;
    }

one_place : (x e : End) (k i : ℕ) (t side : Side) → x ≡ e → k ≡ i → t ≡ side → Of (module_place t x k) ≡ Of (module_place side e i)
one_place x e k i t side on at by =
    ap (λ y. Of (module_place t y k)) on ∙ (ap (λ j. Of (module_place t e j)) at ∙ ap (λ u. Of (module_place u e i)) by)

beside_module : {K : Type 0} (image : Image K) (e : End) (s : EndState K) (i : ℕ) (side : Side) → s.head ≡ (end_of image e).head → s.drv ≡ (end_of image e).drv → ((k : ℕ) (t : Side) → (k ≡ i → t ≡ side → ⊥) → list_at s k t ≡ list_at (end_of image e) k t) → (other : NextQueue) → other ≢ Of (module_place side e i) → held_by (with_end image e s) other ≡ held_by image other
beside_module image e s i side head drv lists (Of (Place.Wr x k)) apart =
    kept_at (λ t. list_at t k Wr) image e s x (λ on. lists k Wr (λ at by. apart (one_place x e k i Wr side on at by)))
beside_module image e s i side head drv lists (Of (Place.Drv x)) apart = kept_at (λ t. t.drv) image e s x (λ at. drv)
beside_module image e s i side head drv lists (Of (Place.Rd x k)) apart =
    kept_at (λ t. list_at t k Rd) image e s x (λ on. lists k Rd (λ at by. apart (one_place x e k i Rd side on at by)))
beside_module image e s i side head drv lists (Head x) apart = kept_at (λ t. t.head) image e s x (λ at. head)

shift_on : {K : Type 0} (image : Image K) (e : End) (s : EndState K) (i : ℕ) (side : Side) → IsShift (list_at (end_of image e) i side) (list_at s i side) → IsShift (held_by image (Of (module_place side e i))) (held_by (with_end image e s) (Of (module_place side e i)))
shift_on image e s i Rd h = shift_there (λ t. list_at t i Rd) image e s h
shift_on image e s i Wr h = shift_there (λ t. list_at t i Wr) image e s h

-- only one queue of a module differs
pub differs_in_module : {K : Type 0} (image : Image K) (e : End) (s : EndState K) (i : ℕ) (side : Side) → SameModules image (with_end image e s) → s.head_marks ≡ (end_of image e).head_marks → s.head ≡ (end_of image e).head → s.drv ≡ (end_of image e).drv → ((k : ℕ) (t : Side) → (k ≡ i → t ≡ side → ⊥) → list_at s k t ≡ list_at (end_of image e) k t) → IsShift (list_at (end_of image e) i side) (list_at s i side) → DiffersIn image (with_end image e s) (Of (module_place side e i))
differs_in_module image e s i side same marks head drv lists shift =
    record {
      same = same;
      head_marks = marks_kept image e s marks;
      others = λ other apart. beside_module image e s i side head drv lists other apart;
      shift = shift_on image e s i side shift;
    }

-- of an end only the list of its head differs
record HeadAlone {K : Type 0} (old new : EndState K) : Type 0 where
  marks : new.head_marks ≡ old.head_marks
  modules : new.modules ≡ old.modules
  drv : new.drv ≡ old.drv
  shift : IsShift old.head new.head

head_alone : {K : Type 0} (e : EndState K) (q : List Msg) → IsShift e.head q → HeadAlone e (in_head e q)
head_alone e q h = record { marks = refl; modules = refl; drv = refl; shift = h }

head_stays : {K : Type 0} (e : EndState K) → HeadAlone e e
head_stays e = record { marks = refl; modules = refl; drv = refl; shift = shift_same e.head }

either_alone : {K : Type 0} (b : Bool) (e x : EndState K) → HeadAlone e x → HeadAlone e (cond b e x)
either_alone true e x h = head_stays e
either_alone false e x h = h

state_alone : {K : Type 0} (e : EndState K) (r : Record) → HeadAlone e (in_state e r)
state_alone e r = record { marks = refl; modules = refl; drv = refl; shift = shift_same e.head }

open_head_alone : {K : Type 0} (e : EndState K) (kind : MsgKind) (m : Msg) → sets_options kind ≡ false → HeadAlone e (open_head e kind m).state
open_head_alone e MData m h = head_alone e (put_in e.head m) (shift_put e.head m)
open_head_alone e MProto m h = head_alone e (put_in e.head m) (shift_put e.head m)
open_head_alone e MPcproto m h =
    either_alone (has_pcproto e.head) e (in_head e (put_in e.head m)) (head_alone e (put_in e.head m) (shift_put e.head m))
open_head_alone e (MIoctl id cmd) m h = head_stays e
open_head_alone e (MSetopts mode prot marks) m h = cc
open_head_alone e (MIocack id rval) m h = state_alone e (kept_answer e.state id m)
open_head_alone e (MIocnak id errno) m h = state_alone e (kept_answer e.state id m)
open_head_alone e (MFlush r w band) m h = head_alone e (flushed_if r band e.head) (shift_flush r band e.head)
open_head_alone e MHangup m h = state_alone e (record e.state { hung = true })
open_head_alone e (MError rd wr) m h = state_alone e (with_errors e.state rd wr)

head_step_alone : {K : Type 0} (e : EndState K) (m : Msg) (is_open : Bool) → sets_options m.kind ≡ false → HeadAlone e (cond is_open (open_head e m.kind m) (keeps e)).state
head_step_alone e m true h = open_head_alone e m.kind m h
head_step_alone e m false h = head_stays e

head_changes : {K : Type 0} (image : Image K) (e : End) (s : EndState K) (new : Image K) → SameModules image new → new ≡ with_end image e s → HeadAlone (end_of image e) s → DiffersIn image new (Head e)
head_changes {K = K} image e s new same is h =
    subst (λ (j : Image K). DiffersIn image j (Head e)) (sym is) (differs_in_head image e s (subst (λ (j : Image K). SameModules image j) is same) h.marks h.modules h.drv h.shift)

-- a message that sets no options comes to a head
pub head_differs : {K : Type 0} (image : Image K) (e : End) (new : Image K) (m : Msg) → sets_options m.kind ≡ false → SameModules image new → new ≡ with_end image e (put_at_head (end_of image e) m).state → DiffersIn image new (Head e)
head_differs image e new m none same is =
    let s = end_of image e in head_changes image e (put_at_head s m).state new same is (head_step_alone s m s.is_open none)

-- of an end no list differs
record ListsStay {K : Type 0} (old new : EndState K) : Type 0 where
  modules : new.modules ≡ old.modules
  drv : new.drv ≡ old.drv
  head : new.head ≡ old.head

lists_stay : {K : Type 0} (e : EndState K) → ListsStay e e
lists_stay e = record { modules = refl; drv = refl; head = refl }

open_head_sets : {K : Type 0} (e : EndState K) (kind : MsgKind) (m : Msg) → sets_options kind ≡ true → ListsStay e (open_head e kind m).state
open_head_sets e (MSetopts mode prot marks) m h = record { modules = refl; drv = refl; head = refl }
open_head_sets e kind m h = cc

head_step_sets : {K : Type 0} (e : EndState K) (m : Msg) (is_open : Bool) → sets_options m.kind ≡ true → ListsStay e (cond is_open (open_head e m.kind m) (keeps e)).state
head_step_sets e m true h = open_head_sets e m.kind m h
head_step_sets e m false h = lists_stay e

held_stays : {K : Type 0} (image : Image K) (e : End) (s : EndState K) → ListsStay (end_of image e) s → (queue : NextQueue) → held_by (with_end image e s) queue ≡ held_by image queue
held_stays image e s h (Of (Place.Wr x i)) =
    kept_at (λ t. list_at t i Wr) image e s x (λ at. list_kept (end_of image e) s i Wr h.modules)
held_stays image e s h (Of (Place.Drv x)) = kept_at (λ t. t.drv) image e s x (λ at. h.drv)
held_stays image e s h (Of (Place.Rd x i)) =
    kept_at (λ t. list_at t i Rd) image e s x (λ at. list_kept (end_of image e) s i Rd h.modules)
held_stays image e s h (Head x) = kept_at (λ t. t.head) image e s x (λ at. h.head)

-- options come to a head
pub head_sets : {K : Type 0} (image : Image K) (e : End) (new : Image K) (m : Msg) → sets_options m.kind ≡ true → SameModules image new → new ≡ with_end image e (put_at_head (end_of image e) m).state → SetsMarks image new e
head_sets {K = K} image e new m sets same is =
    let s = (put_at_head (end_of image e) m).state in
    let stay = head_step_sets (end_of image e) m (end_of image e).is_open sets in
    record {
      same = same;
      held = λ queue. ap (λ (j : Image K). held_by j queue) is ∙ held_stays image e s stay queue;
      others = λ x apart.
          ap (λ (j : Image K). (end_of j x).head_marks) is ∙ kept_at (λ t. t.head_marks) image e s x (λ at. absurd (apart at));
    }

-- of an end only the list of its driver differs
record DrvAlone {K : Type 0} (old new : EndState K) : Type 0 where
  marks : new.head_marks ≡ old.head_marks
  modules : new.modules ≡ old.modules
  head : new.head ≡ old.head
  shift : IsShift old.drv new.drv

drv_alone : {K : Type 0} (e : EndState K) (q : List Msg) → IsShift e.drv q → DrvAlone e (in_drv e q)
drv_alone e q h = record { marks = refl; modules = refl; head = refl; shift = h }

drv_stays : {K : Type 0} (e : EndState K) → DrvAlone e e
drv_stays e = record { marks = refl; modules = refl; head = refl; shift = shift_same e.drv }

line_alone : {K : Type 0} (e : EndState K) (kind : MsgKind) → DrvAlone e (put_at_line e kind).state
line_alone e (MFlush r w band) = drv_alone e (flushed_if r band e.drv) (shift_flush r band e.drv)
line_alone e kind = drv_stays e

loop_alone : {K : Type 0} (e : EndState K) (kind : MsgKind) (m : Msg) → DrvAlone e (put_at_loop e kind m).state
loop_alone e (MFlush r w band) m = drv_alone e (flushed_if w band e.drv) (shift_flush w band e.drv)
loop_alone e MData m = drv_alone e (put_in e.drv m) (shift_put e.drv m)
loop_alone e MProto m = drv_alone e (put_in e.drv m) (shift_put e.drv m)
loop_alone e kind m = drv_stays e

either_driver : {K : Type 0} (b : Bool) (e : EndState K) (x y : DriverStep K) → DrvAlone e x.state → DrvAlone e y.state → DrvAlone e (cond b x y).state
either_driver true e x y hx hy = hx
either_driver false e x y hx hy = hy

echo_alone : {K : Type 0} (e : EndState K) (kind : MsgKind) (m : Msg) → DrvAlone e (put_at_echo e kind m).state
echo_alone e (MIoctl id cmd) m =
    either_driver (cmd == SETOPTS) e (record { state = e; sends = options_up id (options_asked m.dat) }) (refuses e id) (drv_stays e) (drv_stays e)
echo_alone e kind m = loop_alone e kind m

wire_alone : {K : Type 0} (e : EndState K) (kind : MsgKind) (m : Msg) → DrvAlone e (put_at_wire e kind m).state
wire_alone e MPcproto m = drv_alone e (put_in e.drv m) (shift_put e.drv m)
wire_alone e kind m = loop_alone e kind m

driver_at_alone : {K : Type 0} (d : Driver) (e : EndState K) (m : Msg) → DrvAlone e (driver_at d e m).state
driver_at_alone Line e m = line_alone e m.kind
driver_at_alone Echo e m = echo_alone e m.kind m
driver_at_alone Loop e m = loop_alone e m.kind m
driver_at_alone Wire e m = wire_alone e m.kind m

driver_step_alone : {K : Type 0} (d : Driver) (e : EndState K) (m : Msg) (has : Bool) → DrvAlone e (cond has (driver_at d e m) (consumes e)).state
driver_step_alone d e m true = driver_at_alone d e m
driver_step_alone d e m false = drv_stays e

-- the driver changes no module
pub driver_modules : {K : Type 0} (d : Driver) (e : End) (s : EndState K) (m : Msg) → (put_at_driver d e s m).state.modules ≡ s.modules
driver_modules d e s m = (driver_step_alone d s m (has_end d e)).modules

drv_changes : {K : Type 0} (image : Image K) (e : End) (s : EndState K) (new : Image K) → SameModules image new → new ≡ with_end image e s → DrvAlone (end_of image e) s → DiffersIn image new (Of (Places.Drv e))
drv_changes {K = K} image e s new same is h =
    subst (λ (j : Image K). DiffersIn image j (Of (Places.Drv e))) (sym is) (differs_in_drv image e s (subst (λ (j : Image K). SameModules image j) is same) h.marks h.modules h.head h.shift)

-- what no flush passes
input_stays : {K : Type 0} (d : Driver) (far : EndState K) (kind : MsgKind) → is_flush kind ≡ false → input_flushed d far kind ≡ far
input_stays Echo far kind h = refl
input_stays Loop far kind h = refl
input_stays Line far kind h = refl
input_stays Wire far (MFlush r w band) h = cc
input_stays Wire far kind h = refl

-- nor a flush, but that which comes to a wire
input_apart : {K : Type 0} (d : Driver) (far : EndState K) (kind : MsgKind) → is_wire d ≡ false → input_flushed d far kind ≡ far
input_apart Echo far kind h = refl
input_apart Loop far kind h = refl
input_apart Line far kind h = refl
input_apart Wire far kind h = cc

-- one list of a driver changes, where no flush comes to a wire
pub driven_one : {K : Type 0} (image : Image K) (e : End) (m : Msg) → (is_flush m.kind ≡ false) ⊎ (is_wire image.driver ≡ false) → driven image e m ≡ with_end image e (put_at_driver image.driver e (end_of image e) m).state
driven_one {K = K} image A m (inl h) = ap (λ (s : EndState K). record image { a = (put_at_driver image.driver A image.a m).state; b = s }) (input_stays image.driver image.b m.kind h)
driven_one {K = K} image A m (inr h) = ap (λ (s : EndState K). record image { a = (put_at_driver image.driver A image.a m).state; b = s }) (input_apart image.driver image.b m.kind h)
driven_one image B m h = refl

-- a message comes to a driver, that is no flush which comes to a wire
pub driver_differs : {K : Type 0} (image : Image K) (e : End) (new : Image K) (m : Msg) → (is_flush m.kind ≡ false) ⊎ (is_wire image.driver ≡ false) → SameModules image new → new ≡ driven image e m → DiffersIn image new (Of (Places.Drv e))
driver_differs image e new m one same is =
    let s = end_of image e in
    drv_changes image e (put_at_driver image.driver e s m).state new same (is ∙ driven_one image e m one) (driver_step_alone image.driver s m (has_end image.driver e))

-- the first message of a driver's list is taken
pub take_driver_differs : {K : Type 0} (image : Image K) (e : End) (new : Image K) (m : Msg) → SameModules image new → (end_of image e).drv ≡ m ∷ (end_of new e).drv → new ≡ with_drv image e (end_of new e).drv → DiffersIn image new (Of (Places.Drv e))
take_driver_differs image e new m same first is =
    let s = end_of image e in
    let q = (end_of new e).drv in
    drv_changes image e (in_drv s q) new same is (drv_alone s q (subst (λ (l : List Msg). IsShift l q) (sym first) (shift_tail m q)))

-- of an end only one queue of a module differs
pub record QueueAlone {K : Type 0} (old new : EndState K) (i : ℕ) (side : Side) : Type 0 where
  marks : new.head_marks ≡ old.head_marks
  head : new.head ≡ old.head
  drv : new.drv ≡ old.drv
  lists : (k : ℕ) (t : Side) → (k ≡ i → t ≡ side → ⊥) → list_at new k t ≡ list_at old k t
  shift : IsShift (list_at old i side) (list_at new i side)

pub queue_stays : {K : Type 0} (e : EndState K) (i : ℕ) (side : Side) → QueueAlone e e i side
queue_stays e i side =
    record { marks = refl; head = refl; drv = refl; lists = λ k t apart. refl; shift = shift_same (list_at e i side) }

pub queue_changes : {K : Type 0} (image : Image K) (e : End) (s : EndState K) (i : ℕ) (side : Side) (new : Image K) → SameModules image new → new ≡ with_end image e s → QueueAlone (end_of image e) s i side → DiffersIn image new (Of (module_place side e i))
queue_changes {K = K} image e s i side new same is h =
    subst (λ (j : Image K). DiffersIn image j (Of (module_place side e i))) (sym is) (differs_in_module image e s i side (subst (λ (j : Image K). SameModules image j) is same) h.marks h.head h.drv h.lists h.shift)

-- of a pair only the queue of one side differs
pub record PairAlone {K : Type 0} (old new : QueuePair K) (side : Side) : Type 0 where
  others : (t : Side) → (t ≡ side → ⊥) → list_on new t ≡ list_on old t
  shift : IsShift (list_on old side) (list_on new side)

-- the module that is set, and the others
slice_lists : {K : Type 0} (xs : List (QueuePair K)) (i k : ℕ) (t : Side) (old new : QueuePair K) → slice_get xs i ≡ Some old → (k ≡ i → list_on new t ≡ list_on old t) → list_found (slice_get (slice_set xs i new) k) t ≡ list_found (slice_get xs k) t
slice_lists [] i k t old new at same = cc
slice_lists {K = K} (x ∷ xs) zero zero t old new at same =
    let e : x ≡ old = cc in same refl ∙ sym (ap (λ (p : QueuePair K). list_on p t) e)
slice_lists (x ∷ xs) zero (suc k) t old new at same = refl
slice_lists (x ∷ xs) (suc i) zero t old new at same = refl
slice_lists (x ∷ xs) (suc i) (suc k) t old new at same = slice_lists xs i k t old new at (λ h. same (ap suc h))

pair_lists : {K : Type 0} (xs : List (QueuePair K)) (i k : ℕ) (t : Side) (old new : QueuePair K) → pair_at xs i ≡ Some old → (k ≡ i → list_on new t ≡ list_on old t) → list_found (pair_at (set_pair xs i new) k) t ≡ list_found (pair_at xs k) t
pair_lists xs zero k t old new at same = cc
pair_lists xs (suc i) zero t old new at same = refl
pair_lists xs (suc i) (suc k) t old new at same = slice_lists xs i k t old new at (λ h. same (ap suc h))

slice_there : {K : Type 0} (xs : List (QueuePair K)) (i : ℕ) (old new : QueuePair K) → slice_get xs i ≡ Some old → slice_get (slice_set xs i new) i ≡ Some new
slice_there [] i old new at = cc
slice_there (x ∷ xs) zero old new at = refl
slice_there (x ∷ xs) (suc i) old new at = slice_there xs i old new at

pub pair_there : {K : Type 0} (xs : List (QueuePair K)) (i : ℕ) (old new : QueuePair K) → pair_at xs i ≡ Some old → pair_at (set_pair xs i new) i ≡ Some new
pair_there xs zero old new at = cc
pair_there xs (suc i) old new at = slice_there xs i old new at

both_found : {K : Type 0} (side : Side) (o p : Option (QueuePair K)) (old new : QueuePair K) → o ≡ Some old → p ≡ Some new → IsShift (list_on old side) (list_on new side) → IsShift (list_found o side) (list_found p side)
both_found side o p old new ho hp h = rw (ho, hp) h

pub set_alone : {K : Type 0} (e : EndState K) (i : ℕ) (side : Side) (old new : QueuePair K) → pair_at e.modules i ≡ Some old → PairAlone old new side → QueueAlone e (record e { modules = set_pair e.modules i new }) i side
set_alone e i side old new at h =
    record {
      marks = refl;
      head = refl;
      drv = refl;
      lists = λ k t apart. pair_lists e.modules i k t old new at (λ same. h.others t (apart same));
      shift = both_found side (pair_at e.modules i) (pair_at (set_pair e.modules i new) i) old new at (pair_there e.modules i old new at) h.shift;
    }

pub unflushed : {K : Type 0} (s : QueuePair K) (kind : MsgKind) → is_flush kind ≡ false → flushed_pair s kind ≡ s
unflushed s (MFlush r w band) h = cc
unflushed s kind h = refl

beside_list : {K : Type 0} (s : QueuePair K) (shape : Shape K) (side t : Side) (q : List Msg) → (t ≡ side → ⊥) → list_on (record (with_list s side q) { shape = shape }) t ≡ list_on s t
beside_list s shape Rd Rd q apart = absurd (apart refl)
beside_list s shape Rd Wr q apart = refl
beside_list s shape Wr Rd q apart = refl
beside_list s shape Wr Wr q apart = absurd (apart refl)

list_there : {K : Type 0} (s : QueuePair K) (shape : Shape K) (side : Side) (q : List Msg) → list_on (record (with_list s side q) { shape = shape }) side ≡ q
list_there s shape Rd q = refl
list_there s shape Wr q = refl

pub with_list_alone : {K : Type 0} (s : QueuePair K) (shape : Shape K) (side : Side) (q : List Msg) → IsShift (list_on s side) q → PairAlone s (record (with_list s side q) { shape = shape }) side
with_list_alone s shape side q h =
    record {
      others = λ t apart. beside_list s shape side t q apart;
      shift = subst (λ (l : List Msg). IsShift (list_on s side) l) (sym (list_there s shape side q)) h;
    }

same_lists : {K : Type 0} (s : QueuePair K) (shape : Shape K) (t : Side) → list_on (record s { shape = shape }) t ≡ list_on s t
same_lists s shape Rd = refl
same_lists s shape Wr = refl

pub pair_stays : {K : Type 0} (s : QueuePair K) (shape : Shape K) (side : Side) → PairAlone s (record s { shape = shape }) side
pair_stays s shape Rd =
    record { others = λ t apart. same_lists s shape t; shift = shift_same s.rd }
pair_stays s shape Wr =
    record { others = λ t apart. same_lists s shape t; shift = shift_same s.wr }

put_alone : {K : Type 0} (s : QueuePair K) (shape : Shape K) (side : Side) (put : Put) → PairAlone s (after_put (record s { shape = shape }) side put).pair side
put_alone s shape Rd (Queued m) = with_list_alone s shape Rd (put_in s.rd m) (shift_put s.rd m)
put_alone s shape Wr (Queued m) = with_list_alone s shape Wr (put_in s.wr m) (shift_put s.wr m)
put_alone s shape side (Sent outs) = pair_stays s shape side

-- for kinds of any meaning
module _ {K : Type 0} (means : Meaning K) where
  pair_gets_alone : (s : QueuePair K) (side : Side) (m : Msg) → is_flush m.kind ≡ false → PairAlone s (pair_gets means s side m).pair side
  pair_gets_alone s side m ordinary =
      let put = put_of means s.shape side m in
      subst (λ (p : QueuePair K). PairAlone s (after_put (record p { shape = put.shape }) side put.answer).pair side) (sym (unflushed s m.kind ordinary)) (put_alone s put.shape side put.answer)

  pair_front_alone : (s : QueuePair K) (side : Side) (q : List Msg) → list_on s side ≡ q → PairAlone s (pair_front means s side q).pair side
  pair_front_alone s side [] at = pair_stays s s.shape side
  pair_front_alone s side (m ∷ q) at =
      with_list_alone s (serve_of means s.shape side m).shape side q (subst (λ (l : List Msg). IsShift l q) (sym at) (shift_tail m q))

  pair_turns_alone : (s : QueuePair K) (side : Side) (turn : Turn) → PairAlone s (pair_turns means s side turn).pair side
  pair_turns_alone s side Serves = pair_front_alone s side (list_on s side) refl
  pair_turns_alone s side Shut = pair_stays s s.shape side
  pair_turns_alone s side (Sends band) = pair_stays s (own_of means s.shape side).shape side

  found_gets_alone : (e : EndState K) (i : ℕ) (o : Option (QueuePair K)) (side : Side) (m : Msg) → is_flush m.kind ≡ false → pair_at e.modules i ≡ o → QueueAlone e (found_gets means e i o side m).state i side
  found_gets_alone e i None side m ordinary at = queue_stays e i side
  found_gets_alone e i (Some s) side m ordinary at =
      set_alone e i side s (pair_gets means s side m).pair at (pair_gets_alone s side m ordinary)

  found_serves_alone : (e : EndState K) (i : ℕ) (o : Option (QueuePair K)) (side : Side) → pair_at e.modules i ≡ o → QueueAlone e (found_serves means e i o side).state i side
  found_serves_alone e i None side at = queue_stays e i side
  found_serves_alone e i (Some s) side at =
      set_alone e i side s (pair_serves means s side).pair at (pair_turns_alone s side (service_turn means s.shape side))

  -- a message that is no flush comes to a module
  pub gets_differs : (image : Image K) (e : End) (new : Image K) (i : ℕ) (side : Side) (m : Msg) → SameModules image new → is_flush m.kind ≡ false → new ≡ with_end image e (end_gets means (end_of image e) i side m).state → DiffersIn image new (Of (module_place side e i))
  gets_differs image e new i side m same ordinary is =
      let s = end_of image e in
      queue_changes image e (end_gets means s i side m).state i side new same is (found_gets_alone s i (pair_at s.modules i) side m ordinary refl)

  -- a module serves a message
  pub serves_differs : (image : Image K) (e : End) (new : Image K) (i : ℕ) (side : Side) → SameModules image new → new ≡ with_end image e (end_serves means (end_of image e) i side).state → DiffersIn image new (Of (module_place side e i))
  serves_differs image e new i side same is =
      let s = end_of image e in
      queue_changes image e (end_serves means s i side).state i side new same is (found_serves_alone s i (pair_at s.modules i) side refl)

same_ids : (r : Record) → SameIds r r
same_ids r = record { next = refl; pending = refl; kept = λ none. refl; asked = refl; answer = λ none. refl }

same_end : {K : Type 0} (e : EndState K) → SameEnd e e
same_end e = record { is_open = refl; drv_marks = refl; modules = refl; ids = same_ids e.state }

same_image : {K : Type 0} (image : Image K) → SameModules image image
same_image image = record { driver = refl; broken = refl; on_a = same_end image.a; on_b = same_end image.b }

in_head_keeps : {K : Type 0} (e : EndState K) (q : List Msg) → SameEnd e (in_head e q)
in_head_keeps e q =
    record { is_open = refl; drv_marks = refl; modules = refl; ids = same_ids e.state }

in_drv_keeps : {K : Type 0} (e : EndState K) (q : List Msg) → SameEnd e (in_drv e q)
in_drv_keeps e q =
    record { is_open = refl; drv_marks = refl; modules = refl; ids = same_ids e.state }

pub with_end_keeps : {K : Type 0} (image : Image K) (e : End) (s : EndState K) → SameEnd (end_of image e) s → SameModules image (with_end image e s)
with_end_keeps image A s h = record { driver = refl; broken = refl; on_a = h; on_b = same_end image.b }
with_end_keeps image B s h = record { driver = refl; broken = refl; on_a = same_end image.a; on_b = h }

with_head_differs : {K : Type 0} (image : Image K) (e : End) (new : Image K) (q : List Msg) → IsShift (end_of image e).head q → new ≡ with_head image e q → DiffersIn image new (Head e)
with_head_differs {K = K} image e new q h is =
    let s = end_of image e in
    head_changes image e (in_head s q) new (subst (λ (j : Image K). SameModules image j) (sym is) (with_end_keeps image e (in_head s q) (in_head_keeps s q))) is (head_alone s q h)

-- the first message of a head's list is taken
pub take_head_differs : {K : Type 0} (image : Image K) (e : End) (new : Image K) → new ≡ with_head image e (drop 1 (end_of image e).head) → DiffersIn image new (Head e)
take_head_differs image e new is =
    let q = (end_of image e).head in with_head_differs image e new (drop 1 q) (shift_drop q) is

-- a message is put back into a head's list
pub put_back_differs : {K : Type 0} (image : Image K) (e : End) (new : Image K) (m : Msg) → new ≡ with_head image e (put_back_in (end_of image e).head m) → DiffersIn image new (Head e)
put_back_differs image e new m is =
    let q = (end_of image e).head in with_head_differs image e new (put_back_in q m) (shift_put_back q m) is

-- a message comes in from a line
pub line_put_differs : {K : Type 0} (image new : Image K) (e : End) (m : Msg) → new ≡ with_drv image e (put_in (end_of image e).drv m) → DiffersIn image new (Of (Places.Drv e))
line_put_differs {K = K} image new e m is =
    let s = end_of image e in
    let q = put_in s.drv m in
    drv_changes image e (in_drv s q) new (subst (λ (j : Image K). SameModules image j) (sym is) (with_end_keeps image e (in_drv s q) (in_drv_keeps s q))) is (drv_alone s q (shift_put s.drv m))

-- a message is put back into a driver's list
pub driver_back_differs : {K : Type 0} (image new : Image K) (e : End) (m : Msg) → new ≡ with_drv image e (put_back_in (end_of image e).drv m) → DiffersIn image new (Of (Places.Drv e))
driver_back_differs {K = K} image new e m is =
    let s = end_of image e in
    let q = put_back_in s.drv m in
    drv_changes image e (in_drv s q) new (subst (λ (j : Image K). SameModules image j) (sym is) (with_end_keeps image e (in_drv s q) (in_drv_keeps s q))) is (drv_alone s q (shift_put_back s.drv m))

-- nothing differs, as where a message was refused
pub same_differs : {K : Type 0} (image new : Image K) (queue : NextQueue) → new ≡ image → DiffersIn image new queue
same_differs {K = K} image new queue is =
    subst (λ (j : Image K). DiffersIn image j queue) (sym is) (record {
      same = same_image image;
      head_marks = λ e. refl;
      others = λ other apart. refl;
      shift = shift_same (held_by image queue);
    })

pub same_sets : {K : Type 0} (image new : Image K) (e : End) → new ≡ image → SetsMarks image new e
same_sets {K = K} image new e is =
    subst (λ (j : Image K). SetsMarks image j e) (sym is) (record {
      same = same_image image;
      held = λ queue. refl;
      others = λ other apart. refl;
    })
