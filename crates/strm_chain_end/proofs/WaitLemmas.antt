-- What waits in the queues of modules stays ordinary, and what waits in the driver's list calm.
use Rattle.std.proofs.Common.{◌≡◌, ◌||◌, ◌⊎◌, inl, inr, ◌<◌, ◌&&◌, not, ℕ, Bool, true, false, Option, Some, None, List, [], ◌∷◌, length, slice_get, slice_set, slice_index_or, is_some, Result, Ok, Err, OnOk, OnErr, refl, ap, sym, ◌∙◌, arith, suc, zero}
use Rattle.std.specs.List.{list_all, insert}
use Rattle.std.specs.Cmp.Derive.{both_true}
use Rattle.std.proofs.lemmas.Bool.{and_parts}
use Rattle.strm_msg.specs.Message.{Msg}
use Rattle.strm_msg.specs.Kind.{is_high}
use Rattle.strm_msg.specs.declared.kind.MsgKind.{MsgKind}
use Rattle.strm_msg.specs.declared.kind.MsgKind.TheVariants.{MData, MProto, MPcproto, MFlush}
use Rattle.strm_msg.specs.declared.words.Side.{Side}
use Rattle.strm_msg.specs.declared.words.Side.TheVariants.{Rd, Wr}
use Rattle.strm_msg.specs.Marks.{WaterMarks}
use Rattle.strm_queue.specs.Queue.{is_flushed, is_of_band, put_in, put_back_in, front_len}
use Rattle.strm_queue.proofs.ListLemmas.{all_filter}
use Rattle.strm_module.specs.Shape.{marks_on, IsSameModule}
use Rattle.strm_module.specs.Module.{waits_here, IsTaken}
use Rattle.strm_module.specs.Calm.{is_calm}
use Rattle.strm_module.proofs.CalmLemmas.{ordinary_calm}
use Rattle.strm_module.specs.declared.shape.Shape.{Shape}
use Rattle.strm_chain_end.specs.Pair.{QueuePair, list_on, with_list, flushed, flushed_if, flushed_pair}
use Rattle.strm_chain_end.specs.Modules.{are_ordinary, are_calm, is_nothing, waits_in, waits_well}

pub all-insert : {X : Type 0} (p : X → Bool) (xs : List X) (i : ℕ) (y : X) → list_all p xs ≡ true → p y ≡ true → list_all p (insert xs i y) ≡ true
all-insert p [] zero y h k = both_true k refl
all-insert p [] (suc i) y h k = both_true k refl
all-insert p (x ∷ xs) zero y h k = both_true k h
all-insert p (x ∷ xs) (suc i) y h k = both_true ((and_parts (p x) (list_all p xs) h).0) (all-insert p xs i y ((and_parts (p x) (list_all p xs) h).1) k)

pub all-set : {X : Type 0} (p : X → Bool) (xs : List X) (i : ℕ) (y d : X) → d ≡ slice_index_or xs i d → i < length xs → (p d ≡ true → p y ≡ true) → list_all p xs ≡ true → list_all p (slice_set xs i y) ≡ true
all-set p [] i y d at less so h = absurd (omega arith)
all-set p (x ∷ xs) zero y d at less so h =
    let here : p d ≡ true = ap p at ∙ (and_parts (p x) (list_all p xs) h).0 in
    both_true (so here) ((and_parts (p x) (list_all p xs) h).1)
all-set p (x ∷ xs) (suc i) y d at less so h = both_true ((and_parts (p x) (list_all p xs) h).0) (all-set p xs i y d at (omega arith) so ((and_parts (p x) (list_all p xs) h).1))

pub all-at : {X : Type 0} (p : X → Bool) (xs : List X) (i : ℕ) (x : X) → slice_get xs i ≡ Some x → list_all p xs ≡ true → p x ≡ true
all-at p [] i x is h = cc
all-at p (y ∷ xs) zero x is h =
    let same : y ≡ x = cc in
    ap p (sym same) ∙ (and_parts (p y) (list_all p xs) h).0
all-at p (y ∷ xs) (suc i) x is h = all-at p xs i x is ((and_parts (p y) (list_all p xs) h).1)

abbrev is_ordinary : Msg → Bool
is_ordinary m = not (is_high m.kind)

pub not_high : (b : Bool) → b ≡ false → not b ≡ true
not_high true h = sym h
not_high false h = refl

pub is_low : (b : Bool) → not b ≡ true → b ≡ false
is_low true h = sym h
is_low false h = refl

-- an ordinary message more
pub ordinary-put : (q : List Msg) (m : Msg) → is_high m.kind ≡ false → are_ordinary q ≡ true → are_ordinary (put_in q m) ≡ true
ordinary-put q m low h = all-insert is_ordinary q (front_len _ q) m h (not_high (is_high m.kind) low)

-- messages fewer
ordinary-flushed : (band : Option ℕ) (q : List Msg) → are_ordinary q ≡ true → are_ordinary (flushed band q) ≡ true
ordinary-flushed None q h = all_filter is_ordinary (λ m. not (is_flushed m.kind)) q h
ordinary-flushed (Some b) q h = all_filter is_ordinary (λ m. not (is_flushed m.kind && is_of_band b m)) q h

pub ordinary-flushed_if : (wanted : Bool) (band : Option ℕ) (q : List Msg) → are_ordinary q ≡ true → are_ordinary (flushed_if wanted band q) ≡ true
ordinary-flushed_if true band q h = ordinary-flushed band q h
ordinary-flushed_if false band q h = h

pub ordinary-rest : (m : Msg) (q : List Msg) → are_ordinary (m ∷ q) ≡ true → are_ordinary q ≡ true
ordinary-rest m q h = (and_parts (is_ordinary m) (are_ordinary q) h).1

nothing-flushed_if : (wanted : Bool) (band : Option ℕ) (q : List Msg) → is_nothing q ≡ true → is_nothing (flushed_if wanted band q) ≡ true
nothing-flushed_if true None [] h = refl
nothing-flushed_if true (Some b) [] h = refl
nothing-flushed_if false band [] h = refl
nothing-flushed_if wanted band (m ∷ q) h = cc

-- one queue
waits-flushed_if : (noenable : Bool) (marks : Option WaterMarks) (wanted : Bool) (band : Option ℕ) (q : List Msg) → waits_in noenable marks q ≡ true → waits_in noenable marks (flushed_if wanted band q) ≡ true
waits-flushed_if noenable None wanted band q h = nothing-flushed_if wanted band q h
waits-flushed_if true (Some marks) wanted band q h = refl
waits-flushed_if false (Some marks) wanted band q h = ordinary-flushed_if wanted band q h

waits-put : (noenable : Bool) (marks : Option WaterMarks) (q : List Msg) (m : Msg) → is_some marks ≡ true → (noenable || not (is_high m.kind)) ≡ true → waits_in noenable marks q ≡ true → waits_in noenable marks (put_in q m) ≡ true
waits-put noenable None q m some waits h = cc
waits-put true (Some marks) q m some waits h = refl
waits-put false (Some marks) q m some waits h = ordinary-put q m (is_low (is_high m.kind) waits) h

-- both queues of a module
module _ {K : Type 0} where
  pub waits-rd : (s : QueuePair K) → waits_well s ≡ true → waits_in s.shape.noenable s.shape.rd s.rd ≡ true
  waits-rd s h = (and_parts (waits_in s.shape.noenable s.shape.rd s.rd) (waits_in s.shape.noenable s.shape.wr s.wr) h).0

  pub waits-wr : (s : QueuePair K) → waits_well s ≡ true → waits_in s.shape.noenable s.shape.wr s.wr ≡ true
  waits-wr s h = (and_parts (waits_in s.shape.noenable s.shape.rd s.rd) (waits_in s.shape.noenable s.shape.wr s.wr) h).1

  pub waits-on : (side : Side) (s : QueuePair K) → waits_well s ≡ true → waits_in s.shape.noenable (marks_on s.shape side) (list_on s side) ≡ true
  waits-on Rd s h = waits-rd s h
  waits-on Wr s h = waits-wr s h

  -- the shape may change, but for its marks and for whose its service procedures are
  pub waits-shape : (s : QueuePair K) (shape : Shape K) → IsSameModule s.shape shape → waits_well s ≡ true → waits_well (record s { shape = shape }) ≡ true
  waits-shape s shape same h = rw (same.rd, same.wr, same.noenable) h

  pub waits-flushed : (s : QueuePair K) (kind : MsgKind) → waits_well s ≡ true → waits_well (flushed_pair s kind) ≡ true
  waits-flushed s (MFlush r w band) h =
      both_true (waits-flushed_if s.shape.noenable s.shape.rd r band s.rd (waits-rd s h)) (waits-flushed_if s.shape.noenable s.shape.wr w band s.wr (waits-wr s h))
  waits-flushed s kind h = h

  -- a flush after the module has answered
  pub waits-sent : (s : QueuePair K) (shape : Shape K) (kind : MsgKind) (new : QueuePair K) → new ≡ flushed_pair (record s { shape = shape }) kind → IsSameModule s.shape shape → waits_well s ≡ true → waits_well new ≡ true
  waits-sent s shape kind new is same h = rw is (waits-flushed (record s { shape = shape }) kind (waits-shape s shape same h))

  waits-queued : (side : Side) (s : QueuePair K) (m : Msg) → is_some (marks_on s.shape side) ≡ true → waits_here s.shape m ≡ true → waits_well s ≡ true → waits_well (with_list s side (put_in (list_on s side) m)) ≡ true
  waits-queued Rd s m some waits h = both_true (waits-put s.shape.noenable s.shape.rd s.rd m some waits (waits-rd s h)) (waits-wr s h)
  waits-queued Wr s m some waits h = both_true (waits-rd s h) (waits-put s.shape.noenable s.shape.wr s.wr m some waits (waits-wr s h))

  flushed-shape : (s : QueuePair K) (kind : MsgKind) → (flushed_pair s kind).shape ≡ s.shape
  flushed-shape s (MFlush r w band) = refl
  flushed-shape s kind = refl

  -- the message that the module had queued, which passed its queues first if it is a flush
  pub waits-taken : (side : Side) (s : QueuePair K) (m q : Msg) (shape : Shape K) (new : QueuePair K) → IsTaken side m q s.shape shape → new ≡ with_list (flushed_pair (record s { shape = shape }) q.kind) side (put_in (list_on (flushed_pair (record s { shape = shape }) q.kind) side) q) → waits_well s ≡ true → waits_well new ≡ true
  waits-taken side s m q shape new taken is h =
      let f = flushed_pair s q.kind in
      let waits : waits_here s.shape q ≡ true = rw taken.same taken.waits in
      let own = flushed-shape s q.kind in
      rw (is, taken.shape) (waits-queued side f q (ap (λ x. is_some (marks_on x side)) own ∙ taken.queues) (ap (λ x. waits_here x q) own ∙ waits) (waits-flushed s q.kind h))

-- a calm message more, and messages fewer
pub calm-put : (q : List Msg) (m : Msg) → is_calm m.kind ≡ true → are_calm q ≡ true → are_calm (put_in q m) ≡ true
calm-put q m calm h = all-insert (λ (x : Msg). is_calm x.kind) q (front_len _ q) m h calm

calm-flushed : (band : Option ℕ) (q : List Msg) → are_calm q ≡ true → are_calm (flushed band q) ≡ true
calm-flushed None q h = all_filter (λ (x : Msg). is_calm x.kind) (λ m. not (is_flushed m.kind)) q h
calm-flushed (Some b) q h = all_filter (λ (x : Msg). is_calm x.kind) (λ m. not (is_flushed m.kind && is_of_band b m)) q h

pub calm-flushed_if : (wanted : Bool) (band : Option ℕ) (q : List Msg) → are_calm q ≡ true → are_calm (flushed_if wanted band q) ≡ true
calm-flushed_if true band q h = calm-flushed band q h
calm-flushed_if false band q h = h

-- a put that may have been refused
pub calm-tried : {A E : Type 0} (result : Result A E) (old new : List Msg) (m : Msg) → OnOk result (new ≡ put_in old m) → OnErr result (new ≡ old) → is_high m.kind ≡ false → are_calm old ≡ true → are_calm new ≡ true
calm-tried (Ok x) old new m ok err low h = rw ok (calm-put old m (ordinary_calm m.kind low) h)
calm-tried (Err e) old new m ok err low h = rw err h

-- a message that is put back, where that may have been refused
pub calm-put_back : {A E : Type 0} (result : Result A E) (old new : List Msg) (m : Msg) → OnOk result (new ≡ put_back_in old m) → OnErr result (new ≡ old) → is_calm m.kind ≡ true → are_calm old ≡ true → are_calm new ≡ true
calm-put_back (Ok x) old new m ok err calm h = rw ok (all-insert (λ (x : Msg). is_calm x.kind) old (front_len _ old) m h calm)
calm-put_back (Err e) old new m ok err calm h = rw err h

-- data and protocol messages are calm
pub calm-kind : (kind : MsgKind) → (kind ≡ MData) ⊎ (kind ≡ MProto) → is_calm kind ≡ true
calm-kind kind (inl is) = rw is refl
calm-kind kind (inr is) = rw is refl
