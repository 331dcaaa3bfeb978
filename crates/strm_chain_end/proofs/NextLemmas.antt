-- The next queue as the number of a module, and what stands first in it.
use Rattle.std.proofs.Common.{◌≡◌, ◌≢◌, ◌<◌, ◌≤◌, ◌+◌, ◌-◌, ◌++◌, not, ℕ, Bool, true, false, Option, Some, None, List, [], ◌∷◌, length, take, drop, reverse, slice_get, slice_index_or, cond, nat_le, min, is_some, if◌then◌else◌, option_map, refl, subst, ap, sym, arith, suc, zero}
use Rattle.std.proofs.lemmas.Bool.{leb-true, leb-false}
use Rattle.std.proofs.lemmas.List.{drop_all, reverse-append, length-map}
use Rattle.std.proofs.lemmas.Option.{slice_get-map, slice_get_within}
use Rattle.std.specs.List.{list_all}
use Rattle.std.specs.Option.{option_to_list}
use Rattle.strm_msg.specs.Message.{Msg}
use Rattle.strm_msg.specs.Kind.{is_high}
use Rattle.strm_msg.specs.declared.words.Side.{Side}
use Rattle.strm_msg.specs.declared.words.Side.TheVariants.{Rd, Wr}
use Rattle.strm_msg.specs.Marks.{WaterMarks}
use Rattle.strm_module.specs.Calm.{is_calm}
use Rattle.strm_module.specs.Shape.{marks_on, queues_on}
use Rattle.strm_module.specs.declared.shape.Shape.{Shape}
use Rattle.strm_module.specs.declared.driver.Driver.{Driver}
use Rattle.strm_module.specs.declared.turn.Turn.{Turn}
use Rattle.strm_module.specs.declared.turn.Turn.TheVariants.{Shut}
use Rattle.strm_chain_end.specs.Pair.{QueuePair, list_on}
use Rattle.strm_chain_end.specs.End.{EndState, pair_at, list_at, list_found}
use Rattle.strm_chain_end.specs.Modules.{Identity, identity_of, identities_of, are_ordinary, waits_in, waits_well, HoldsCalm}
use Rattle.strm_chain_end.specs.Canput.{Fill, fill_with, fill_on, or_else, first_fill, head_fill, driver_fill, above, below}
use Rattle.strm_chain_end.specs.Next.{marks_for, marks_at, identity_at, has_queue, first_from, last_below, next_below, next_above, queue_found, queue_at, or_at}
use Rattle.strm_module.specs.Kinds.{Meaning}
use Rattle.strm_chain_end.specs.Offer.{offer_by, offer_found, turn_found, turn_at, offer_at}
use Rattle.strm_chain_end.proofs.EndLemmas.{pair_at-found}
use Rattle.strm_chain_end.proofs.WaitLemmas.{all-at, waits-on, is_low}

-- one element of those that follow, where there is one
take_found : {X : Type 0} (xs : List X) (i : ℕ) → take (suc i) xs ≡ take i xs ++ option_to_list (slice_get xs i)
take_found [] zero = refl
take_found [] (suc i) = refl
take_found (x ∷ xs) zero = refl
take_found (x ∷ xs) (suc i) = ap (λ ys. x ∷ ys) (take_found xs i)

drop_found : {X : Type 0} (xs : List X) (i : ℕ) → drop i xs ≡ option_to_list (slice_get xs i) ++ drop (suc i) xs
drop_found [] zero = refl
drop_found [] (suc i) = refl
drop_found (x ∷ xs) zero = refl
drop_found (x ∷ xs) (suc i) = drop_found xs i

marks_same : {K : Type 0} (side : Side) (s : Shape K) → marks_for side (identity_of s) ≡ marks_on s side
marks_same Rd s = refl
marks_same Wr s = refl

abbrev pub identity : {K : Type 0} → QueuePair K → Identity
identity s = identity_of s.shape

identity-found : {K : Type 0} (modules : List (QueuePair K)) (i : ℕ) → identity_at (identities_of modules) i ≡ option_map identity (pair_at modules i)
identity-found modules zero = refl
identity-found modules (suc i) = slice_get-map identity modules i

fill_found : {K : Type 0} (side : Side) (o : Option (QueuePair K)) → queue_found o side ≡ fill_with (marks_at side (option_map identity o)) (list_found o side)
fill_found side None = refl
fill_found Rd (Some s) = refl
fill_found Wr (Some s) = refl

-- a queue is its marks, which no message changes, and its list
pub queue_at_marks : {K : Type 0} (e : EndState K) (side : Side) (i : ℕ) → queue_at e side i ≡ fill_with (marks_at side (identity_at (identities_of e.modules) i)) (list_at e i side)
queue_at_marks e side i = rw (identity-found e.modules i) (fill_found side (pair_at e.modules i))

-- the queue of a module, or what comes after it
or_here : (marks : Option WaterMarks) (q : List Msg) (queue : ℕ → Option Fill) (after : Option Fill) (j : ℕ) (later : Option ℕ) → queue j ≡ fill_with marks q → or_else (fill_with marks q) (or_at queue after later) ≡ or_at queue after (if is_some marks then Some j else later)
or_here None q queue after j later is = refl
or_here (Some marks) q queue after j later is = sym is

-- the first queue of a side among the modules that follow, where one of them is looked at
here : {K : Type 0} (side : Side) (modules : List (QueuePair K)) (i j : ℕ) (rest after : Option Fill) (later : Option ℕ) → j ≡ suc i → rest ≡ or_at (λ k. queue_found (pair_at modules k) side) after later → first_fill side (option_to_list (slice_get modules i)) rest ≡ or_at (λ k. queue_found (pair_at modules k) side) after (if has_queue side (identities_of modules) j then Some j else later)
here {K = K} side modules i j rest after later num is =
    let queue : ℕ → Option Fill = λ k. queue_found (pair_at modules k) side in
    rw (num, is, slice_get-map identity modules i)
    (elim (slice_get modules i) as (λ (o : Option (QueuePair K)). slice_get modules i ≡ o → first_fill side (option_to_list o) (or_at queue after later) ≡ or_at queue after (if is_some (marks_at side (option_map identity o)) then Some (suc i) else later)) [
      | None ↦ λ e. refl
      | Some s ↦ λ e.
          let its : queue (suc i) ≡ fill_with (marks_on s.shape side) (list_on s side) = rw e refl in
          rw (marks_same side s.shape) (or_here (marks_on s.shape side) (list_on s side) queue after (suc i) later its)
    ] refl)

first_fill-append : {K : Type 0} (side : Side) (xs ys : List (QueuePair K)) (after : Option Fill) → first_fill side (xs ++ ys) after ≡ first_fill side xs (first_fill side ys after)
first_fill-append side [] ys after = refl
first_fill-append side (x ∷ xs) ys after = ap (or_else (fill_on side x)) (first_fill-append side xs ys after)

reverse_one : {X : Type 0} (o : Option X) → reverse (option_to_list o) ≡ option_to_list o
reverse_one None = refl
reverse_one (Some x) = refl

down : {K : Type 0} (side : Side) (modules : List (QueuePair K)) (after : Option Fill) (n i : ℕ) → n ≡ length modules - i → first_fill side (drop i modules) after ≡ or_at (λ k. queue_found (pair_at modules k) side) after (first_from (has_queue side (identities_of modules)) (i + 1) n)
down side modules after zero i long = let none : length modules ≤ i = omega arith in rw (drop_all i modules none) refl
down side modules after (suc n) i long =
    let num : i + 1 ≡ suc i = omega arith in
    let rest = down side modules after n (suc i) (omega arith) in
    let one = here side modules i (i + 1) (first_fill side (drop (suc i) modules) after) after (first_from (has_queue side (identities_of modules)) (i + 1 + 1) n) num (rw num rest) in
    rw (drop_found modules i, first_fill-append side (option_to_list (slice_get modules i)) (drop (suc i) modules) after) one

up : {K : Type 0} (side : Side) (modules : List (QueuePair K)) (after : Option Fill) (i : ℕ) → first_fill side (reverse (take i modules)) after ≡ or_at (λ k. queue_found (pair_at modules k) side) after (last_below (has_queue side (identities_of modules)) (suc i))
up side modules after zero = refl
up side modules after (suc i) =
    let one = option_to_list (slice_get modules i) in
    rw (take_found modules i, reverse-append (take i modules) one, reverse_one (slice_get modules i), first_fill-append side one (reverse (take i modules)) after)
    (here side modules i (suc i) (first_fill side (reverse (take i modules)) after) after (last_below (has_queue side (identities_of modules)) (suc i)) refl (up side modules after i))

-- the first write queue below a place is that of the module that is next there, else the driver's list
pub below_is : {K : Type 0} (d : Driver) (e : EndState K) (i : ℕ) → below d e i ≡ or_at (queue_at e Wr) (driver_fill d e) (next_below (identities_of e.modules) i)
below_is d e i = rw (length-map e.modules identity) (down Wr e.modules (driver_fill d e) (length e.modules - i) i refl)

-- the first read queue above a place is that of the module that is next there, else the head's list
pub above_is : {K : Type 0} (e : EndState K) (i : ℕ) → above e i ≡ or_at (queue_at e Rd) (head_fill e) (next_above (identities_of e.modules) i)
above_is e zero = refl
above_is e (suc i) = let num : suc i - 1 ≡ i = omega arith in rw num (up Rd e.modules (head_fill e) i)

-- a number that is there, from one number to another
abbrev IsBetween : ℕ → ℕ → Option ℕ → Type 0
IsBetween least most None = ⊥
IsBetween least most (Some j) = (least ≤ j) × (j ≤ most)

-- the first number from k on is not below k, and the last below k is
abbrev IsFrom : ℕ → Option ℕ → Type 0
IsFrom k None = Unit {0}
IsFrom k (Some j) = k ≤ j

abbrev IsBelow : ℕ → Option ℕ → Type 0
IsBelow k None = Unit {0}
IsBelow k (Some j) = j < k

first_from-meets : (f : ℕ → Bool) (n i k least : ℕ) → f k ≡ true → least ≤ i → i ≤ k → k < i + n → IsBetween least k (first_from f i n)
first_from-meets f zero i k least there low from to = absurd (omega arith)
first_from-meets f (suc n) i k least there low from to =
    elim (f i) as (λ b. f i ≡ b → IsBetween least k (if b then Some i else first_from f (i + 1) n)) [
      | true ↦ λ e. (low, from)
      | false ↦ λ e.
          let other : i ≢ k = λ (same : i ≡ k). let t : f i ≡ true = rw same there in cc in
          first_from-meets f n (i + 1) k least there (omega arith) (omega arith) (omega arith)
    ] refl

first_from-least : (f : ℕ → Bool) (n i k : ℕ) → k ≤ i → IsFrom k (first_from f i n)
first_from-least f zero i k from = tt
first_from-least f (suc n) i k from =
    elim (f i) as (λ b. IsFrom k (if b then Some i else first_from f (i + 1) n)) [
      | true ↦ from
      | false ↦ first_from-least f n (i + 1) k (omega arith)
    ]

last_below-meets : (f : ℕ → Bool) (n k most : ℕ) → f k ≡ true → k < n → n ≤ suc most → IsBetween k most (last_below f n)
last_below-meets f zero k most there less to = absurd (omega arith)
last_below-meets f (suc n) k most there less to =
    elim (f n) as (λ b. f n ≡ b → IsBetween k most (if b then Some n else last_below f n)) [
      | true ↦ λ e. (omega arith, omega arith)
      | false ↦ λ e.
          let other : n ≢ k = λ (same : n ≡ k). let t : f n ≡ true = rw same there in cc in
          last_below-meets f n k most there (omega arith) (omega arith)
    ] refl

last_below-less : (f : ℕ → Bool) (n k : ℕ) → n ≤ k → IsBelow k (last_below f n)
last_below-less f zero k to = tt
last_below-less f (suc n) k to =
    elim (f n) as (λ b. IsBelow k (if b then Some n else last_below f n)) [
      | true ↦ omega arith
      | false ↦ last_below-less f n k (omega arith)
    ]

apart_from : (least most k : ℕ) (o : Option ℕ) → most < k → IsBetween least most o → IsFrom k o → ⊥
apart_from least most k None less h far = h
apart_from least most k (Some j) less h far = let to = h.1 in omega arith

apart_below : (least most k : ℕ) (o : Option ℕ) → k ≤ least → IsBetween least most o → IsBelow k o → ⊥
apart_below least most k None less h near = h
apart_below least most k (Some j) less h near = let from = h.0 in omega arith

-- a module that is there has a number
has_queue-within : (side : Side) (ids : List Identity) (i : ℕ) → has_queue side ids i ≡ true → i ≤ length ids
has_queue-within side ids zero there = omega arith
has_queue-within side ids (suc i) there =
    elim (slice_get ids i) as (λ (o : Option Identity). slice_get ids i ≡ o → is_some (marks_at side o) ≡ true → suc i ≤ length ids) [
      | None ↦ λ e h. cc
      | Some id ↦ λ e h. let less = slice_get_within ids i id e in omega arith
    ] refl there

-- two places that have one next write queue below them are one
below_differs : (ids : List Identity) (i k : ℕ) → i < k → has_queue Wr ids k ≡ true → next_below ids i ≡ next_below ids k → ⊥
below_differs ids i k less there same =
    let within = has_queue-within Wr ids k there in
    let f = has_queue Wr ids in
    let near : IsBetween (i + 1) k (next_below ids i) = first_from-meets f (length ids - i) (i + 1) k (i + 1) there (omega arith) (omega arith) (omega arith) in
    let far : IsFrom (k + 1) (next_below ids k) = first_from-least f (length ids - k) (k + 1) (k + 1) (omega arith) in
    apart_from (i + 1) k (k + 1) (next_below ids k) (omega arith) (subst (λ o. IsBetween (i + 1) k o) same near) far

-- so are two that have one next read queue above them
above_differs : (ids : List Identity) (i k : ℕ) → i < k → has_queue Rd ids i ≡ true → next_above ids k ≡ next_above ids i → ⊥
above_differs ids i k less there same =
    let f = has_queue Rd ids in
    let near : IsBetween i k (next_above ids k) = last_below-meets f k i k there less (omega arith) in
    let far : IsBelow i (next_above ids i) = last_below-less f i i (omega arith) in
    apart_below i k i (next_above ids i) (omega arith) (subst (λ o. IsBetween i k o) same near) far

one_place : (i k : ℕ) → (i < k → ⊥) → (k < i → ⊥) → i ≡ k
one_place i k h j = omega arith

pub next_below_once : (ids : List Identity) (i k : ℕ) → has_queue Wr ids i ≡ true → has_queue Wr ids k ≡ true → next_below ids i ≡ next_below ids k → i ≡ k
next_below_once ids i k here there same = one_place i k (λ less. below_differs ids i k less there same) (λ less. below_differs ids k i less here (sym same))

pub next_above_once : (ids : List Identity) (i k : ℕ) → has_queue Rd ids i ≡ true → has_queue Rd ids k ≡ true → next_above ids i ≡ next_above ids k → i ≡ k
next_above_once ids i k here there same = one_place i k (λ less. above_differs ids i k less here (sym same)) (λ less. above_differs ids k i less there same)

-- nor is what is next above all modules next above one that has a read queue
pub next_above_last : (ids : List Identity) (i : ℕ) → next_above ids (length ids + 1) ≡ next_above ids i → has_queue Rd ids i ≡ true → ⊥
next_above_last ids i same there = let within = has_queue-within Rd ids i there in above_differs ids i (length ids + 1) (omega arith) there same

-- where a message waits, there is a queue
waits-some : (noenable : Bool) (marks : Option WaterMarks) (q : List Msg) → waits_in noenable marks q ≡ true → is_some (slice_get q 0) ≡ true → is_some marks ≡ true
waits-some noenable None [] h front = front
waits-some noenable None (m ∷ q) h front = cc
waits-some noenable (Some marks) q h front = refl

-- and it is ordinary
ordinary-first : (q : List Msg) (m : Msg) → are_ordinary q ≡ true → slice_get q 0 ≡ Some m → is_high m.kind ≡ false
ordinary-first q m h front = is_low (is_high m.kind) (all-at (λ (x : Msg). not (is_high x.kind)) q 0 m front h)

waits-first : (marks : Option WaterMarks) (q : List Msg) (m : Msg) → waits_in false marks q ≡ true → slice_get q 0 ≡ Some m → is_high m.kind ≡ false
waits-first None [] m h front = cc
waits-first None (x ∷ q) m h front = cc
waits-first (Some marks) q m h front = ordinary-first q m h front

-- a module that is found, as the lists of all modules say it of each
pub found-waits : {K : Type 0} (modules : List (QueuePair K)) (i : ℕ) (s : QueuePair K) → pair_at modules i ≡ Some s → list_all waits_well modules ≡ true → waits_well s ≡ true
found-waits modules zero s is h = cc
found-waits modules (suc i) s is h = all-at waits_well modules i s is h

pub has_queue_front : {K : Type 0} (e : EndState K) (side : Side) (i : ℕ) → HoldsCalm e → is_some (slice_get (list_at e i side) 0) ≡ true → has_queue side (identities_of e.modules) i ≡ true
has_queue_front {K = K} e side i holds front =
    rw (identity-found e.modules i)
    (elim (pair_at e.modules i) as (λ (o : Option (QueuePair K)). pair_at e.modules i ≡ o → is_some (slice_get (list_found o side) 0) ≡ true → is_some (marks_at side (option_map identity o)) ≡ true) [
      | None ↦ λ is h. h
      | Some s ↦ λ is h. rw (marks_same side s.shape) (waits-some s.shape.noenable (marks_on s.shape side) (list_on s side) (waits-on side s (found-waits e.modules i s is holds.modules)) h)
    ] refl front)

-- the first message of a queue that the stream serves is ordinary
pub first_ordinary : {K : Type 0} (s : QueuePair K) (side : Side) (m : Msg) → waits_well s ≡ true → s.shape.noenable ≡ false → slice_get (list_on s side) 0 ≡ Some m → is_high m.kind ≡ false
first_ordinary s side m waits serves front =
    waits-first (marks_on s.shape side) (list_on s side) m (subst (λ n. waits_in n (marks_on s.shape side) (list_on s side) ≡ true) serves (waits-on side s waits)) front

-- what waits in the driver's list is calm
pub drv_calm : {K : Type 0} (e : EndState K) (m : Msg) → HoldsCalm e → slice_get e.drv 0 ≡ Some m → is_calm m.kind ≡ true
drv_calm e m holds front = all-at (λ (x : Msg). is_calm x.kind) e.drv 0 m front holds.driver

-- what a loop over the modules reads of one of them
pub has_queue_found : {K : Type 0} (side : Side) (modules : List (QueuePair K)) (i j : ℕ) (d : QueuePair K) (b : Bool) → j ≡ i + 1 → i < length modules → d ≡ slice_index_or modules i d → queues_on d.shape side ≡ b → has_queue side (identities_of modules) j ≡ b
has_queue_found side modules i j d b num within at its =
    let less : j - 1 < length modules = omega arith in
    let same : j - 1 ≡ i = omega arith in
    let place : d ≡ slice_index_or modules (j - 1) d = rw same at in
    rw (identity-found modules j, pair_at-found modules j d (omega arith) less place, marks_same side d.shape) its

-- the first of some numbers, as far as a loop has come
pub first_from-here : (f : ℕ → Bool) (at n : ℕ) → at < n → f (at + 1) ≡ true → first_from f (at + 1) (n - at) ≡ Some (at + 1)
first_from-here f at n less here = let more : n - at ≡ suc (n - (at + 1)) = omega arith in rw (more, here) refl

pub first_from-more : (f : ℕ → Bool) (at n : ℕ) → at < n → f (at + 1) ≡ false → first_from f (at + 1 + 1) (n - (at + 1)) ≡ first_from f (at + 1) (n - at)
first_from-more f at n less here = let more : n - at ≡ suc (n - (at + 1)) = omega arith in rw (more, here) refl

-- and the last
pub last_below-here : (f : ℕ → Bool) (at : ℕ) → f at ≡ true → last_below f (at + 1) ≡ Some at
last_below-here f at here = let more : at + 1 ≡ suc at = omega arith in rw (more, here) refl

pub last_below-more : (f : ℕ → Bool) (at : ℕ) → 0 < at → f at ≡ false → last_below f (at - 1 + 1) ≡ last_below f (at + 1)
last_below-more f at there here =
    let more : at + 1 ≡ suc at = omega arith in
    let less : at - 1 + 1 ≡ at = omega arith in
    rw (more, less, here) refl

past : (side : Side) (ids : List Identity) (i : ℕ) → length ids < i → has_queue side ids i ≡ false
past side ids i far =
    elim (has_queue side ids i) as (λ b. has_queue side ids i ≡ b → b ≡ false) [
      | true ↦ λ e. let within = has_queue-within side ids i e in absurd (omega arith)
      | false ↦ λ e. refl
    ] refl

last_below-past : (side : Side) (ids : List Identity) (i : ℕ) → length ids ≤ i → last_below (has_queue side ids) (length ids + 1) ≡ last_below (has_queue side ids) (i + 1)
last_below-past side ids zero far = let none : length ids ≡ 0 = omega arith in rw none refl
last_below-past side ids (suc i) far =
    elim (nat_le (length ids) i) as (λ b. nat_le (length ids) i ≡ b → last_below (has_queue side ids) (length ids + 1) ≡ last_below (has_queue side ids) (suc i + 1)) [
      | true ↦ λ e.
          let far_yet = leb-true (length ids) i e in
          let before = last_below-past side ids i far_yet in
          let more : suc i + 1 ≡ suc (suc i) = omega arith in
          let one : i + 1 ≡ suc i = omega arith in
          rw (more, past side ids (suc i) (omega arith), before, one) refl
      | false ↦ λ e. let near = leb-false (length ids) i e in let same : suc i ≡ length ids = omega arith in rw same refl
    ] refl

-- a loop from the lowest module above a place on
pub last_below-first : (side : Side) (ids : List Identity) (i : ℕ) → last_below (has_queue side ids) (min (i - 1) (length ids) + 1) ≡ last_below (has_queue side ids) i
last_below-first side ids zero = let none : min (0 - 1) (length ids) ≡ 0 = omega arith in rw none refl
last_below-first side ids (suc i) =
    elim (nat_le (length ids) i) as (λ b. nat_le (length ids) i ≡ b → last_below (has_queue side ids) (min (suc i - 1) (length ids) + 1) ≡ last_below (has_queue side ids) (suc i)) [
      | true ↦ λ e.
          let far = leb-true (length ids) i e in
          let least : min (suc i - 1) (length ids) ≡ length ids = omega arith in
          let one : i + 1 ≡ suc i = omega arith in
          rw (least, last_below-past side ids i far, one) refl
      | false ↦ λ e.
          let near = leb-false (length ids) i e in
          let least : min (suc i - 1) (length ids) + 1 ≡ suc i = omega arith in
          rw least refl
    ] refl

-- the turn of the service of a module: none for good where it is the program's
abbrev pub turn_for : Option Identity → Turn → Turn
turn_for None turn = turn
turn_for (Some id) turn = cond id.noenable Shut turn

module _ {K : Type 0} (means : Meaning K) where
  offer_is_found : (side : Side) (o : Option (QueuePair K)) → offer_found means o side ≡ cond (is_some (marks_at side (option_map identity o))) (offer_by (turn_for (option_map identity o) (turn_found means o side)) (list_found o side)) None
  offer_is_found side None = refl
  offer_is_found Rd (Some s) = refl
  offer_is_found Wr (Some s) = refl

  -- an offer is that of a queue that is there: by what the service would do, and what waits
  pub offer_is : (e : EndState K) (side : Side) (i : ℕ) → offer_at means e i side ≡ cond (has_queue side (identities_of e.modules) i) (offer_by (turn_for (identity_at (identities_of e.modules) i) (turn_at means e i side)) (list_at e i side)) None
  offer_is e side i = rw (identity-found e.modules i) (offer_is_found side (pair_at e.modules i))

pub if_some_there : {X : Type 0} (b : Bool) (o : Option X) → is_some (cond b o None) ≡ true → b ≡ true
if_some_there true o h = refl
if_some_there false o h = cc
