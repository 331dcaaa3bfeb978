-- What a read finds, message by message.
use Rattle.std.proofs.Common.{◌≡◌, ◌∙◌, inl, inr, ℕ, ◌+◌, ◌-◌, ◌<◌, ◌≤◌, Bool, true, false, cond, nat_lt, Option, Some, None, List, [], ◌∷◌, ◌++◌, length, take, drop, slice_get, Result, Ok, Err, IfOk, append_assoc, ap, sym, refl, suc, zero, arith}
use Rattle.std.specs.List.{take_while, prefix_len}
use Rattle.std.specs.Prelude.{is_some, IfSome, ◌⊎◌}
use Rattle.std.proofs.lemmas.Bool.{cases_lt, lt-ltb, le-leb, lt-leb}
use Rattle.std.proofs.lemmas.List.{append-nil, length-append, length-take, take_all, take-append-le, take_more, drop_more, drop-drop}
use Rattle.std.proofs.lemmas.List.Concat.{flat_map-append}
use Rattle.std.proofs.lemmas.List.Sums.{take_while-cons}
use Rattle.std.proofs.lemmas.Option.{same_Some, slice_get_within, get_or_from_slice_get}
use Rattle.strm_msg.specs.Message.{Msg, Part, part_len}
use Rattle.strm_msg.specs.declared.words.End.{End}
use Rattle.strm_msg.specs.declared.words.End.TheVariants.{A, B}
use Rattle.strm_msg.specs.declared.words.Prot.{Prot}
use Rattle.strm_msg.specs.declared.words.ReadMode.{ReadMode}
use Rattle.strm_msg.specs.declared.words.ReadMode.TheVariants.{Rnorm, Rmsgn, Rmsgd}
use Rattle.strm_chain_ends.specs.Image.{Image, end_of, with_head}
use Rattle.strm_head_calls.specs.declared.answer.Reply.{Reply}
use Rattle.strm_head_calls.specs.declared.answer.Reply.TheVariants as Replies
use Rattle.strm_head_calls.specs.Cut.{left_of}
use Rattle.strm_chain_end.specs.First.{put_back_if}
use Rattle.strm_head_read.specs.Read.{read_effect, bytes_in, bytes_read, bytes_of_all, goes_on_to, reached, whole_in, rest_of, cut_first, read_of, bytes_of_first, IsAlone, Reading, IsReadAlone, LeavesAsRead}

-- ---- bytes of one message

-- the front of two lists one after the other
take_of_two : {X : Type 0} (n : ℕ) (xs ys : List X) → take n (xs ++ ys) ≡ take n xs ++ take (n - length xs) ys
take_of_two zero xs ys = let e : zero - length xs ≡ 0 = omega arith in rw e refl
take_of_two (suc n) [] ys = let e : suc n - 0 ≡ suc n = omega arith in rw e refl
take_of_two (suc n) (x ∷ xs) ys =
    let e : suc n - length (x ∷ xs) ≡ n - length xs = omega arith in rw e (ap (λ l. x ∷ l) (take_of_two n xs ys))

length_of_part : (part : Part) → length (bytes_in part) ≡ part_len part
length_of_part None = refl
length_of_part (Some bytes) = refl

-- control and then data are added, at most n bytes together
pub both_added : (n left : ℕ) (ctl : Part) (dat out mid new : List ℕ) → left ≡ n - part_len ctl → mid ≡ out ++ take n (bytes_in ctl) → new ≡ mid ++ take left dat → new ≡ out ++ take n (bytes_in ctl ++ dat)
both_added n left ctl dat out mid new l m e =
    rw (take_of_two n (bytes_in ctl) dat, length_of_part ctl, ← l, ← append_assoc out (take n (bytes_in ctl)) (take left dat), ← m) e

-- ---- the messages that a read may reach

-- an element, if it passes a test
abbrev pub if_passing : {X : Type 0} → (X → Bool) → Option X → Option X
if_passing p None = None
if_passing p (Some x) = cond (p x) (Some x) None

-- up to the first element that fails, each one is there if it passes
slice_get-take_while : {X : Type 0} (p : X → Bool) (xs : List X) (i : ℕ) → i ≤ length (take_while p xs) → slice_get (take_while p xs) i ≡ if_passing p (slice_get xs i)
slice_get-take_while p [] i h = refl
slice_get-take_while {X} p (x ∷ xs) zero h =
    rw (take_while-cons p x xs)
    (elim (p x) as (λ b. slice_get {X = X} (cond b (x ∷ take_while p xs) []) 0 ≡ cond b (Some x) None) [
      | true ↦ refl
      | false ↦ refl
    ])
slice_get-take_while {X} p (x ∷ xs) (suc i) h =
    let more : i < length (cond (p x) (x ∷ take_while p xs) []) = rw (take_while-cons p x xs) at h in
    rw (take_while-cons p x xs)
    (elim (p x) as (λ b. i < length (cond b (x ∷ take_while p xs) []) → slice_get {X = X} (cond b (x ∷ take_while p xs) []) (suc i) ≡ if_passing p (slice_get xs i)) [
      | true ↦ λ l. slice_get-take_while p xs i (omega (arith, l))
      | false ↦ λ l. absurd (omega (arith, l))
    ] more)

-- behind a first message with bytes a byte-stream read reaches those to which it goes on
pub reached_behind : (prot : Prot) (q : List Msg) (first : Msg) (i : ℕ) → Some first ≡ slice_get q 0 → 0 < length (bytes_read prot first) → 0 < i → i ≤ length (reached Rnorm prot q) → slice_get (reached Rnorm prot q) i ≡ if_passing (goes_on_to prot) (slice_get q i)
reached_behind prot [] first i e some h within = cc
reached_behind prot (m ∷ q) first zero e some h within = absurd (omega arith)
reached_behind prot (m ∷ q) first (suc i) e some h within =
    let same : first ≡ m = cc in
    let long = lt-ltb 0 (length (bytes_read prot m)) (rw same at some) in
    let fits = rw long at within in
    rw long (slice_get-take_while (goes_on_to prot) q i (omega (arith, fits)))

pub reached_within : (mode : ReadMode) (prot : Prot) (q : List Msg) → length (reached mode prot q) ≤ length q
reached_within mode prot [] = omega arith
reached_within Rnorm prot (m ∷ q) =
    elim (nat_lt 0 (length (bytes_read prot m))) as (λ b. length (m ∷ cond b (take_while (goes_on_to prot) q) []) ≤ suc (length q)) [
      | true ↦ omega (arith, length-take (prefix_len (goes_on_to prot) q) q)
      | false ↦ omega arith
    ]
reached_within Rmsgn prot (m ∷ q) = omega arith
reached_within Rmsgd prot (m ∷ q) = omega arith

-- ---- messages that are given whole

module _ (prot : Prot) (n : ℕ) (reach : List Msg) (i : ℕ) (m : Msg) (at : slice_get reach i ≡ Some m) where
  first_left : drop i reach ≡ m ∷ drop (i + 1) reach
  first_left =
      drop_more reach i m (slice_get_within reach i m at) ∙ ap (λ x. x ∷ drop (i + 1) reach) (get_or_from_slice_get reach i m m at)

  one_more : take (i + 1) reach ≡ take i reach ++ (m ∷ [])
  one_more =
      take_more reach i m (slice_get_within reach i m at) ∙ ap (λ x. take i reach ++ (x ∷ [])) (get_or_from_slice_get reach i m m at)

  whole_more : length (bytes_read prot m) ≤ n → whole_in prot n (drop i reach) ≡ suc (whole_in prot (n - length (bytes_read prot m)) (drop (i + 1) reach))
  whole_more h = rw (first_left, le-leb (length (bytes_read prot m)) n h) refl

  whole_stops : n < length (bytes_read prot m) → whole_in prot n (drop i reach) ≡ 0
  whole_stops h = rw (first_left, lt-leb (length (bytes_read prot m)) n h) refl

  bytes_more : bytes_of_all prot (take (i + 1) reach) ≡ bytes_of_all prot (take i reach) ++ bytes_read prot m
  bytes_more =
      rw (one_more, flat_map-append (bytes_read prot) (take i reach) (m ∷ []), append-nil (bytes_read prot m)) refl

-- the first i messages that a read of at most n bytes reaches are given whole, with these bytes
pub record IsGiven (prot : Prot) (n : ℕ) (reach : List Msg) (i : ℕ) (bytes : List ℕ) : Type 0 where
  pub within : i ≤ length reach
  pub given : bytes ≡ bytes_of_all prot (take i reach)
  pub most : length bytes ≤ n
  pub count : i + whole_in prot (n - length bytes) (drop i reach) ≡ whole_in prot n reach

pub given_more : (prot : Prot) (n : ℕ) (reach : List Msg) (i : ℕ) (bytes new : List ℕ) (m : Msg) → IsGiven prot n reach i bytes → slice_get reach i ≡ Some m → length (bytes_read prot m) ≤ n - length bytes → new ≡ bytes ++ take (n - length bytes) (bytes_read prot m) → IsGiven prot n reach (i + 1) new
given_more prot n reach i bytes new m was at fits e =
    let all : new ≡ bytes ++ bytes_read prot m = e ∙ ap (λ l. bytes ++ l) (take_all (n - length bytes) (bytes_read prot m) fits) in
    let size : length new ≡ length bytes + length (bytes_read prot m) = ap length all ∙ length-append bytes (bytes_read prot m) in
    let short = was.most in
    let left : n - length new ≡ n - length bytes - length (bytes_read prot m) = omega (arith, size) in
    let more = whole_more prot (n - length bytes) reach i m at fits in
    record {
      within = let here = slice_get_within reach i m at in omega (arith, here);
      given = all ∙ ap (λ l. l ++ bytes_read prot m) was.given ∙ sym (bytes_more prot n reach i m at);
      most = omega (arith, size, short, fits);
      count = rw left (omega (arith, was.count, more));
    }

pub given_stops : (prot : Prot) (n : ℕ) (reach : List Msg) (i : ℕ) (bytes : List ℕ) (m : Msg) → IsGiven prot n reach i bytes → slice_get reach i ≡ Some m → n - length bytes < length (bytes_read prot m) → i ≡ whole_in prot n reach
given_stops prot n reach i bytes m was at long =
    omega (arith, was.count, whole_stops prot (n - length bytes) reach i m at long)

nothing_left : {X : Type 0} (xs : List X) (i : ℕ) → slice_get xs i ≡ None → drop i xs ≡ []
nothing_left [] zero h = refl
nothing_left [] (suc i) h = refl
nothing_left (x ∷ xs) zero h = cc
nothing_left (x ∷ xs) (suc i) h = nothing_left xs i h

pub given_all : (prot : Prot) (n : ℕ) (reach : List Msg) (i : ℕ) (bytes : List ℕ) → IsGiven prot n reach i bytes → slice_get reach i ≡ None → i ≡ whole_in prot n reach
given_all prot n reach i bytes was none =
    let end : whole_in prot (n - length bytes) (drop i reach) ≡ 0 = rw (nothing_left reach i none) refl in
    omega (arith, was.count, end)

-- ---- the next message, of which some bytes are given

-- the bytes of a message, if there is one
abbrev bytes_at : Prot → Option Msg → List ℕ
bytes_at prot None = []
bytes_at prot (Some m) = bytes_read prot m

take_none : (n : ℕ) → take {A = ℕ} n [] ≡ []
take_none zero = refl
take_none (suc n) = refl

two_found : (n : ℕ) (b rest xs ys : List ℕ) → length b ≤ n → take (n - length b) rest ≡ xs ++ take (n - length b - length xs) ys → take n (b ++ rest) ≡ (b ++ xs) ++ take (n - length (b ++ xs)) ys
two_found n b rest xs ys h e =
    let left : n - length (b ++ xs) ≡ n - length b - length xs = omega (arith, length-append b xs) in
    take_of_two n b rest ∙ rw (take_all n b h, left, append_assoc b xs (take (n - length b - length xs) ys)) (ap (λ l. b ++ l) e)

-- what is read of messages: the whole ones, and the front of the next
bytes_found : (prot : Prot) (n : ℕ) (reach : List Msg) → let whole = whole_in prot n reach in take n (bytes_of_all prot reach) ≡ bytes_of_all prot (take whole reach) ++ take (n - length (bytes_of_all prot (take whole reach))) (bytes_at prot (slice_get reach whole))
bytes_found prot n [] = take_none n ∙ sym (take_none (n - 0))
bytes_found prot n (m ∷ q) =
    let b = bytes_read prot m in
    let left : n - 0 ≡ n = omega arith in
    elim (cases_lt n (length (bytes_read prot m))) [
      | inl h ↦ rw (lt-leb (length b) n h, left) (take-append-le n b (bytes_of_all prot q) (omega (arith, h)))
      | inr h ↦
          let w = whole_in prot (n - length b) q in
          rw (le-leb (length b) n h)
          (two_found n b (bytes_of_all prot q) (bytes_of_all prot (take w q)) (bytes_at prot (slice_get q w)) h (bytes_found prot (n - length b) q))
    ]

-- a message of which some bytes are read goes, and its rest comes back
cut_here : (mode : ReadMode) (prot : Prot) (left : ℕ) (m : Msg) (q : List Msg) → 0 < left → cut_first mode prot left (Some m) q ≡ put_back_if (drop 1 q) (rest_of mode prot left m)
cut_here mode prot zero m q h = absurd (omega arith)
cut_here mode prot (suc n) m q h = refl

module _ (mode : ReadMode) (prot : Prot) (n : ℕ) (q : List Msg) (count : ℕ) (bytes : List ℕ) (is_count : count ≡ whole_in prot n (reached mode prot q)) (are_bytes : bytes ≡ bytes_of_all prot (take count (reached mode prot q))) where
  -- what a read gives, where the whole messages are known
  read_bytes : (read_of mode prot n q).bytes ≡ bytes ++ take (n - length bytes) (bytes_at prot (slice_get (reached mode prot q) count))
  read_bytes = rw (are_bytes, is_count) (bytes_found prot n (reached mode prot q))

  read_stays : (read_of mode prot n q).stays ≡ cut_first mode prot (n - length bytes) (slice_get (reached mode prot q) count) (drop count q)
  read_stays = rw (are_bytes, is_count) refl

  pub cut_bytes : (m : Msg) (new : List ℕ) → slice_get (reached mode prot q) count ≡ Some m → new ≡ bytes ++ take (n - length bytes) (bytes_read prot m) → new ≡ (read_of mode prot n q).bytes
  cut_bytes m new at e = e ∙ sym (rw at at read_bytes)

  pub cut_stays : (m : Msg) (rest : Option Msg) → slice_get (reached mode prot q) count ≡ Some m → 0 < n - length bytes → rest ≡ rest_of mode prot (n - length bytes) m → put_back_if (drop (count + 1) q) rest ≡ (read_of mode prot n q).stays
  cut_stays m rest at some e =
      let here = cut_here mode prot (n - length bytes) m (drop count q) some in
      let behind = drop-drop 1 count q in
      rw (e, read_stays, at, here, behind) refl

  pub last_bytes : slice_get (reached mode prot q) count ≡ None → bytes ≡ (read_of mode prot n q).bytes
  last_bytes none = sym (read_bytes ∙ rw (none, take_none (n - length bytes)) (append-nil bytes))

  pub full_bytes : n - length bytes ≡ 0 → bytes ≡ (read_of mode prot n q).bytes
  full_bytes full = sym (read_bytes ∙ rw full (append-nil bytes))

-- ---- messages that are taken from the head

-- one more message is taken from the list of one end
pub head_drops : {K : Type 0} (image now new : Image K) (e : End) (i : ℕ) → now ≡ with_head image e (drop i (end_of image e).head) → new ≡ with_head now e (drop 1 (end_of now e).head) → new ≡ with_head image e (drop (i + 1) (end_of image e).head)
head_drops image now new A i was e = e ∙ rw was (ap (with_head image A) (drop-drop 1 i image.a.head))
head_drops image now new B i was e = e ∙ rw was (ap (with_head image B) (drop-drop 1 i image.b.head))

pub no_part : (part : Part) → false ≡ is_some part → part ≡ None
no_part None none = refl
no_part (Some bytes) none = cc

-- ---- a first message of which a read takes bytes alone

-- of a message without control a read gives the data
data_alone : (prot : Prot) (m : Msg) → m.ctl ≡ None → bytes_read prot m ≡ bytes_in m.dat
data_alone Prot.Norm m bare = refl
data_alone Prot.Dat m bare = rw bare refl
data_alone Prot.Dis m bare = refl

size_alone : (prot : Prot) (m : Msg) → m.ctl ≡ None → length (bytes_read prot m) ≡ part_len m.dat
size_alone prot m bare = ap length (data_alone prot m bare) ∙ length_of_part m.dat

-- and leaves the same of it under each protocol
rest_alone : (mode : ReadMode) (prot : Prot) (n : ℕ) (m : Msg) → m.ctl ≡ None → rest_of mode prot n m ≡ rest_of mode Prot.Dis n m
rest_alone Rmsgd prot n m bare = refl
rest_alone Rnorm Prot.Norm n m bare = rw bare refl
rest_alone Rnorm Prot.Dat n m bare = let all : n - 0 ≡ n = omega arith in rw (bare, all) refl
rest_alone Rnorm Prot.Dis n m bare = refl
rest_alone Rmsgn Prot.Norm n m bare = rw bare refl
rest_alone Rmsgn Prot.Dat n m bare = let all : n - 0 ≡ n = omega arith in rw (bare, all) refl
rest_alone Rmsgn Prot.Dis n m bare = refl

left_none : (n : ℕ) (part : Part) → part_len part ≤ n → left_of (Some n) part ≡ None
left_none n None h = refl
left_none n (Some bytes) h = rw (le-leb (length bytes) n h) refl

-- nothing, where it is read whole
rest_none : (mode : ReadMode) (n : ℕ) (m : Msg) → m.ctl ≡ None → part_len m.dat ≤ n → rest_of mode Prot.Dis n m ≡ None
rest_none Rmsgd n m bare fits = refl
rest_none Rnorm n m bare fits = rw (bare, left_none n m.dat fits) refl
rest_none Rmsgn n m bare fits = rw (bare, left_none n m.dat fits) refl

reached_first : (mode : ReadMode) (prot : Prot) (q : List Msg) → slice_get (reached mode prot q) 0 ≡ slice_get q 0
reached_first mode prot [] = refl
reached_first Rnorm prot (m ∷ q) = refl
reached_first Rmsgn prot (m ∷ q) = refl
reached_first Rmsgd prot (m ∷ q) = refl

module _ (mode : ReadMode) (prot : Prot) (n : ℕ) (q : List Msg) (m : Msg) (some : 0 < n) (first : Some m ≡ slice_get q 0) (bare : m.ctl ≡ None) where
  reach_at : slice_get (reached mode prot q) 0 ≡ Some m
  reach_at = reached_first mode prot q ∙ sym first

  left : n - 0 ≡ n
  left = omega arith

  -- of a long one a read gives the front
  long_count : n < part_len m.dat → 0 ≡ whole_in prot n (reached mode prot q)
  long_count h = sym (whole_stops prot n (reached mode prot q) 0 m reach_at (rw (size_alone prot m bare) h))

  long_bytes : n < part_len m.dat → (new : List ℕ) → new ≡ take n (bytes_in m.dat) → new ≡ (read_of mode prot n q).bytes
  long_bytes h new is = cut_bytes mode prot n q 0 [] (long_count h) refl m new reach_at (rw (left, data_alone prot m bare) is)

  long_stays : n < part_len m.dat → (rest : Option Msg) → rest ≡ rest_of mode Prot.Dis n m → put_back_if (drop 1 q) rest ≡ (read_of mode prot n q).stays
  long_stays h rest is =
      cut_stays mode prot n q 0 [] (long_count h) refl m rest reach_at (rw left some) (rw (left, rest_alone mode prot n m bare) is)

  -- of a short one that is reached alone it gives all
  module _ (fits : part_len m.dat ≤ n) (none : None ≡ slice_get (reached mode prot q) 1) where
    short_count : 1 ≡ whole_in prot n (reached mode prot q)
    short_count = sym (whole_more prot n (reached mode prot q) 0 m reach_at (rw (size_alone prot m bare) fits) ∙ rw (nothing_left (reached mode prot q) 1 (sym none)) refl)

    short_bytes_of : bytes_read prot m ≡ bytes_of_all prot (take 1 (reached mode prot q))
    short_bytes_of = sym (bytes_more prot n (reached mode prot q) 0 m reach_at)

    short_bytes : (new : List ℕ) → new ≡ take n (bytes_in m.dat) → new ≡ (read_of mode prot n q).bytes
    short_bytes new is =
        is ∙ take_all n (bytes_in m.dat) (rw (length_of_part m.dat) fits) ∙ sym (data_alone prot m bare)
        ∙ last_bytes mode prot n q 1 (bytes_read prot m) short_count short_bytes_of (sym none)

    short_stays : (rest : Option Msg) → rest ≡ rest_of mode Prot.Dis n m → put_back_if (drop 1 q) rest ≡ (read_of mode prot n q).stays
    short_stays rest is =
        rw (is, rest_none mode n m bare fits, read_stays mode prot n q 1 (bytes_read prot m) short_count short_bytes_of, ← none) refl

  -- of each that a read takes bytes of alone
  pub alone_bytes : (n < part_len m.dat) ⊎ (None ≡ slice_get (reached mode prot q) 1) → (new : List ℕ) → new ≡ take n (bytes_in m.dat) → new ≡ (read_of mode prot n q).bytes
  alone_bytes (inl h) new is = long_bytes h new is
  alone_bytes (inr none) new is = elim (cases_lt n (part_len m.dat)) [
    | inl h ↦ long_bytes h new is
    | inr h ↦ short_bytes h none new is
  ]

  pub alone_stays : (n < part_len m.dat) ⊎ (None ≡ slice_get (reached mode prot q) 1) → (rest : Option Msg) → rest ≡ rest_of mode Prot.Dis n m → put_back_if (drop 1 q) rest ≡ (read_of mode prot n q).stays
  alone_stays (inl h) rest is = long_stays h rest is
  alone_stays (inr none) rest is = elim (cases_lt n (part_len m.dat)) [
    | inl h ↦ long_stays h rest is
    | inr h ↦ short_stays h none rest is
  ]

-- what is found in it, unless memory runs out
module _ (mode : ReadMode) (prot : Prot) (n : ℕ) (q : List Msg) (m : Msg) (some : 0 < n) (is : IsReadAlone mode prot n q m) where
  pub first_bytes : {F X : Type 0} (bytes_of : F → List ℕ) (r : Result F X) → IfOk r (λ found. bytes_of found ≡ take n (bytes_in m.dat)) → IfOk r (λ found. bytes_of found ≡ (read_of mode prot n q).bytes)
  first_bytes bytes_of (Ok found) are = alone_bytes mode prot n q m some is.first is.bare is.alone (bytes_of found) are
  first_bytes bytes_of (Err wanting) are = tt

  pub first_stays : {F X : Type 0} (gone_of : F → ℕ) (rest : F → Option Msg) (r : Result F X) → IfOk r (λ found. gone_of found ≡ 1) → IfOk r (λ found. rest found ≡ rest_of mode Prot.Dis n m) → IfOk r (λ found. LeavesAsRead mode prot n q (gone_of found) (rest found))
  first_stays gone_of rest (Ok found) gone are = rw gone (alone_stays mode prot n q m some is.first is.bare is.alone (rest found) are)
  first_stays gone_of rest (Err wanting) gone are = tt

-- ---- the only message, which has data alone

-- a message that is the only one, and has data alone
pub is_alone : (n : ℕ) (q : List Msg) (m : Msg) → length q ≡ 1 → Some m ≡ slice_get q 0 → m.ctl ≡ None → is_some m.dat ≡ true → part_len m.dat ≤ n → IsAlone n q
is_alone n [] m one first bare has fits = cc
is_alone n (x ∷ []) m one first bare has fits =
    let same : m ≡ x = same_Some m x first in
    record {
      m = m;
      only = ap (λ y. y ∷ []) (sym same);
      bare = bare;
      given = has;
      fits = fits;
    }
is_alone n (x ∷ y ∷ q) m one first bare has fits = absurd (omega (arith, one))

reach_alone : (mode : ReadMode) (prot : Prot) (m : Msg) → reached mode prot (m ∷ []) ≡ m ∷ []
reach_alone Rnorm prot m = elim (nat_lt 0 (length (bytes_read prot m))) as (λ b. m ∷ cond b (take_while (goes_on_to prot) []) [] ≡ m ∷ []) [
  | true ↦ refl
  | false ↦ refl
]
reach_alone Rmsgn prot m = refl
reach_alone Rmsgd prot m = refl

-- a reply that gives the data
given_part : (part : Part) (reply : Reply) → is_some part ≡ true → IfSome part (λ bytes. reply ≡ Replies.Read bytes) → reply ≡ Replies.Read (bytes_in part)
given_part None reply has said = cc
given_part (Some bytes) reply has said = said

read_alone : (mode : ReadMode) (prot : Prot) (n : ℕ) (m : Msg) → m.ctl ≡ None → part_len m.dat ≤ n → read_of mode prot n (m ∷ []) ≡ record { bytes = bytes_in m.dat; stays = [] }
read_alone mode prot n m bare fits =
    let size : length (bytes_in m.dat) ≤ n = rw (length_of_part m.dat) fits in
    rw (reach_alone mode prot m, data_alone prot m bare, le-leb (length (bytes_in m.dat)) n size, append-nil (bytes_in m.dat), take_all n (bytes_in m.dat) size) refl

-- the reply of a read of the only message, and what stays
one_reply : {K : Type 0} (image : Image K) (e : End) (n : ℕ) (messages : List Msg) (reply : Reply) → (n ≡ 0 → ⊥) → messages ≡ (end_of image e).head → IsAlone n messages → IfSome (bytes_of_first (end_of image e).head) (λ bytes. reply ≡ Replies.Read bytes) → reply ≡ (read_effect image e n).reply
one_reply image e zero messages reply some is alone said = absurd (some refl)
one_reply image e (suc n) messages reply some is alone said =
    let one = sym is ∙ alone.only in
    let state = (end_of image e).state in
    let reads = read_alone state.mode state.prot (suc n) alone.m alone.bare alone.fits in
    rw one (given_part alone.m.dat reply alone.given (rw one at said) ∙ sym (ap (λ (r : Reading). Replies.Read r.bytes) reads))

pub alone_reply : {K A X : Type 0} (image : Image K) (e : End) (n : ℕ) (messages : List Msg) (says : A → Reply) (r : Result A X) → (n ≡ 0 → ⊥) → messages ≡ (end_of image e).head → IsAlone n messages → IfOk r (λ reply. IfSome (bytes_of_first (end_of image e).head) (λ bytes. says reply ≡ Replies.Read bytes)) → IfOk r (λ reply. says reply ≡ (read_effect image e n).reply)
alone_reply image e n messages says (Ok reply) some is alone said = one_reply image e n messages (says reply) some is alone said
alone_reply image e n messages says (Err wanting) some is alone said = tt

pub alone_image : {K : Type 0} (image new : Image K) (e : End) (n : ℕ) (messages : List Msg) → (n ≡ 0 → ⊥) → messages ≡ (end_of image e).head → IsAlone n messages → new ≡ with_head image e (drop 1 (end_of image e).head) → new ≡ (read_effect image e n).image
alone_image image new e zero messages some is alone made = absurd (some refl)
alone_image image new e (suc n) messages some is alone made =
    let one = sym is ∙ alone.only in
    let state = (end_of image e).state in
    let reads = read_alone state.mode state.prot (suc n) alone.m alone.bare alone.fits in
    rw one ((rw one at made) ∙ sym (ap (λ (r : Reading). with_head image e r.stays) reads))

-- it has data
pub alone_data : (n : ℕ) (messages : List Msg) → IsAlone n messages → is_some (bytes_of_first messages) ≡ true
alone_data n messages alone = rw alone.only alone.given

-- ---- any read

-- the reply of a read of some bytes
pub read_reply : {K : Type 0} (image : Image K) (e : End) (n : ℕ) (bytes : List ℕ) (messages : List Msg) → (n ≡ 0 → ⊥) → messages ≡ (end_of image e).head → bytes ≡ (read_of (end_of image e).state.mode (end_of image e).state.prot n messages).bytes → Replies.Read bytes ≡ (read_effect image e n).reply
read_reply image e zero bytes messages some is same = absurd (some refl)
read_reply image e (suc n) bytes messages some is same = rw (same, is) refl
