-- Bytes of a line that come in pieces.
use Rattle.std.proofs.Common.{◌≡◌, ℕ, zero, suc, ◌+◌, ◌-◌, ◌<◌, ◌≤◌, Bool, true, false, List, [], ◌∷◌, ◌++◌, Option, Some, None, option_map, unwrap_or, refl, ap, sym, ◌∙◌, arith, length, take, cond, not, ◌&&◌, length-take}
use Rattle.port_slip.specs.Frame.{is_end, is_esc, unescaped, meant_by, datagram_of, cut, begun, has_no_end, unfinished, Received, received, with_datagram, with_datagrams}
use Rattle.port_slip.specs.FrameLaws.{PiecesAreOneLine, RestFollows, UnfinishedIsBounded}
use Rattle.port_slip.proofs.FrameLemmas.{with_front, no_end_first}
use Rattle.std.proofs.lemmas.Option.{same_Some}

-- ---- the bytes of a datagram

take_pick : (n : ℕ) (c : Bool) (p q : ℕ) (ps qs rs ss : List ℕ) → take n ps ≡ take n rs → take n qs ≡ take n ss → take (suc n) (cond c (p ∷ ps) (q ∷ qs)) ≡ take (suc n) (cond c (p ∷ rs) (q ∷ ss))
take_pick n true p q ps qs rs ss e f = ap (λ t. p ∷ t) e
take_pick n false p q ps qs rs ss e f = ap (λ t. q ∷ t) f

-- n bytes of a datagram are spelled by at most 2 * n bytes
pub unescaped-take : (n m : ℕ) (xs more : List ℕ) → n + n ≤ m → take n (unescaped (take m xs ++ more)) ≡ take n (unescaped (xs ++ more))
unescaped-take zero m xs more h = refl
unescaped-take (suc n) zero xs more h = absurd (omega arith)
unescaped-take (suc n) (suc zero) xs more h = absurd (omega arith)
unescaped-take (suc n) (suc (suc m)) [] more h = refl
unescaped-take (suc n) (suc (suc m)) (a ∷ []) more h = refl
unescaped-take (suc n) (suc (suc m)) (a ∷ (b ∷ xs)) more h =
    take_pick n (is_esc a) (meant_by b) a _ _ _ _ (unescaped-take n m xs more (omega arith)) (unescaped-take n (suc m) (b ∷ xs) more (omega arith))

take-take-append : (m : ℕ) (xs more : List ℕ) → take m (take m xs ++ more) ≡ take m (xs ++ more)
take-take-append zero xs more = refl
take-take-append (suc m) [] more = refl
take-take-append (suc m) (x ∷ xs) more = ap (λ t. x ∷ t) (take-take-append m xs more)

-- ---- bytes that are cut at an END

abbrev pub PairOfLists : Type 0
PairOfLists = List ℕ × List ℕ

abbrev with_first : ℕ → PairOfLists → PairOfLists
with_first x c = (x ∷ c.0, c.1)

with_front-nil : (o : Option PairOfLists) → o ≡ with_front [] o
with_front-nil None = refl
with_front-nil (Some c) = refl

with_front-cons : (x : ℕ) (xs : List ℕ) (o : Option PairOfLists) → option_map (with_first x) (with_front xs o) ≡ with_front (x ∷ xs) o
with_front-cons x xs None = refl
with_front-cons x xs (Some c) = refl

-- a frame that goes on in what comes next
pub cut-unfinished : (xs more : List ℕ) → has_no_end xs ≡ true → cut (xs ++ more) ≡ with_front xs (cut more)
cut-unfinished [] more h = with_front-nil (cut more)
cut-unfinished (x ∷ xs) more h =
    let p = no_end_first x xs h in
    ap (λ t. cond t (Some ([], xs ++ more)) (option_map (with_first x) (cut (xs ++ more)))) p.0
    ∙ ap (option_map (with_first x)) (cut-unfinished xs more p.1)
    ∙ with_front-cons x xs (cut more)

no_end-take : (m : ℕ) (xs : List ℕ) → has_no_end xs ≡ true → has_no_end (take m xs) ≡ true
no_end-take zero xs h = refl
no_end-take (suc m) [] h = refl
no_end-take (suc m) (x ∷ xs) h =
    let p = no_end_first x xs h in
    ap (λ t. not t && has_no_end (take m xs)) p.0 ∙ no_end-take m xs p.1

none-map : (x : ℕ) (o : Option PairOfLists) → option_map (with_first x) o ≡ None → o ≡ None
none-map x None h = refl
none-map x (Some c) h = cc

-- bytes that no END cuts have none
pub no_end-none : (xs : List ℕ) → cut xs ≡ None → has_no_end xs ≡ true
no_end-none [] h = refl
no_end-none (x ∷ xs) h =
    let step : (e : Bool) → cond e (Some ([], xs)) (option_map (with_first x) (cut xs)) ≡ None → (not e && has_no_end xs) ≡ true =
    elim [ true ↦ λ k. cc | false ↦ λ k. no_end-none xs (none-map x (cut xs) k) ] in
    step (is_end x) h

-- a frame that has ended, behind its first byte
finished-cons : (x : ℕ) (more : List ℕ) (o p : Option PairOfLists) → ((c : PairOfLists) → o ≡ Some c → p ≡ Some (c.0, c.1 ++ more)) → (c : PairOfLists) → option_map (with_first x) o ≡ Some c → option_map (with_first x) p ≡ Some (c.0, c.1 ++ more)
finished-cons x more None p ih c h = cc
finished-cons x more (Some d) p ih c h =
    ap (option_map (with_first x)) (ih d refl)
    ∙ ap (λ (t : PairOfLists). Some (t.0, t.1 ++ more)) (same_Some (with_first x d) c h)

-- a frame that has ended
pub cut-finished : (xs more : List ℕ) (c : PairOfLists) → cut xs ≡ Some c → cut (xs ++ more) ≡ Some (c.0, c.1 ++ more)
cut-finished [] more c h = cc
cut-finished (x ∷ xs) more c h =
    let step : (e : Bool) → cond e (Some ([], xs)) (option_map (with_first x) (cut xs)) ≡ Some c → cond e (Some ([], xs ++ more)) (option_map (with_first x) (cut (xs ++ more))) ≡ Some (c.0, c.1 ++ more) =
    elim [
      | true ↦ λ k. ap (λ (t : PairOfLists). Some (t.0, t.1 ++ more)) (same_Some ([], xs) c k)
      | false ↦ λ k. finished-cons x more (cut xs) (cut (xs ++ more)) (cut-finished xs more) c k
    ] in
    step (is_end x) h

-- ---- bytes in front of a frame

-- what has begun does not begin with an END
pub begun-append_begun : (xs more : List ℕ) → begun (xs ++ more) ≡ begun (begun xs ++ more)
begun-append_begun [] more = refl
begun-append_begun (x ∷ xs) more =
    let step : (e : Bool) → is_end x ≡ e → cond e (begun (xs ++ more)) (x ∷ (xs ++ more)) ≡ begun (cond e (begun xs) (x ∷ xs) ++ more) =
    elim [
      | true ↦ λ k. begun-append_begun xs more
      | false ↦ λ k. sym (ap (λ t. cond t (begun (xs ++ more)) (x ∷ (xs ++ more))) k)
    ] in
    step (is_end x) refl

-- no END stands in front
abbrev Begins : List ℕ → Type 0
Begins [] = Unit {0}
Begins (x ∷ xs) = is_end x ≡ false

begun-begins : (xs : List ℕ) → Begins (begun xs)
begun-begins [] = tt
begun-begins (x ∷ xs) =
    let step : (e : Bool) → is_end x ≡ e → Begins (cond e (begun xs) (x ∷ xs)) =
    elim [ true ↦ λ k. begun-begins xs | false ↦ λ k. k ] in
    step (is_end x) refl

-- ---- what is received

-- what is received of bytes b without ENDs in front, which are cut as o says
abbrev pub reading : ℕ → Option PairOfLists → List ℕ → Received
reading n o b =
    unwrap_or
    (option_map (λ first. with_datagram first.0 (received n first.1)) (option_map (λ (c : PairOfLists). let d : PairOfLists = (datagram_of c.0, c.1) in d) o))
    (unfinished b)

reading-take : (n : ℕ) (xs more : List ℕ) (o : Option PairOfLists) → reading n (with_front xs o) (xs ++ more) ≡ reading n (with_front (take 2012 xs) o) (take 2012 xs ++ more)
reading-take n xs more None =
    ap (λ k. let r : Received = record { datagrams = []; kept = k } in r) (sym (take-take-append 2012 xs more))
reading-take n xs more (Some c) =
    ap (λ d. with_datagram d (received n c.1)) (sym (unescaped-take 1006 2012 xs c.0 (omega arith)))

-- what is dropped of an unfinished frame is no part of its datagram
received-take : (n : ℕ) (xs more : List ℕ) → Begins xs → has_no_end xs ≡ true → received (suc n) (xs ++ more) ≡ received (suc n) (take 2012 xs ++ more)
received-take n [] more s h = refl
received-take n (x ∷ xs) more s h =
    let all : List ℕ = x ∷ xs in
    let front : List ℕ = take 2012 all in
    ap (λ t. let b = cond t (begun (xs ++ more)) (all ++ more) in reading n (cut b) b) s
    ∙ ap (λ o. reading n o (all ++ more)) (cut-unfinished all more h)
    ∙ reading-take n all more (cut more)
    ∙ sym (ap (λ o. reading n o (front ++ more)) (cut-unfinished front more (no_end-take 2012 all h)))
    ∙ sym (ap (λ t. let b = cond t (begun (take 2011 xs ++ more)) (front ++ more) in reading n (cut b) b) s)

-- the END of the first frame has come
received-finished : (n : ℕ) (xs more : List ℕ) (c : PairOfLists) → Begins xs → cut xs ≡ Some c → received (suc n) (xs ++ more) ≡ with_datagram (datagram_of c.0) (received n (c.1 ++ more))
received-finished n [] more c s h = cc
received-finished n (x ∷ xs) more c s h =
    let all : List ℕ = x ∷ xs in
    ap (λ t. let b = cond t (begun (xs ++ more)) (all ++ more) in reading n (cut b) b) s
    ∙ ap (λ o. reading n o (all ++ more)) (cut-finished all more c h)

-- ---- the laws

pub pieces_are_one_line : PiecesAreOneLine
pieces_are_one_line zero piece more = refl
pieces_are_one_line (suc n) piece more =
    let b = begun piece in
    let skip : received (suc n) (piece ++ more) ≡ received (suc n) (b ++ more) = ap (λ t. reading n (cut t) t) (begun-append_begun piece more) in
    let step : (o : Option PairOfLists) → cut b ≡ o → received (suc n) (b ++ more) ≡ with_datagrams (reading n o b).datagrams (received (suc n - length (reading n o b).datagrams) ((reading n o b).kept ++ more)) =
    elim [
      | None ↦ λ k.
          received-take n b more (begun-begins piece) (no_end-none b k)
          ∙ ap (λ i. received i (take 2012 b ++ more)) (let e : suc n ≡ suc n - 0 = omega arith in e)
      | Some c ↦ λ k.
          let rest = received n c.1 in
          received-finished n b more c (begun-begins piece) k
          ∙ ap (with_datagram (datagram_of c.0)) (pieces_are_one_line n c.1 more)
          ∙ ap (λ i. with_datagrams (datagram_of c.0 ∷ rest.datagrams) (received i (rest.kept ++ more)))
          (let e : n - length rest.datagrams ≡ suc n - suc (length rest.datagrams) = omega arith in e)
    ] in
    skip ∙ step (cut b) refl

pub unfinished_is_bounded : UnfinishedIsBounded
unfinished_is_bounded zero bytes h = absurd (omega arith)
unfinished_is_bounded (suc n) bytes h =
    let b = begun bytes in
    let step : (o : Option PairOfLists) → length (reading n o b).datagrams < suc n → length (reading n o b).kept ≤ 2012 =
    elim [
      | None ↦ λ k. omega (arith, length-take 2012 b)
      | Some c ↦ λ k. unfinished_is_bounded n c.1 (omega arith)
    ] in
    step (cut b) h

-- no datagrams in front
with_none : (r : Received) → r ≡ with_datagrams [] r
with_none r = refl

pub rest_follows : RestFollows
rest_follows zero n bytes h =
    ap (λ k. received k bytes) (let e : zero + n ≡ n = omega arith in e) ∙ with_none (received n bytes)
rest_follows (suc m) n bytes h =
    let b = begun bytes in
    let step : (o : Option PairOfLists) → length (reading m o b).datagrams ≡ suc m → reading (m + n) o b ≡ with_datagrams (reading m o b).datagrams (received n (reading m o b).kept) =
    elim [
      | None ↦ λ k. cc
      | Some c ↦ λ k. ap (with_datagram (datagram_of c.0)) (rest_follows m n c.1 (omega (arith, k)))
    ] in
    ap (λ k. received k bytes) (let e : suc m + n ≡ suc (m + n) = omega arith in e) ∙ step (cut b) h
