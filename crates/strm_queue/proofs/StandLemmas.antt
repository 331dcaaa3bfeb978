-- The one lane in which a message stands.
use Rattle.std.proofs.Common.{◌≡◌, ℕ, ◌+◌, ◌<◌, ◌≤◌, ◌==◌, ◌&&◌, ◌||◌, nat_le, nat_lt, not, Bool, true, false, cond, List, [], ◌∷◌, length, filter, sum_by, ap, refl, sym, ◌∙◌, arith}
use Rattle.std.proofs.Math.Dec.{eqb-suc-zero}
use Rattle.std.specs.Prelude.{if◌then◌else◌}
use Rattle.std.specs.List.{list_all, list_any}
use Rattle.std.proofs.lemmas.Bool.{lt-ltb, le-leb}
use Rattle.std.proofs.lemmas.Bool.Decides.{nat_tests}
use Rattle.std.proofs.lemmas.List.Sums.{sum_by-cons}
use Rattle.strm_msg.specs.Message.{Msg, rank_of, weight_of}
use Rattle.strm_msg.specs.Kind.{is_high}
use Rattle.strm_msg.specs.declared.kind.MsgKind.{MsgKind}
use Rattle.strm_msg.specs.declared.kind.MsgKind.TheVariants.{MPcproto}
use Rattle.strm_queue.specs.Queue.{is_flushed, is_of_band, is_pcproto, weight_in, held_of, flush_band_of}
use Rattle.strm_queue.specs.Lanes.{is_of_rank}
use Rattle.strm_queue.proofs.ListLemmas.{all_so, filter_so, filter_true, filter_false, filter_ext, filter_twice}

-- ---- the lane of a message

one_lane : (high : Bool) (a b band : ℕ) → (if high then a == 256 else (nat_lt a 256 && (band == a))) ≡ true → (if high then b == 256 else (nat_lt b 256 && (band == b))) ≡ (a == b)
one_lane true a b band h = grind (arith, nat_tests)
one_lane false a b band h = grind (arith, nat_tests)

-- a message of one lane stands in another only if it is the same
pub stands_elsewhere : (a b : ℕ) (m : Msg) → is_of_rank a m ≡ true → is_of_rank b m ≡ (a == b)
stands_elsewhere a b m h = one_lane (is_high m.kind) a b m.band h

its_rank : (high : Bool) (a band : ℕ) → (if high then a == 256 else (nat_lt a 256 && (band == a))) ≡ true → (if high then 256 else band) ≡ a
its_rank true a band h = grind (arith, nat_tests)
its_rank false a band h = grind (arith, nat_tests)

-- a message stands in the lane of its rank
pub rank_of-stands : (a : ℕ) (m : Msg) → is_of_rank a m ≡ true → rank_of m ≡ a
rank_of-stands a m h = its_rank (is_high m.kind) a m.band h

-- messages of a lane have at least what its rank reaches
pub all_reach : (least a : ℕ) (q : List Msg) → least ≤ a → list_all (is_of_rank a) q ≡ true → list_all (λ m. nat_le least (rank_of m)) q ≡ true
all_reach least a q le h = all_so (is_of_rank a) (λ m. nat_le least (rank_of m)) q (λ m stands. let rank = rank_of-stands a m stands in rw rank (le-leb least a le)) h

pub all_below : (most a : ℕ) (q : List Msg) → a < most → list_all (is_of_rank a) q ≡ true → list_all (λ m. nat_lt (rank_of m) most) q ≡ true
all_below most a q less h = all_so (is_of_rank a) (λ m. nat_lt (rank_of m) most) q (λ m stands. let rank = rank_of-stands a m stands in rw rank (lt-ltb a most less)) h

pub filter_own : (a b : ℕ) (q : List Msg) → (a == b) ≡ true → list_all (is_of_rank a) q ≡ true → filter (is_of_rank b) q ≡ q
filter_own a b q same h = rw (filter_so (is_of_rank a) (is_of_rank b) (λ _. true) q (λ m stands. rw (stands_elsewhere a b m stands) same) h) (filter_true q)

pub filter_other : (a b : ℕ) (q : List Msg) → (a == b) ≡ false → list_all (is_of_rank a) q ≡ true → filter (is_of_rank b) q ≡ []
filter_other a b q other h = rw (filter_so (is_of_rank a) (is_of_rank b) (λ _. false) q (λ m stands. rw (stands_elsewhere a b m stands) other) h) (filter_false q)

-- ---- the lanes of a band

-- a band above 0 has what stands in its lane
pub ordinary_band : (band : ℕ) (m : Msg) → (band == 0) ≡ false → band < 256 → is_of_band band m ≡ is_of_rank band m
ordinary_band band m other less = by_class (is_high m.kind)
  where
    by_class : (high : Bool) → (if high then band == 0 else (m.band == band)) ≡ (if high then band == 256 else (nat_lt band 256 && (m.band == band)))
    by_class true = grind (arith, nat_tests)
    by_class false = grind (arith, nat_tests)

-- an ordinary message or a high one is of band 0
zero_band : (high : Bool) (band : ℕ) → (if high then 0 == 0 else (band == 0)) ≡ ((if high then 0 == 256 else (nat_lt 0 256 && (band == 0))) || (if high then 256 == 256 else (nat_lt 256 256 && (band == 256))))
zero_band true band = refl
zero_band false band = grind (arith, nat_tests)

pub band_zero : (m : Msg) → is_of_band 0 m ≡ (is_of_rank 0 m || is_of_rank 256 m)
band_zero m = zero_band (is_high m.kind) m.band

pub not_in_both : (m : Msg) → (is_of_rank 0 m && is_of_rank 256 m) ≡ false
not_in_both m = by_class (is_high m.kind)
  where
    by_class : (high : Bool) → ((if high then 0 == 256 else (nat_lt 0 256 && (m.band == 0))) && (if high then 256 == 256 else (nat_lt 256 256 && (m.band == 256)))) ≡ false
    by_class true = refl
    by_class false = grind (arith, nat_tests)

-- ---- what a band holds

-- a band above 0 holds what stands in its lane
pub held-ordinary : (band : ℕ) (q : List Msg) → (band == 0) ≡ false → band < 256 → held_of q band ≡ sum_by weight_of (filter (is_of_rank band) q)
held-ordinary band [] other less = refl
held-ordinary band (x ∷ q) other less =
    let rest = held-ordinary band q other less in
    let sum = sum_by-cons (weight_in band) x q in
    let here = ordinary_band band x other less in
    elim (is_of_rank band x) as (λ b. is_of_rank band x ≡ b → held_of (x ∷ q) band ≡ sum_by weight_of (cond b (x ∷ filter (is_of_rank band) q) (filter (is_of_rank band) q))) [
      | true ↦ λ e.
          let mine : weight_in band x ≡ weight_of x = rw (here, e) refl in
          let more = sum_by-cons weight_of x (filter (is_of_rank band) q) in
          omega (arith, rest, sum, mine, more)
      | false ↦ λ e.
          let mine : weight_in band x ≡ 0 = rw (here, e) refl in
          omega (arith, rest, sum, mine)
    ] refl

weight_zero : (m : Msg) (a b : Bool) → is_of_rank 0 m ≡ a → is_of_rank 256 m ≡ b → weight_in 0 m ≡ (if a || b then weight_of m else 0)
weight_zero m a b d e = ap (λ s. if s then weight_of m else 0) (band_zero m ∙ ap (λ s. s || is_of_rank 256 m) d ∙ ap (λ s. a || s) e)

-- band 0 holds the high messages too
pub held-zero : (q : List Msg) → held_of q 0 ≡ sum_by weight_of (filter (is_of_rank 0) q) + sum_by weight_of (filter (is_of_rank 256) q)
held-zero [] = refl
held-zero (x ∷ q) =
    let rest = held-zero q in
    let sum = sum_by-cons (weight_in 0) x q in
    let low = sum_by-cons weight_of x (filter (is_of_rank 0) q) in
    let high = sum_by-cons weight_of x (filter (is_of_rank 256) q) in
    let weight = weight_zero x in
    elim (is_of_rank 0 x) as (λ a. is_of_rank 0 x ≡ a → held_of (x ∷ q) 0 ≡ sum_by weight_of (cond a (x ∷ filter (is_of_rank 0) q) (filter (is_of_rank 0) q)) + sum_by weight_of (filter (is_of_rank 256) (x ∷ q))) [
      | true ↦ λ d. elim (is_of_rank 256 x) as (λ b. is_of_rank 256 x ≡ b → held_of (x ∷ q) 0 ≡ sum_by weight_of (x ∷ filter (is_of_rank 0) q) + sum_by weight_of (cond b (x ∷ filter (is_of_rank 256) q) (filter (is_of_rank 256) q))) [
        | true ↦ λ e. let no_both : true ≡ false = ap (λ s. s && true) (sym d) ∙ ap (λ s. is_of_rank 0 x && s) (sym e) ∙ not_in_both x in cc
        | false ↦ λ e. omega (arith, rest, sum, weight true false d e, low)
      ] refl
      | false ↦ λ d. elim (is_of_rank 256 x) as (λ b. is_of_rank 256 x ≡ b → held_of (x ∷ q) 0 ≡ sum_by weight_of (filter (is_of_rank 0) q) + sum_by weight_of (cond b (x ∷ filter (is_of_rank 256) q) (filter (is_of_rank 256) q))) [
        | true ↦ λ e. omega (arith, rest, sum, weight false true d e, high)
        | false ↦ λ e. omega (arith, rest, sum, weight false false d e)
      ] refl
    ] refl

-- ---- flushes

-- what a flush of a band above 0 leaves
pub flush-ordinary : (band : ℕ) (q : List Msg) → (band == 0) ≡ false → band < 256 → filter (λ m. not (is_flushed m.kind && is_of_rank band m)) q ≡ flush_band_of band q
flush-ordinary band q other less =
    filter_ext (λ (m : Msg). not (is_flushed m.kind && is_of_rank band m)) (λ (m : Msg). not (is_flushed m.kind && is_of_band band m)) q (λ m. rw (ordinary_band band m other less) refl)

both_flushes : (f a b : Bool) → (not (f && a) && not (f && b)) ≡ not (f && (a || b))
both_flushes true true b = refl
both_flushes true false b = refl
both_flushes false a b = refl

-- what a flush of band 0 leaves
pub flush-zero : (q : List Msg) → filter (λ m. not (is_flushed m.kind && is_of_rank 256 m)) (filter (λ m. not (is_flushed m.kind && is_of_rank 0 m)) q) ≡ flush_band_of 0 q
flush-zero q =
    let low = λ (m : Msg). not (is_flushed m.kind && is_of_rank 0 m) in
    let high = λ (m : Msg). not (is_flushed m.kind && is_of_rank 256 m) in
    filter_twice low high q ∙ filter_ext (λ (m : Msg). low m && high m) (λ (m : Msg). not (is_flushed m.kind && is_of_band 0 m)) q (λ m. rw (band_zero m) (both_flushes (is_flushed m.kind) (is_of_rank 0 m) (is_of_rank 256 m)))

-- ---- what is found in a lane

-- what a test finds stands where all that pass it stand
pub found-in : (test stand : Msg → Bool) (q : List Msg) → ((m : Msg) → test m ≡ true → stand m ≡ true) → list_any test (filter stand q) ≡ list_any test q
found-in test stand [] so = refl
found-in test stand (x ∷ q) so =
    let rest = found-in test stand q so in
    elim (stand x) as (λ b. stand x ≡ b → list_any test (cond b (x ∷ filter stand q) (filter stand q)) ≡ (test x || list_any test q)) [
      | true ↦ λ e. rw rest refl
      | false ↦ λ e. elim (test x) as (λ b. test x ≡ b → list_any test (filter stand q) ≡ (b || list_any test q)) [
        | true ↦ λ found. let stands = so x found in cc
        | false ↦ λ found. rest
      ] refl
    ] refl

pub pcproto_stands : (m : Msg) → is_pcproto m.kind ≡ true → is_of_rank 256 m ≡ true
pcproto_stands m h = by_kind m.kind h
  where
    by_kind : (kind : MsgKind) → is_pcproto kind ≡ true → (if is_high kind then 256 == 256 else (nat_lt 256 256 && (m.band == 256))) ≡ true
    by_kind MPcproto h = refl
    by_kind kind h = cc

-- an ordinary message of a band is there where one stands in its lane
pub has-band : (band : ℕ) (q : List Msg) → band < 256 → list_any (λ m. not (is_high m.kind) && (m.band == band)) q ≡ not (length (filter (is_of_rank band) q) == 0)
has-band band [] less = refl
has-band band (x ∷ q) less =
    let rest = has-band band q less in
    let here : (not (is_high x.kind) && (x.band == band)) ≡ is_of_rank band x = by_class (is_high x.kind) in
    rw here (elim (is_of_rank band x) as (λ b. (b || list_any (λ m. not (is_high m.kind) && (m.band == band)) q) ≡ not (length (cond b (x ∷ filter (is_of_rank band) q) (filter (is_of_rank band) q)) == 0)) [
      | true ↦ rw (eqb-suc-zero (length (filter (is_of_rank band) q))) refl
      | false ↦ rest
    ])
  where
    by_class : (high : Bool) → (not high && (x.band == band)) ≡ (if high then band == 256 else (nat_lt band 256 && (x.band == band)))
    by_class true = grind (arith, nat_tests)
    by_class false = grind (arith, nat_tests)
