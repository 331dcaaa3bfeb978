-- Messages in order of rank.
use Rattle.std.proofs.Common.{◌≡◌, ℕ, ◌-◌, ◌<◌, ◌≤◌, nat_le, nat_lt, true, List, [], ◌∷◌, length, get_or, insert, ap, suc, zero, arith}
use Rattle.std.specs.List.{list_all, suffix_len}
use Rattle.std.proofs.lemmas.Bool.{leb-true, leb-false, lt-ltb, le-ltb, and_parts}
use Rattle.std.proofs.lemmas.List.Sums.{prefix_len-le-length, prefix_len_stops, prefix_len_passes, suffix_len_is}
use Rattle.strm_msg.specs.Message.{Msg, rank_of}
use Rattle.strm_queue.specs.Queue.{front_len, is_ordered, put_in, behind_last}
use Rattle.strm_queue.proofs.ListLemmas.{all_get}

-- a later message has no greater rank
rank_of-later : (q : List Msg) (i j : ℕ) (d : Msg) → is_ordered q ≡ true → i ≤ j → j < length q → rank_of (get_or q j d) ≤ rank_of (get_or q i d)
rank_of-later [] i j d h le less = absurd (omega arith)
rank_of-later (x ∷ q) zero zero d h le less = omega arith
rank_of-later (x ∷ q) zero (suc j) d h le less =
    let test = λ (y : Msg). nat_le (rank_of y) (rank_of x) in
    leb-true (rank_of (get_or q j d)) (rank_of x) (all_get test q j d ((and_parts (list_all test q) (is_ordered q) h).0) (omega arith))
rank_of-later (x ∷ q) (suc i) zero d h le less = absurd (omega arith)
rank_of-later (x ∷ q) (suc i) (suc j) d h le less =
    let test = λ (y : Msg). nat_le (rank_of y) (rank_of x) in
    rank_of-later q i j d ((and_parts (list_all test q) (is_ordered q) h).1) (omega arith) (omega arith)

-- in order, the front of at least a rank ends where the rest of less begins
front_len-last : (least : ℕ) (q : List Msg) (d : Msg) → is_ordered q ≡ true → front_len least q ≡ length q - suffix_len (λ x. nat_lt (rank_of x) least) q
front_len-last least q d h =
    let at_least = λ (x : Msg). nat_le least (rank_of x) in
    let below = λ (x : Msg). nat_lt (rank_of x) least in
    let n = front_len least q in
    let within : n ≤ length q = prefix_len-le-length at_least q in
    let e : suffix_len below q ≡ length q - n =
    suffix_len_is below q n d within
    (λ k ge less. lt-ltb (rank_of (get_or q k d)) least (let stop : rank_of (get_or q n d) < least = leb-false least (rank_of (get_or q n d)) (prefix_len_stops at_least q d (omega (arith, ge, less))) in omega (arith, stop, rank_of-later q n k d h ge less)))
    (λ some. le-ltb (rank_of (get_or q (n - 1) d)) least (leb-true least (rank_of (get_or q (n - 1) d)) (prefix_len_passes at_least q (n - 1) d (omega (arith, some))))) in
    omega (arith, e, within)

-- in order, behind the messages of its rank is behind the last of at least its rank
pub put_in-behind_last : (q : List Msg) (m : Msg) → is_ordered q ≡ true → put_in q m ≡ behind_last q m
put_in-behind_last q m h = ap (λ i. insert q i m) (front_len-last (rank_of m) q m h)
