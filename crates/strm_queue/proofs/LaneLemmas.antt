-- What the messages of one lane weigh.
use Rattle.std.proofs.Common.{◌≡◌, ◌+◌, ◌*◌, ◌≤◌, ◌<◌, true, List, [], ◌∷◌, ◌++◌, length, sum_by, refl, arith}
use Rattle.std.specs.List.{list_all}
use Rattle.std.proofs.lemmas.Bool.{ltb-true, lt-ltb, and_parts}
use Rattle.std.proofs.lemmas.List.Sums.{sum_by-cons, sum_by-append}
use Rattle.std.specs.Cmp.Derive.{both_true}
use Rattle.strm_msg.specs.Message.{Msg, weight_of}
use Rattle.strm_queue.specs.Lanes.{is_light}
use Rattle.strm_queue.proofs.ListLemmas.{all_both}

-- light messages together weigh less than 2 ^ 65 each
pub light_sum : (q : List Msg) → list_all is_light q ≡ true → sum_by weight_of q ≤ length q * 36893488147419103232
light_sum [] h = omega arith
light_sum (x ∷ q) h =
    let here = ltb-true (weight_of x) 36893488147419103232 ((and_parts (is_light x) (list_all is_light q) h).0) in
    let rest = light_sum q ((and_parts (is_light x) (list_all is_light q) h).1) in
    rw (sum_by-cons weight_of x q) (omega (arith, here, rest))

pub light : (m : Msg) → weight_of m < 36893488147419103232 → is_light m ≡ true
light m less = lt-ltb (weight_of m) 36893488147419103232 less

-- a message more, behind the others
pub sum-behind : (q : List Msg) (m : Msg) → sum_by weight_of (q ++ m ∷ []) ≡ sum_by weight_of q + weight_of m
sum-behind q m = let e = sum_by-append weight_of q (m ∷ []) in let f = sum_by-cons weight_of m [] in omega (arith, e, f)

pub light-behind : (q : List Msg) (m : Msg) → list_all is_light q ≡ true → weight_of m < 36893488147419103232 → list_all is_light (q ++ m ∷ []) ≡ true
light-behind q m h less = all_both is_light q (m ∷ []) h (both_true (light m less) refl)
