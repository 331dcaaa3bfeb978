-- A feed, message by message.
use Rattle.std.proofs.Common.{◌≡◌, ℕ, suc, ◌+◌, ◌-◌, ◌<◌, ◌≤◌, ◌^◌, Some, List, [], ◌∷◌, ◌++◌, length, slice_get, refl, sym, ◌∙◌, ap, subst, arith}
use Rattle.std.proofs.Math.Nat.{min-eq_left}
use Rattle.std.proofs.lemmas.List.{length_push, length-append}
use Rattle.strm_msg.specs.Message.{Msg}
use Rattle.strm_msg.specs.Count.{one_more}

-- the message behind those so far
seam : (so_far rest : List Msg) (m : Msg) → slice_get (so_far ++ m ∷ rest) (length so_far) ≡ Some m
seam [] rest m = refl
seam (first ∷ others) rest m = seam others rest m

-- the next message of a feed, of which as many were offered as are in front of it
pub next_of_feed : (so_far rest : List Msg) (m : Msg) (feed : List Msg) (offers : ℕ) → so_far ++ m ∷ rest ≡ feed → offers ≡ length so_far → slice_get feed offers ≡ Some m
next_of_feed so_far rest m feed offers is many =
    subst (λ (l : List Msg). slice_get l offers ≡ Some m) is (subst (λ (n : ℕ). slice_get (so_far ++ m ∷ rest) n ≡ Some m) (sym many) (seam so_far rest m))

-- one more that was offered
pub offered_more : (so_far rest : List Msg) (m : Msg) (feed : List Msg) (offers : ℕ) → so_far ++ m ∷ rest ≡ feed → length feed < 2 ^ 63 → offers ≡ length so_far → one_more offers ≡ length (so_far ++ m ∷ [])
offered_more so_far rest m feed offers is few many =
    let all : length so_far + suc (length rest) ≡ length feed = sym (length-append so_far (m ∷ rest)) ∙ ap (λ l. length l) is in
    let fits : offers + 1 ≤ 2 ^ 64 - 1 = omega arith in
    min-eq_left fits ∙ ap (λ (n : ℕ). n + 1) many ∙ sym (length_push so_far m)

-- one more message that was accepted
pub taken_more : (accepted so_far : List Msg) (m : Msg) (overrun : ℕ) → length accepted + overrun ≡ length so_far → length (accepted ++ m ∷ []) + overrun ≡ length (so_far ++ m ∷ [])
taken_more accepted so_far m overrun is = omega (arith, length_push accepted m, length_push so_far m)

-- one more that came back
pub back_more : (accepted so_far : List Msg) (m : Msg) (overrun : ℕ) → length accepted + overrun ≡ length so_far → length accepted + (overrun + 1) ≡ length (so_far ++ m ∷ [])
back_more accepted so_far m overrun is = omega (arith, length_push so_far m)
