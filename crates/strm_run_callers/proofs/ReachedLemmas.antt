-- What a loop over a list has reached, and numbers that pass a test.
use Rattle.std.proofs.Common.{◌≡◌, ℕ, ◌+◌, ◌<◌, ◌≤◌, cond, Bool, true, false, List, [], ◌∷◌, ◌++◌, length, get_or, set, sym, ◌∙◌, ap, arith}
use Rattle.std.specs.Prelude.{filter}
use Rattle.std.proofs.Math.Seq.{get_or-append_seam}
use Rattle.std.proofs.lemmas.List.{append-nil, length-append, get_or-set_other}
use Rattle.std.proofs.lemmas.List.Elements.{filter-append}

-- what a loop has reached is there
pub reached_there : {X : Type 0} (all before after : List X) (x : X) (at : ℕ) → before ++ x ∷ after ≡ all → at ≡ length before → at < length all
reached_there all before after x at is place =
    let long : length all ≡ length before + length (x ∷ after) = ap (λ l. length l) (sym is) ∙ length-append before (x ∷ after) in
    omega arith

pub reached_is : {X : Type 0} (all before after : List X) (x d : X) (at : ℕ) → before ++ x ∷ after ≡ all → at ≡ length before → get_or all at d ≡ x
reached_is all before after x d at is place =
    ap (λ l. get_or l at d) (sym is) ∙ ap (λ n. get_or (before ++ x ∷ after) n d) place ∙ get_or-append_seam before x after d

-- a list that was changed where a loop has been is as it was behind
pub behind_more : {X : Type 0} (xs now : List X) (at : ℕ) (x : X) → ((k : ℕ) (d : X) → at ≤ k → get_or now k d ≡ get_or xs k d) → (k : ℕ) (d : X) → at + 1 ≤ k → get_or (set now at x) k d ≡ get_or xs k d
behind_more xs now at x before k d above =
    get_or-set_other now at k x d (λ same. omega arith) ∙ before k d (omega arith)

-- a number more that passes a test, or does not
pub passes_more : (test : ℕ → Bool) (numbers : List ℕ) (number : ℕ) → test number ≡ true → filter test (numbers ++ number ∷ []) ≡ filter test numbers ++ number ∷ []
passes_more test numbers number is =
    filter-append test numbers (number ∷ []) ∙ ap (λ (b : Bool). filter test numbers ++ cond b (number ∷ []) []) is

pub fails_more : (test : ℕ → Bool) (numbers : List ℕ) (number : ℕ) → test number ≡ false → filter test (numbers ++ number ∷ []) ≡ filter test numbers
fails_more test numbers number is =
    filter-append test numbers (number ∷ []) ∙ ap (λ (b : Bool). filter test numbers ++ cond b (number ∷ []) []) is ∙ append-nil (filter test numbers)
