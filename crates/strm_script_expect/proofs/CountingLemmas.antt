-- The calls of a process, counted stream by stream, with one call more.
use Rattle.std.proofs.Common.{◌≡◌, ℕ, ◌+◌, ◌<◌, ◌≤◌, ◌==◌, nat_lt, Bool, true, false, cond, List, [], ◌∷◌, ◌++◌, length, take, get_or, slice_set, refl, sym, ap, subst, ◌∙◌, arith}
use Rattle.std.proofs.lemmas.Bool.{eqb-true, eqb-false, ltb-true, ltb-false}
use Rattle.std.proofs.lemmas.Grind.{get_or-set_at}
use Rattle.std.proofs.lemmas.List.{get_or-set_other, get_or_append_left, get_or_default, get_or_push, length-set}
use Rattle.std.proofs.lemmas.List.Sums.{count_by_more_no, count_by_more_yes}
use Rattle.strm_script_expect.specs.Unmet.{number_on}

module _ (streams : List ℕ) (i : ℕ) (within : i < length streams) where
  abbrev here : ℕ
  here = get_or streams i 0

  -- one call more on its stream
  one_more : (s : ℕ) → here ≡ s → number_on s streams (i + 1) ≡ number_on s streams i + 1
  one_more s is = count_by_more_yes (λ other. other == s) streams i 0 within (subst (λ (n : ℕ). (here == n) ≡ true) is (same here))
    where
      same : (n : ℕ) → (n == n) ≡ true
      same n = grind arith

  -- none more on another
  none_more : (s : ℕ) → (here == s) ≡ false → number_on s streams (i + 1) ≡ number_on s streams i
  none_more s is = count_by_more_no (λ other. other == s) streams i 0 within is

  module _ (counts new : List ℕ) (many : ℕ) (as_many : length counts ≡ many) (so_far : (s : ℕ) → s < many → get_or counts s 0 ≡ number_on s streams i) (inside : here < length counts → new ≡ slice_set counts here (get_or counts here 0 + 1)) (outside : length counts ≤ here → new ≡ counts) where
    written : (b : Bool) → nat_lt here (length counts) ≡ b → (s : ℕ) → s < many → (c : Bool) → (here == s) ≡ c → get_or new s 0 ≡ number_on s streams (i + 1)
    written true is s below true same =
        let at : here ≡ s = eqb-true here s same in
        let there : here < length counts = ltb-true here (length counts) is in
        ap (λ (l : List ℕ). get_or l s 0) (inside there) ∙ get_or-set_at counts here s (get_or counts here 0 + 1) 0 (sym at) there
        ∙ ap (λ (n : ℕ). n + 1) (ap (λ (n : ℕ). get_or counts n 0) at ∙ so_far s below) ∙ sym (one_more s at)
    written true is s below false other =
        ap (λ (l : List ℕ). get_or l s 0) (inside (ltb-true here (length counts) is)) ∙ get_or-set_other counts here s (get_or counts here 0 + 1) 0 (λ at. eqb-false here s other (sym at))
        ∙ so_far s below ∙ sym (none_more s other)
    written false is s below true same =
        let at : here ≡ s = eqb-true here s same in
        let past : length counts ≤ here = ltb-false here (length counts) is in
        absurd (omega (arith, at, past, as_many, below))
    written false is s below false other =
        ap (λ (l : List ℕ). get_or l s 0) (outside (ltb-false here (length counts) is)) ∙ so_far s below ∙ sym (none_more s other)

    -- the calls are counted, with this one
    pub counted_more : (s : ℕ) → s < many → get_or new s 0 ≡ number_on s streams (i + 1)
    counted_more s below = written (nat_lt here (length counts)) refl s below (here == s) refl

    as_many_as : (b : Bool) → nat_lt here (length counts) ≡ b → length new ≡ many
    as_many_as true is = ap (λ (l : List ℕ). length l) (inside (ltb-true here (length counts) is)) ∙ length-set counts here (get_or counts here 0 + 1) ∙ as_many
    as_many_as false is = ap (λ (l : List ℕ). length l) (outside (ltb-false here (length counts) is)) ∙ as_many

    pub still_many : length new ≡ many
    still_many = as_many_as (nat_lt here (length counts)) refl

    -- and this one has its number
    pub numbered_more : (numbers : List ℕ) → length numbers ≡ i → ((call d : ℕ) → call < i → get_or streams call d < many → get_or numbers call d ≡ number_on (get_or streams call d) streams call) → (call d : ℕ) → call < i + 1 → get_or streams call d < many → get_or (numbers ++ get_or counts here 0 ∷ []) call d ≡ number_on (get_or streams call d) streams call
    numbered_more numbers long each call d under below = by (nat_lt call i) refl
      where
        by : (b : Bool) → nat_lt call i ≡ b → get_or (numbers ++ get_or counts here 0 ∷ []) call d ≡ number_on (get_or streams call d) streams call
        by true is =
            let before : call < i = ltb-true call i is in
            get_or_append_left numbers (get_or counts here 0 ∷ []) d call (omega (arith, before, long)) ∙ each call d before below
        by false is =
            let not_before : i ≤ call = ltb-false call i is in
            let last : i ≡ call = omega (arith, not_before, under) in
            let its : get_or streams call d ≡ here = ap (λ (n : ℕ). get_or streams n d) (sym last) ∙ get_or_default streams i d 0 within in
            get_or_push numbers (get_or counts here 0) d call (long ∙ last)
            ∙ so_far here (subst (λ (n : ℕ). n < many) its below)
            ∙ ap (λ (n : ℕ). number_on here streams n) last
            ∙ ap (λ (s : ℕ). number_on s streams call) (sym its)
