-- Where the calls of each caller stand in a history.
use Rattle.std.proofs.Common.{◌≡◌, ℕ, zero, suc, ◌-◌, ◌<◌, ◌≤◌, ◌++◌, ◌==◌, Bool, true, false, Some, None, List, [], ◌∷◌, All, Vec, get_or, length, set, slice_get, take, refl, sym, ◌∙◌, ap, subst, arith}
use Rattle.std.proofs.lemmas.List.{get_or-set_same, get_or-set_other}
use Rattle.std.specs.Global.{Global}
use Rattle.std.proofs.lemmas.Bool.{eqb-false, eqb-true, ltb-true}
use Rattle.strm_shared_entry.specs.Entry.{Entry}
use Rattle.strm_shared_entry.specs.declared.entry.Who.{Who}
use Rattle.strm_shared_entry.specs.declared.entry.Who.TheVariants.{Caller, Line}
use Rattle.strm_shared_entry.specs.Entry.{is_caller}
use Rattle.strm_shared_entry.specs.Own.{entry_at, own}
use Rattle.strm_shared_entry.specs.Own.{has_seat}
use Rattle.strm_shared_ended.specs.Ended.{StandAt}
use Rattle.strm_shared_entry.proofs.OwnLemmas.{other_step, own_step}

module _ {K : Type 0} where
  found_stays : (history : List (Entry K)) (place : ℕ) (entry one : Entry K) → slice_get history place ≡ Some entry → slice_get (history ++ one ∷ []) place ≡ Some entry
  found_stays [] place entry one at = absurd cc
  found_stays (first ∷ history) zero entry one at = at
  found_stays (first ∷ history) (suc place) entry one at = found_stays history place entry one at

  pub found_last : (history : List (Entry K)) (one : Entry K) → slice_get (history ++ one ∷ []) (length history) ≡ Some one
  found_last [] one = refl
  found_last (first ∷ history) one = found_last history one

  found_below : (history : List (Entry K)) (place : ℕ) (entry : Entry K) → slice_get history place ≡ Some entry → place < length history
  found_below [] place entry at = absurd cc
  found_below (first ∷ history) zero entry at = omega arith
  found_below (first ∷ history) (suc place) entry at = let below = found_below history place entry at in omega arith

  -- entries that stand in a history stand in a longer one
  pub stand_stays : (places : List ℕ) (history entries : List (Entry K)) (one : Entry K) → StandAt places history entries → StandAt places (history ++ one ∷ []) entries
  stand_stays [] history [] one all = tt
  stand_stays [] history (entry ∷ entries) one all = absurd all
  stand_stays (place ∷ places) history [] one all = absurd all
  stand_stays (place ∷ places) history (entry ∷ entries) one all = (found_stays history place entry one all.0, stand_stays places history entries one all.1)

  -- and one more
  pub stand_more : (places : List ℕ) (history entries : List (Entry K)) (one : Entry K) (last : ℕ) → slice_get history last ≡ Some one → StandAt places history entries → StandAt (places ++ last ∷ []) history (entries ++ one ∷ [])
  stand_more [] history [] one last at all = (at, tt)
  stand_more [] history (entry ∷ entries) one last at all = absurd all
  stand_more (place ∷ places) history [] one last at all = absurd all
  stand_more (place ∷ places) history (entry ∷ entries) one last at all = (all.0, stand_more places history entries one last at all.1)

  -- each stands at its place
  pub stands_at : (places : List ℕ) (history entries : List (Entry K)) (n d : ℕ) → StandAt places history entries → n < length places → slice_get entries n ≡ slice_get history (get_or places n d)
  stands_at [] history entries n d all below = absurd (omega arith)
  stands_at (first ∷ places) history [] n d all below = absurd all
  stands_at (first ∷ places) history (entry ∷ entries) zero d all below = sym all.0
  stands_at (first ∷ places) history (entry ∷ entries) (suc n) d all below = stands_at places history entries n d all.1 (omega arith)

  pub stands_within : (places : List ℕ) (history entries : List (Entry K)) (n d : ℕ) → StandAt places history entries → n < length places → get_or places n d < length history
  stands_within [] history entries n d all below = absurd (omega arith)
  stands_within (first ∷ places) history [] n d all below = absurd all
  stands_within (first ∷ places) history (entry ∷ entries) zero d all below = found_below history first entry all.0
  stands_within (first ∷ places) history (entry ∷ entries) (suc n) d all below = stands_within places history entries n d all.1 (omega arith)

  -- and no other is there
  pub stands_nowhere : (places : List ℕ) (history entries : List (Entry K)) (n : ℕ) → StandAt places history entries → length places ≤ n → slice_get entries n ≡ None
  stands_nowhere [] history [] n all above = refl
  stands_nowhere [] history (entry ∷ entries) n all above = absurd all
  stands_nowhere (first ∷ places) history [] n all above = refl
  stands_nowhere (first ∷ places) history (entry ∷ entries) zero all above = absurd (omega arith)
  stands_nowhere (first ∷ places) history (entry ∷ entries) (suc n) all above = stands_nowhere places history entries n all.1 (omega arith)

  -- an entry of a caller, by how many calls it made before
  pub entry_before : (history : List (Entry K)) (caller number before : ℕ) → 1 ≤ number → before ≡ number - 1 → entry_at caller number history ≡ slice_get (own caller history) before
  entry_before history caller zero before one less = absurd (omega (arith, one))
  entry_before history caller (suc n) before one less = let same : n ≡ before = omega (arith, less) in ap (λ k. slice_get (own caller history) k) same

  -- of a caller that has made no call there is none
  pub entry_none : (history : List (Entry K)) (caller number : ℕ) → own caller history ≡ [] → entry_at caller number history ≡ None
  entry_none history caller zero none = refl
  entry_none history caller (suc n) none = ap (λ l. slice_get l n) none

  pub found_or : (history : List (Entry K)) (place : ℕ) (d : Entry K) → place < length history → slice_get history place ≡ Some (get_or history place d)
  found_or [] place d below = absurd (omega arith)
  found_or (first ∷ history) zero d below = refl
  found_or (first ∷ history) (suc place) d below = found_or history place d (omega arith)

  -- the first entries, with one more
  step_is : (history : List (Entry K)) (at : ℕ) (entry : Entry K) → at < length history → get_or history at entry ≡ entry → take (suc at) history ≡ take at history ++ entry ∷ []
  step_is [] at entry below is = absurd (omega arith)
  step_is (first ∷ history) zero entry below is = ap (λ x. x ∷ []) is
  step_is (first ∷ history) (suc at) entry below is = ap (λ l. first ∷ l) (step_is history at entry (omega arith) is)

  take_length : (history : List (Entry K)) (at : ℕ) → at < length history → length (take at history) ≡ at
  take_length [] at below = absurd (omega arith)
  take_length (first ∷ history) zero below = refl
  take_length (first ∷ history) (suc at) below = ap (λ n. suc n) (take_length history at (omega arith))

  -- the calls of a caller, after a step of another, or of its own
  passed : (history : List (Entry K)) (at caller : ℕ) (entry : Entry K) (places : List ℕ) → at < length history → get_or history at entry ≡ entry → is_caller caller entry.who ≡ false → StandAt places (take at history) (own caller (take at history)) → StandAt places (take (suc at) history) (own caller (take (suc at) history))
  passed history at caller entry places below is not all =
      let longer = step_is history at entry below is in
      rw (other_step caller (take at history) (take (suc at) history) entry longer not, longer) (stand_stays places (take at history) (own caller (take at history)) entry all)

  placed : (history : List (Entry K)) (at caller : ℕ) (entry : Entry K) (places : List ℕ) → at < length history → get_or history at entry ≡ entry → is_caller caller entry.who ≡ true → StandAt places (take at history) (own caller (take at history)) → StandAt (places ++ at ∷ []) (take (suc at) history) (own caller (take (suc at) history))
  placed history at caller entry places below is so all =
      let longer = step_is history at entry below is in
      let last : slice_get (take at history ++ entry ∷ []) at ≡ Some entry = subst (λ n. slice_get (take at history ++ entry ∷ []) n ≡ Some entry) (take_length history at below) (found_last (take at history) entry) in
      rw (own_step caller (take at history) (take (suc at) history) entry longer so, longer)
      (stand_more places (take at history ++ entry ∷ []) (own caller (take at history)) entry at last (stand_stays places (take at history) (own caller (take at history)) entry all))

  -- so for all callers: a step of the line
  pub line_indexed : (history : List (Entry K)) (at : ℕ) (entry : Entry K) (places : List (Vec ℕ Global)) → at < length history → get_or history at entry ≡ entry → entry.who ≡ Line → ((caller : ℕ) (d : Vec ℕ Global) → caller < length places → StandAt (get_or places caller d).items (take at history) (own caller (take at history))) → (caller : ℕ) (d : Vec ℕ Global) → caller < length places → StandAt (get_or places caller d).items (take (suc at) history) (own caller (take (suc at) history))
  line_indexed history at entry places below is line was caller d there =
      passed history at caller entry (get_or places caller d).items below is (ap (λ w. is_caller caller w) line) (was caller d there)

  -- or of a caller
  module _ (history : List (Entry K)) (at who : ℕ) (entry : Entry K) (places : List (Vec ℕ Global)) (old one : Vec ℕ Global) (below : at < length history) (is : get_or history at entry ≡ entry) (by : entry.who ≡ Caller who) (within : who < length places) (had : old ≡ get_or places who old) (has : one.items ≡ old.items ++ at ∷ []) (was : (caller : ℕ) (d : Vec ℕ Global) → caller < length places → StandAt (get_or places caller d).items (take at history) (own caller (take at history))) where
    one_indexed : (caller : ℕ) (d : Vec ℕ Global) (b : Bool) → (who == caller) ≡ b → caller < length places → StandAt (get_or (set places who one) caller d).items (take (suc at) history) (own caller (take (suc at) history))
    one_indexed caller d true same there =
        let at_who : who ≡ caller = eqb-true who caller same in
        let stood : StandAt old.items (take at history) (own caller (take at history)) = subst (λ n. StandAt old.items (take at history) (own n (take at history))) at_who (subst (λ (v : Vec ℕ Global). StandAt v.items (take at history) (own who (take at history))) (sym had) (was who old within)) in
        let now : (get_or (set places who one) caller d).items ≡ old.items ++ at ∷ [] = ap (λ (n : ℕ). (get_or (set places who one) n d).items) (sym at_who) ∙ ap (λ (v : Vec ℕ Global). v.items) (get_or-set_same places who one d within) ∙ has in
        subst (λ l. StandAt l (take (suc at) history) (own caller (take (suc at) history))) (sym now) (placed history at caller entry old.items below is (ap (λ w. is_caller caller w) by ∙ same) stood)
    one_indexed caller d false other there =
        let now : get_or (set places who one) caller d ≡ get_or places caller d = get_or-set_other places who caller one d (λ same. eqb-false who caller other (sym same)) in
        subst (λ (v : Vec ℕ Global). StandAt v.items (take (suc at) history) (own caller (take (suc at) history))) (sym now) (passed history at caller entry (get_or places caller d).items below is (ap (λ w. is_caller caller w) by ∙ other) (was caller d there))

    pub call_indexed : (caller : ℕ) (d : Vec ℕ Global) → caller < length places → StandAt (get_or (set places who one) caller d).items (take (suc at) history) (own caller (take (suc at) history))
    call_indexed caller d there = one_indexed caller d (who == caller) refl there

-- a caller without a seat has made no call
not_caller : (b : Bool) (callers caller other : ℕ) → (other == caller) ≡ b → callers ≤ caller → other < callers → (other == caller) ≡ false
not_caller true callers caller other is above below = let same = eqb-true other caller is in absurd (omega (arith, same, above, below))
not_caller false callers caller other is above below = is

other_caller : (callers caller : ℕ) (who : Who) → callers ≤ caller → has_seat callers who ≡ true → is_caller caller who ≡ false
other_caller callers caller Line above seated = refl
other_caller callers caller (Caller other) above seated = not_caller (other == caller) callers caller other refl above (ltb-true other callers seated)

module _ {K : Type 0} where
  pub none_own : (callers caller : ℕ) (history : List (Entry K)) → callers ≤ caller → All (λ entry. has_seat callers entry.who ≡ true) history → own caller history ≡ []
  none_own callers caller [] above seated = refl
  none_own callers caller (entry ∷ history) above seated =
      rw (other_caller callers caller entry.who above (seated 0 entry (omega arith))) (none_own callers caller history above (λ i d below. seated (suc i) d (omega arith)))
