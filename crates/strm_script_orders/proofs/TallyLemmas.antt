-- The tally of runs, with one run more.
use Rattle.std.proofs.Common.{◌≡◌, ℕ, suc, ◌+◌, ◌<◌, ◌≤◌, ◌&&◌, ◌||◌, not, nat_lt, Bool, true, false, cond, Option, Some, None, List, [], ◌∷◌, ◌++◌, length, map, take, find, count_by, refl, sym, ap, ◌∙◌, zero-add, add-zero, arith}
use Rattle.std.specs.Option.{option_map, option_or}
use Rattle.std.specs.Str.{bytes_eq}
use Rattle.std.proofs.lemmas.Bool.{ltb-true, ltb-false}
use Rattle.std.proofs.lemmas.Bool.Decides.{Decides-like, same_from_decides}
use Rattle.std.proofs.lemmas.List.{append-nil, length-append, length-take-le, map-append, take_all, take-append-le}
use Rattle.std.proofs.lemmas.List.Folds.{find-append}
use Rattle.std.proofs.lemmas.List.Sums.{sum_by-append, sum_by-cons}
use Rattle.std.proofs.lemmas.Slice.Eq.{bytes_eq-Decides}
use Rattle.strm_script_orders.specs.declared.tally.TheConstants.{MOST_KEPT}
use Rattle.strm_script_orders.specs.Tally.{Run, GivenValue, TallyValue, AddsRun, first_runs, given_by, is_among, kept_of, missed_label, tally_of, texts_of, with_other, with_play, with_run, with_text}

-- ---- tests

or_true : (a : Bool) → (a || true) ≡ true
or_true true = refl
or_true false = refl

or_false : (a : Bool) → (a || false) ≡ a
or_false true = refl
or_false false = refl

and_true : (a : Bool) → (a && true) ≡ a
and_true true = refl
and_true false = refl

and_false : (a : Bool) → (a && false) ≡ false
and_false true = refl
and_false false = refl

or_moves : (s a b e : Bool) → (a || (s || e)) ≡ (b || (s || e)) → ((s || a) || e) ≡ ((s || b) || e)
or_moves true a b e is = refl
or_moves false a b e is = is

or_around : (s a e : Bool) → (a || (s || e)) ≡ ((s || a) || e)
or_around true a e = or_true a
or_around false a e = refl

or_skips : (s a e : Bool) → (s ≡ true → e ≡ true) → (a || e) ≡ ((s || a) || e)
or_skips true a e held = ap (λ (t : Bool). a || t) (held refl) ∙ or_true a
or_skips false a e held = refl

bytes_same : (xs ys : List ℕ) → bytes_eq xs ys ≡ bytes_eq ys xs
bytes_same xs ys = same_from_decides (bytes_eq xs ys) (bytes_eq ys xs) (bytes_eq-Decides xs ys) (Decides-like (bytes_eq ys xs) sym sym (bytes_eq-Decides ys xs))

bytes_equal : (xs ys : List ℕ) → bytes_eq xs ys ≡ true → xs ≡ ys
bytes_equal xs ys = (bytes_eq-Decides xs ys).0

bytes_own : (xs : List ℕ) → bytes_eq xs xs ≡ true
bytes_own xs = (bytes_eq-Decides xs xs).1 refl

-- ---- which transcripts are new

abbrev run_texts : List Run → List (List ℕ)
run_texts runs = map (λ run. run.text) runs

-- a text that is the first of an earlier one's is among these
same_is_among : (text other : List ℕ) (texts : List (List ℕ)) → is_among texts other ≡ true → bytes_eq text other ≡ true → is_among texts text ≡ true
same_is_among text other texts among same = ap (λ (t : List ℕ). is_among texts t) (bytes_equal text other same) ∙ among

-- the first runs have the same transcripts as all runs
same_texts : (earlier : List (List ℕ)) (runs : List Run) (text : List ℕ) → (is_among (run_texts (first_runs earlier runs)) text || is_among earlier text) ≡ (is_among (run_texts runs) text || is_among earlier text)
same_texts earlier [] text = refl
same_texts earlier (run ∷ runs) text = by (is_among earlier run.text) refl (same_texts earlier runs text) (same_texts (run.text ∷ earlier) runs text)
  where
    by : (b : Bool) → is_among earlier run.text ≡ b → (is_among (run_texts (first_runs earlier runs)) text || is_among earlier text) ≡ (is_among (run_texts runs) text || is_among earlier text) → (is_among (run_texts (first_runs (run.text ∷ earlier) runs)) text || is_among (run.text ∷ earlier) text) ≡ (is_among (run_texts runs) text || is_among (run.text ∷ earlier) text) → (is_among (run_texts (cond b (first_runs earlier runs) (run ∷ first_runs (run.text ∷ earlier) runs))) text || is_among earlier text) ≡ ((bytes_eq text run.text || is_among (run_texts runs) text) || is_among earlier text)
    by true among rest_same rest_new = rest_same ∙ or_skips (bytes_eq text run.text) (is_among (run_texts runs) text) (is_among earlier text) (same_is_among text run.text earlier among)
    by false among rest_same rest_new = or_moves (bytes_eq text run.text) (is_among (run_texts (first_runs (run.text ∷ earlier) runs)) text) (is_among (run_texts runs) text) (is_among earlier text) rest_new

-- a run more is a first one, if its transcript is new
first_more : (earlier : List (List ℕ)) (runs : List Run) (one : Run) → first_runs earlier (runs ++ one ∷ []) ≡ first_runs earlier runs ++ cond (is_among (run_texts runs) one.text || is_among earlier one.text) [] (one ∷ [])
first_more earlier [] one = refl
first_more earlier (run ∷ runs) one = by (is_among earlier run.text) refl (first_more earlier runs one) (first_more (run.text ∷ earlier) runs one)
  where
    by : (b : Bool) → is_among earlier run.text ≡ b → first_runs earlier (runs ++ one ∷ []) ≡ first_runs earlier runs ++ cond (is_among (run_texts runs) one.text || is_among earlier one.text) [] (one ∷ []) → first_runs (run.text ∷ earlier) (runs ++ one ∷ []) ≡ first_runs (run.text ∷ earlier) runs ++ cond (is_among (run_texts runs) one.text || is_among (run.text ∷ earlier) one.text) [] (one ∷ []) → cond b (first_runs earlier (runs ++ one ∷ [])) (run ∷ first_runs (run.text ∷ earlier) (runs ++ one ∷ [])) ≡ cond b (first_runs earlier runs) (run ∷ first_runs (run.text ∷ earlier) runs) ++ cond ((bytes_eq one.text run.text || is_among (run_texts runs) one.text) || is_among earlier one.text) [] (one ∷ [])
    by true among rest_same rest_new =
        rest_same
        ∙ ap (λ (known : Bool). first_runs earlier runs ++ cond known [] (one ∷ [])) (or_skips (bytes_eq one.text run.text) (is_among (run_texts runs) one.text) (is_among earlier one.text) (same_is_among one.text run.text earlier among))
    by false among rest_same rest_new =
        ap (λ (rest : List Run). run ∷ rest) rest_new
        ∙ ap (λ (known : Bool). run ∷ (first_runs (run.text ∷ earlier) runs ++ cond known [] (one ∷ []))) (or_around (bytes_eq one.text run.text) (is_among (run_texts runs) one.text) (is_among earlier one.text))

-- ---- counts

count_more : (p : Run → Bool) (runs : List Run) (one : Run) → count_by p (runs ++ one ∷ []) ≡ count_by p runs + cond (p one) 1 0
count_more p runs one = sum_by-append (λ run. cond (p run) 1 0) runs (one ∷ []) ∙ ap (λ (n : ℕ). count_by p runs + n) (zero-add (cond (p one) 1 0))

-- no run passes
count_none : (p : Run → Bool) (runs : List Run) → ((run : Run) → is_among (run_texts runs) run.text ≡ true → p run ≡ false) → count_by p runs ≡ 0
count_none p [] fails = refl
count_none p (run ∷ runs) fails =
    sum_by-cons (λ other. cond (p other) 1 0) run runs
    ∙ ap (λ (b : Bool). cond b 1 0 + count_by p runs) (fails run (ap (λ (b : Bool). b || is_among (run_texts runs) run.text) (bytes_own run.text)))
    ∙ zero-add (count_by p runs)
    ∙ count_none p runs (λ other among. fails other (ap (λ (b : Bool). bytes_eq other.text run.text || b) among ∙ or_true (bytes_eq other.text run.text)))

-- a new transcript was given by none
none_gave : (text : List ℕ) (runs : List Run) → is_among (run_texts runs) text ≡ false → count_by (λ run. bytes_eq run.text text) runs ≡ 0
none_gave text [] new = refl
none_gave text (run ∷ runs) new = by (bytes_eq text run.text) refl new (none_gave text runs)
  where
    by : (b : Bool) → bytes_eq text run.text ≡ b → (b || is_among (run_texts runs) text) ≡ false → (is_among (run_texts runs) text ≡ false → count_by (λ other. bytes_eq other.text text) runs ≡ 0) → count_by (λ other. bytes_eq other.text text) (run ∷ runs) ≡ 0
    by true same not_new rest = absurd cc
    by false other still rest =
        sum_by-cons (λ (each : Run). cond (bytes_eq each.text text) 1 0) run runs
        ∙ ap (λ (b : Bool). cond b 1 0 + count_by (λ each. bytes_eq each.text text) runs) (bytes_same run.text text ∙ other)
        ∙ zero-add (count_by (λ each. bytes_eq each.text text) runs)
        ∙ rest still

-- ---- what is kept

-- the texts of transcripts are those of their runs
texts_given : (all runs : List Run) → texts_of (map (given_by all) runs) ≡ run_texts runs
texts_given all [] = refl
texts_given all (run ∷ runs) = ap (λ (texts : List (List ℕ)). run.text ∷ texts) (texts_given all runs)

length_given : (all runs : List Run) → length (map (given_by all) runs) ≡ length runs
length_given all [] = refl
length_given all (run ∷ runs) = ap suc (length_given all runs)

abbrev tally : ℕ → List GivenValue → ℕ → ℕ → Option (List ℕ) → TallyValue
tally orders kept others unmet first = record { orders = orders; kept = kept; others = others; unmet = unmet; first_unmet = first }

module _ (runs : List Run) (one : Run) where
  abbrev more : List Run
  more = runs ++ one ∷ []

  abbrev firsts : List Run
  firsts = first_runs [] runs

  abbrev known : Bool
  known = is_among (run_texts runs) one.text

  given_more : (first : Run) → given_by more first ≡ with_play one.text (given_by runs first)
  given_more first = ap (λ (n : ℕ). let given : GivenValue = record { label = first.label; text = first.text; plays = n } in given) (count_more (λ run. bytes_eq run.text first.text) runs one)

  all_more : (some : List Run) → map (given_by more) some ≡ map (with_play one.text) (map (given_by runs) some)
  all_more [] = refl
  all_more (run ∷ some) = ap (λ (given : GivenValue). given ∷ map (given_by more) some) (given_more run) ∙ ap (λ (rest : List GivenValue). with_play one.text (given_by runs run) ∷ rest) (all_more some)

  firsts_more : first_runs [] more ≡ firsts ++ cond known [] (one ∷ [])
  firsts_more = first_more [] runs one ∙ ap (λ (b : Bool). firsts ++ cond b [] (one ∷ [])) (or_false known)

  -- the new transcript, where there is room
  given_new : known ≡ false → given_by more one ≡ record { label = one.label; text = one.text; plays = 1 }
  given_new new =
      ap (λ (n : ℕ). let given : GivenValue = record { label = one.label; text = one.text; plays = n } in given)
      (count_more (λ run. bytes_eq run.text one.text) runs one ∙ ap (λ (n : ℕ). n + cond (bytes_eq one.text one.text) 1 0) (none_gave one.text runs new) ∙ zero-add (cond (bytes_eq one.text one.text) 1 0) ∙ ap (λ (b : Bool). cond b 1 0) (bytes_own one.text))

  -- fewer are kept than may be, so all are
  module _ (room : length firsts < MOST_KEPT) where
    all_kept : take MOST_KEPT firsts ≡ firsts
    all_kept = take_all MOST_KEPT firsts (omega (arith, room))

    at_most_one : (b : Bool) → length (firsts ++ cond b [] (one ∷ [])) ≤ MOST_KEPT
    at_most_one true = omega (arith, room, ap (λ (l : List Run). length l) (append-nil firsts))
    at_most_one false = omega (arith, room, length-append firsts (one ∷ []))

    all_kept_more : take MOST_KEPT (first_runs [] more) ≡ firsts ++ cond known [] (one ∷ [])
    all_kept_more = ap (take MOST_KEPT) firsts_more ∙ take_all MOST_KEPT (firsts ++ cond known [] (one ∷ [])) (at_most_one known)

    news_by : (b : Bool) → known ≡ b → map (given_by more) (cond b [] (one ∷ [])) ≡ cond (not b && true) (record { label = one.label; text = one.text; plays = 1 } ∷ []) []
    news_by true is = refl
    news_by false is = ap (λ (given : GivenValue). given ∷ []) (given_new is)

    known_kept : is_among (texts_of (kept_of runs)) one.text ≡ known
    known_kept =
        ap (λ (texts : List (List ℕ)). is_among texts one.text) (texts_given runs (take MOST_KEPT firsts) ∙ ap run_texts all_kept)
        ∙ sym (or_false (is_among (run_texts firsts) one.text)) ∙ same_texts [] runs one.text ∙ or_false known

    is_room : nat_lt (length (kept_of runs)) MOST_KEPT ≡ true
    is_room = ap (λ (n : ℕ). nat_lt n MOST_KEPT) (length_given runs (take MOST_KEPT firsts) ∙ ap (λ (l : List Run). length l) all_kept) ∙ lt_true (length firsts) MOST_KEPT room
      where
        lt_true : (a b : ℕ) → a < b → nat_lt a b ≡ true
        lt_true a b below = grind arith

    kept_with_room : kept_of more ≡ with_text (kept_of runs) one.label one.text
    kept_with_room =
        ap (map (given_by more)) all_kept_more
        ∙ map-append (given_by more) firsts (cond known [] (one ∷ []))
        ∙ ap (λ (front : List GivenValue). front ++ map (given_by more) (cond known [] (one ∷ []))) (all_more firsts ∙ ap (λ (l : List Run). map (with_play one.text) (map (given_by runs) l)) (sym all_kept))
        ∙ ap (λ (back : List GivenValue). map (with_play one.text) (kept_of runs) ++ back) (news_by known refl ∙ ap (λ (b : Bool). cond b (record { label = one.label; text = one.text; plays = 1 } ∷ []) []) (ap (λ (b : Bool). not b && true) (sym known_kept) ∙ ap (λ (b : Bool). not (is_among (texts_of (kept_of runs)) one.text) && b) (sym is_room)))

    -- each run's transcript is kept, so none is only counted
    none_left : (some : List Run) (kept : List GivenValue) → ((text : List ℕ) → is_among (texts_of kept) text ≡ is_among (run_texts some) text) → count_by (λ run. not (is_among (texts_of kept) run.text)) some ≡ 0
    none_left some kept alike = count_none (λ run. not (is_among (texts_of kept) run.text)) some (λ run among. ap not (alike run.text ∙ among))

    alike : (some : List Run) → take MOST_KEPT (first_runs [] some) ≡ first_runs [] some → (text : List ℕ) → is_among (texts_of (kept_of some)) text ≡ is_among (run_texts some) text
    alike some whole text =
        ap (λ (texts : List (List ℕ)). is_among texts text) (texts_given some (take MOST_KEPT (first_runs [] some)) ∙ ap run_texts whole)
        ∙ sym (or_false (is_among (run_texts (first_runs [] some)) text)) ∙ same_texts [] some text ∙ or_false (is_among (run_texts some) text)

    others_with_room : (tally_of more).others ≡ with_other (kept_of runs) (tally_of runs).others one.text
    unfolding tally_of
    others_with_room =
        none_left more (kept_of more) (alike more (all_kept_more ∙ sym firsts_more))
        ∙ sym (none_left runs (kept_of runs) (alike runs all_kept))
        ∙ sym (add-zero (count_by (λ run. not (is_among (texts_of (kept_of runs)) run.text)) runs))
        ∙ ap (λ (b : Bool). count_by (λ run. not (is_among (texts_of (kept_of runs)) run.text)) runs + cond b 1 0) (sym (ap (λ (b : Bool). not (is_among (texts_of (kept_of runs)) one.text) && not b) is_room ∙ and_false (not (is_among (texts_of (kept_of runs)) one.text))))

  -- as many are kept as may be, so they stay
  module _ (full : MOST_KEPT ≤ length firsts) where
    same_kept : take MOST_KEPT (first_runs [] more) ≡ take MOST_KEPT firsts
    same_kept = ap (take MOST_KEPT) firsts_more ∙ take-append-le MOST_KEPT firsts (cond known [] (one ∷ [])) full

    no_room : nat_lt (length (kept_of runs)) MOST_KEPT ≡ false
    no_room = ap (λ (n : ℕ). nat_lt n MOST_KEPT) (length_given runs (take MOST_KEPT firsts) ∙ length-take-le MOST_KEPT firsts full)

    kept_when_full : kept_of more ≡ with_text (kept_of runs) one.label one.text
    kept_when_full =
        ap (map (given_by more)) same_kept
        ∙ all_more (take MOST_KEPT firsts)
        ∙ sym (append-nil (map (with_play one.text) (kept_of runs)))
        ∙ ap (λ (b : Bool). map (with_play one.text) (kept_of runs) ++ cond b (record { label = one.label; text = one.text; plays = 1 } ∷ []) []) (sym (ap (λ (b : Bool). not (is_among (texts_of (kept_of runs)) one.text) && b) no_room ∙ and_false (not (is_among (texts_of (kept_of runs)) one.text))))

    same_kept_texts : texts_of (kept_of more) ≡ texts_of (kept_of runs)
    same_kept_texts = texts_given more (take MOST_KEPT (first_runs [] more)) ∙ ap run_texts same_kept ∙ sym (texts_given runs (take MOST_KEPT firsts))

    others_when_full : (tally_of more).others ≡ with_other (kept_of runs) (tally_of runs).others one.text
    unfolding tally_of
    others_when_full =
        ap (λ (texts : List (List ℕ)). count_by (λ run. not (is_among texts run.text)) more) same_kept_texts
        ∙ count_more (λ run. not (is_among (texts_of (kept_of runs)) run.text)) runs one
        ∙ ap (λ (b : Bool). count_by (λ run. not (is_among (texts_of (kept_of runs)) run.text)) runs + cond b 1 0) (sym (ap (λ (b : Bool). not (is_among (texts_of (kept_of runs)) one.text) && not b) no_room ∙ and_true (not (is_among (texts_of (kept_of runs)) one.text))))

  kept_more : kept_of more ≡ with_text (kept_of runs) one.label one.text
  kept_more = by (nat_lt (length firsts) MOST_KEPT) refl
    where
      by : (b : Bool) → nat_lt (length firsts) MOST_KEPT ≡ b → kept_of more ≡ with_text (kept_of runs) one.label one.text
      by true is = kept_with_room (ltb-true (length firsts) MOST_KEPT is)
      by false is = kept_when_full (ltb-false (length firsts) MOST_KEPT is)

  others_more : (tally_of more).others ≡ with_other (kept_of runs) (tally_of runs).others one.text
  others_more = by (nat_lt (length firsts) MOST_KEPT) refl
    where
      by : (b : Bool) → nat_lt (length firsts) MOST_KEPT ≡ b → (tally_of more).others ≡ with_other (kept_of runs) (tally_of runs).others one.text
      by true is = others_with_room (ltb-true (length firsts) MOST_KEPT is)
      by false is = others_when_full (ltb-false (length firsts) MOST_KEPT is)

  first_unmet_more : option_map (λ run. run.label) (find (λ run. run.is_unmet) more) ≡ option_or (option_map (λ run. run.label) (find (λ run. run.is_unmet) runs)) (missed_label one.label one.is_unmet)
  first_unmet_more = ap (option_map (λ (run : Run). run.label)) (find-append (λ run. run.is_unmet) runs (one ∷ [])) ∙ either (find (λ run. run.is_unmet) runs) one.is_unmet
    where
      either : (found : Option Run) (b : Bool) → option_map (λ (run : Run). run.label) (option_or found (cond b (Some one) None)) ≡ option_or (option_map (λ (run : Run). run.label) found) (missed_label one.label b)
      either None true = refl
      either None false = refl
      either (Some run) b = refl

  abbrev kept : List GivenValue
  kept = with_text (kept_of runs) one.label one.text

  abbrev others : ℕ
  others = with_other (kept_of runs) (tally_of runs).others one.text

  -- the tally of one run more
  pub tally_more : tally_of more ≡ with_run (tally_of runs) one
  unfolding tally_of
  tally_more =
      ap (λ (n : ℕ). tally n (kept_of more) (tally_of more).others (count_by (λ run. run.is_unmet) more) (tally_of more).first_unmet) (length-append runs (one ∷ []))
      ∙ ap (λ (kept : List GivenValue). tally (length runs + 1) kept (tally_of more).others (count_by (λ run. run.is_unmet) more) (tally_of more).first_unmet) kept_more
      ∙ ap (λ (n : ℕ). tally (length runs + 1) kept n (count_by (λ run. run.is_unmet) more) (tally_of more).first_unmet) others_more
      ∙ ap (λ (n : ℕ). tally (length runs + 1) kept others n (tally_of more).first_unmet) (count_more (λ run. run.is_unmet) runs one)
      ∙ ap (λ (first : Option (List ℕ)). tally (length runs + 1) kept others (count_by (λ run. run.is_unmet) runs + cond one.is_unmet 1 0) first) first_unmet_more

-- a tally that has one run more is that of one run more
pub adds_run : (old new : TallyValue) (one : Run) → new ≡ with_run old one → AddsRun old new one
adds_run old new one is runs was = is ∙ ap (λ (tally : TallyValue). with_run tally one) was ∙ sym (tally_more runs one)
