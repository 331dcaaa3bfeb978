-- The acts of rules: a pattern goes round, and an act that has no odds never comes.
use Rattle.std.proofs.Common.{◌≡◌, ◌∙◌, ℕ, suc, ◌+◌, ◌<◌, ◌≤◌, ◌%◌, nat_lt, ◌||◌, Bool, true, false, if◌then◌else◌, List, [], ◌∷◌, ◌++◌, length, get_or, take, drop, refl, sym, ap, append_assoc, add-one, arith}
use Rattle.std.proofs.Math.Seq.{drop-cons, take-suc}
use Rattle.std.proofs.Math.Bool.{or_comm, or-false}
use Rattle.std.proofs.Math.Nat.{mod_self, mod-eq_of_lt}
use Rattle.std.proofs.lemmas.Bool.{le-ltb, ltb-false, ltb-true, or_parts}
use Rattle.std.proofs.lemmas.List.{append-nil, take_all, drop_all}
use Rattle.std.proofs.lemmas.List.Folds.{list_any-append}
use Rattle.std.specs.List.{list_any}
use Rattle.strm_link.specs.declared.act.Act.{Act}
use Rattle.strm_link.specs.declared.act.Act.TheVariants.{Keep, Lose, Double, Hold}
use Rattle.strm_link.specs.declared.rule.Odds.{Odds}
use Rattle.strm_link.specs.Rule.{RuleValue, Pattern, Drawn, act_drawn, act_of, after_act, can_come, draw_of, draws_of, is_act}
use Rattle.strm_link.specs.Source.{from_place}

-- ---- a pattern goes round

-- the act at a place comes behind all others
behind_others : (acts : List Act) (next : ℕ) → next < length acts →
    after_act (Pattern (from_place next acts)) ≡ Pattern (drop (suc next) acts ++ take (suc next) acts)
behind_others acts next h =
    rw (drop-cons acts next Keep h, take-suc acts next Keep h) (ap Pattern (append_assoc (drop (suc next) acts) (take next acts) (get_or acts next Keep ∷ [])))

-- the number behind one that is not the last, and behind the last
pub is_next : (next many : ℕ) → next + 1 < many → next + 1 ≡ (next + 1) % many
is_next next many h = sym (mod-eq_of_lt h)

pub is_first : (next many : ℕ) → next < many → many ≤ next + 1 → 0 ≡ (next + 1) % many
is_first next many h past =
    let last : next + 1 ≡ many = omega arith in
    rw last (sym (mod_self many))

from_next : (acts : List Act) (next : ℕ) (more : Bool) → nat_lt (next + 1) (length acts) ≡ more → next < length acts →
    from_place ((next + 1) % length acts) acts ≡ drop (suc next) acts ++ take (suc next) acts
from_next acts next true more h =
    let below : next + 1 < length acts = ltb-true (next + 1) (length acts) more in
    rw (← is_next next (length acts) below, add-one next) refl
from_next acts next false more h =
    let past : length acts ≤ next + 1 = ltb-false (next + 1) (length acts) more in
    let all : length acts ≤ suc next = rw (← add-one next) past in
    rw (← is_first next (length acts) h past, drop_all (suc next) acts all, take_all (suc next) acts all) (append-nil acts)

pub goes_on : (acts : List Act) (next : ℕ) → next < length acts →
    Pattern (from_place ((next + 1) % length acts) acts) ≡ after_act (Pattern (from_place next acts))
goes_on acts next h = ap Pattern (from_next acts next (nat_lt (next + 1) (length acts)) refl h) ∙ sym (behind_others acts next h)

-- ---- which acts come

-- a rule has the same acts all along
pub stays : (act : Act) (rule : RuleValue) → can_come act (after_act rule) ≡ can_come act rule
stays act (Pattern []) = refl
stays act (Pattern (a ∷ others)) =
    list_any-append (is_act act) others (a ∷ []) ∙ ap (λ b. list_any (is_act act) others || b) (or-false (is_act act a)) ∙ or_comm (list_any (is_act act) others) (is_act act a)
stays act (Drawn odds rng) = refl

-- an act that no draw asks for, by the three tests of a draw
not_lose : (b c d : Bool) → b ≡ false → is_act Lose (if b then Lose else (if c then Double else (if d then Hold else Keep))) ≡ false
not_lose true c d h = cc
not_lose false true d h = refl
not_lose false false true h = refl
not_lose false false false h = refl

not_double : (b c d : Bool) → (b ≡ false → c ≡ false) → is_act Double (if b then Lose else (if c then Double else (if d then Hold else Keep))) ≡ false
not_double true c d h = refl
not_double false true d h = cc (h refl)
not_double false false true h = refl
not_double false false false h = refl

not_hold : (b c d : Bool) → (c ≡ false → d ≡ false) → is_act Hold (if b then Lose else (if c then Double else (if d then Hold else Keep))) ≡ false
not_hold true c d h = refl
not_hold false true d h = refl
not_hold false false true h = cc (h refl)
not_hold false false false h = refl

-- a test of a draw that adds nothing to the one before it
adds_nothing : (draw most more : ℕ) → nat_lt 0 more ≡ false → nat_lt draw most ≡ false → nat_lt draw (most + more) ≡ false
adds_nothing draw most more none h =
    let zero_more : more ≤ 0 = ltb-false 0 more none in
    let above : most ≤ draw = ltb-false draw most h in
    le-ltb draw (most + more) (omega arith)

never_drawn : (act : Act) (odds : Odds) (draw : ℕ) → is_act act Keep ≡ false → nat_lt 0 (draws_of odds act) ≡ false → is_act act (act_drawn odds draw) ≡ false
never_drawn Keep odds draw other none = cc
never_drawn Lose odds draw other none =
    let zero_lose : odds.lose ≤ 0 = ltb-false 0 odds.lose none in
    not_lose _ _ _ (le-ltb draw odds.lose (omega arith))
never_drawn Double odds draw other none = not_double _ _ _ (adds_nothing draw odds.lose odds.double none)
never_drawn Hold odds draw other none = not_hold _ _ _ (adds_nothing draw (odds.lose + odds.double) odds.hold none)

-- the next act is none that cannot come
pub never : (act : Act) (rule : RuleValue) → is_act act Keep ≡ false → can_come act rule ≡ false → is_act act (act_of rule) ≡ false
never act (Pattern []) other none = other
never act (Pattern (a ∷ others)) other none = (or_parts (is_act act a) (list_any (is_act act) others) none).0
never act (Drawn odds rng) other none = never_drawn act odds (draw_of rng) other none
