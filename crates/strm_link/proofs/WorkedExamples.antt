-- Links, computed on the definitions: what is passed on, and what is held then.
use Rattle.std.proofs.Common.{◌≡◌, ℕ, true, false, Option, None, Some, Ok, Err, List, [], ◌∷◌, map, replicate, refl}
use Rattle.strm_msg.specs.Message.{Msg, data_msg}
use Rattle.strm_link.specs.declared.act.Act.TheVariants.{Keep, Lose, Double, Hold}
use Rattle.strm_link.specs.declared.fault.RuleFault.TheVariants as faults
use Rattle.strm_link.specs.declared.rule.Odds.{Odds}
use Rattle.strm_link.specs.Rule.{RuleValue, Pattern, Drawn, can_come, generator_of, rule_of_acts, rule_of_odds}
use Rattle.strm_link.specs.Link.{fresh, out_of, after_of}
use Rattle.strm_link.specs.Passage.{passage_of}

-- a message of one byte
abbrev letter : ℕ → Msg
letter byte = data_msg 0 (byte ∷ [])

-- messages of one byte each: a, b, ..
abbrev letters : List ℕ → List Msg
letters bytes = map letter bytes

-- what links of these rules pass on of some letters, and hold then
abbrev passed_on : RuleValue → List ℕ → List Msg × Option Msg
passed_on rule bytes = (out_of (fresh rule) (letters bytes), (after_of (fresh rule) (letters bytes)).held)

-- ---- patterns

-- keep, lose, double, hold, and from the front again: a, c twice, e, and behind it d
one_of_each : passed_on (Pattern (Keep ∷ Lose ∷ Double ∷ Hold ∷ [])) (97 ∷ 98 ∷ 99 ∷ 100 ∷ 101 ∷ []) ≡ (letters (97 ∷ 99 ∷ 99 ∷ 101 ∷ 100 ∷ []), None)
one_of_each = refl

-- a link that only holds is late by one message
late_by_one : passed_on (Pattern (Hold ∷ [])) (97 ∷ 98 ∷ 99 ∷ []) ≡ (letters (97 ∷ 98 ∷ []), Some (letter 99))
late_by_one = refl

-- a message that is lost sets none free
still_held : passed_on (Pattern (Hold ∷ Lose ∷ [])) (97 ∷ 98 ∷ []) ≡ ([], Some (letter 97))
still_held = refl

-- a message that is doubled goes before the one that is held
three_at_once : passed_on (Pattern (Hold ∷ Double ∷ [])) (97 ∷ 98 ∷ []) ≡ (letters (98 ∷ 98 ∷ 97 ∷ []), None)
three_at_once = refl

-- of four messages one is lost, one is doubled and the last is held
counted : passage_of (fresh (Pattern (Keep ∷ Lose ∷ Double ∷ Hold ∷ []))) (letters (97 ∷ 98 ∷ 99 ∷ 100 ∷ [])) ≡ record { given = 3; held = true }
counted = refl

-- two and two are exchanged
exchanged : passed_on (Pattern (Hold ∷ Keep ∷ [])) (97 ∷ 98 ∷ 99 ∷ 100 ∷ []) ≡ (letters (98 ∷ 97 ∷ 100 ∷ 99 ∷ []), None)
exchanged = refl

no_acts : rule_of_acts [] ≡ Err faults.Acts
no_acts = refl

longest : rule_of_acts (replicate 64 Lose) ≡ Ok (Pattern (replicate 64 Lose))
longest = refl

too_long : rule_of_acts (replicate 65 Lose) ≡ Err faults.Acts
too_long = refl

-- ---- draws

abbrev odds : ℕ → ℕ → ℕ → Odds
odds lose double hold = record { lose = lose; double = double; hold = hold }

-- seed 7 draws 227, 71, 9, 4, 149 and 243: keep, double, lose twice, hold, keep
drawn : passed_on (Drawn (odds 64 32 64) (generator_of 7)) (97 ∷ 98 ∷ 99 ∷ 100 ∷ 101 ∷ 102 ∷ []) ≡ (letters (97 ∷ 98 ∷ 98 ∷ 102 ∷ 101 ∷ []), None)
drawn = refl

-- odds of 256 leave nothing to keep
never_kept : can_come Keep (Drawn (odds 128 64 64) (generator_of 7)) ≡ false
never_kept = refl

all_odds : rule_of_odds (odds 0 0 256) 7 ≡ Ok (Drawn (odds 0 0 256) (generator_of 7))
all_odds = refl

more_than_all : rule_of_odds (odds 128 128 1) 7 ≡ Err faults.Draws
more_than_all = refl
