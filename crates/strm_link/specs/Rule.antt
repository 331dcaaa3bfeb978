-- The rules of links: which act comes next.
use Rattle.std.specs.Prelude.{ℕ, ◌+◌, ◌-◌, ◌%◌, nat_lt, nat_le, ◌&&◌, Bool, true, false, List, [], ◌∷◌, ◌++◌, length, Result, Ok, Err, if◌then◌else◌}
use Rattle.std.specs.List.{list_any}
use Rattle.rand_pcg.specs.Lcg.{Lcg, started, increment_of}
use Rattle.rand_pcg.specs.Pcg.{multiplier_64, pcg32}
use Rattle.strm_link.specs.declared.act.Act.{Act}
use Rattle.strm_link.specs.declared.act.Act.TheVariants.{Keep, Lose, Double, Hold}
use Rattle.strm_link.specs.declared.fault.RuleFault.{RuleFault}
use Rattle.strm_link.specs.declared.fault.RuleFault.TheVariants as faults
use Rattle.strm_link.specs.declared.rule.Odds.{Odds}
use Rattle.strm_link.specs.declared.rule.TheConstants.{MOST_ACTS, DRAWS, STREAM}

-- a rule, from the next message on: a pattern of acts, the next one first; or odds, and the generator that
-- draws by them
pub data RuleValue : Type 0 where
  Pattern : (acts : List Act) → RuleValue
  Drawn : (odds : Odds) → (rng : Lcg) → RuleValue

-- ---- draws

-- the number that a generator draws, from 0 to 255
abbrev pub draw_of : Lcg → ℕ
draw_of rng = (pcg32 rng).0 % DRAWS

-- what a draw asks for: the lowest numbers lose, the next ones double, and those behind hold
abbrev pub act_drawn : Odds → ℕ → Act
act_drawn odds draw =
    if nat_lt draw odds.lose then Lose
    else (if nat_lt draw (odds.lose + odds.double) then Double
    else (if nat_lt draw (odds.lose + odds.double + odds.hold) then Hold else Keep))

-- the generator that a seed starts: the PCG32 of this seed and of the stream 55
abbrev pub generator_of : ℕ → Lcg
generator_of seed = started 64 multiplier_64 seed (increment_of 64 STREAM)

-- ---- rules

-- the act for the next message
abbrev pub act_of : RuleValue → Act
act_of (Pattern []) = Keep
act_of (Pattern (act ∷ others)) = act
act_of (Drawn odds rng) = act_drawn odds (draw_of rng)

-- the rule from the message behind it on: an act of a pattern comes again behind all others
abbrev pub after_act : RuleValue → RuleValue
after_act (Pattern []) = Pattern []
after_act (Pattern (act ∷ others)) = Pattern (others ++ act ∷ [])
after_act (Drawn odds rng) = Drawn odds (pcg32 rng).1

-- the rule of these acts: 1 to 64 of them
abbrev pub rule_of_acts : List Act → Result RuleValue RuleFault
rule_of_acts acts =
    if nat_lt 0 (length acts) && nat_le (length acts) MOST_ACTS then Ok (Pattern acts) else Err faults.Acts

-- the rule of these odds and this seed: at most 256 draws do not keep
abbrev pub rule_of_odds : Odds → ℕ → Result RuleValue RuleFault
rule_of_odds odds seed =
    if nat_le (odds.lose + odds.double + odds.hold) DRAWS then Ok (Drawn odds (generator_of seed))
    else Err faults.Draws

-- ---- which acts a rule has

abbrev pub is_act : Act → Act → Bool
is_act Keep Keep = true
is_act Lose Lose = true
is_act Double Double = true
is_act Hold Hold = true
is_act one other = false

-- how many draws ask for an act
abbrev pub draws_of : Odds → Act → ℕ
draws_of odds Keep = DRAWS - (odds.lose + odds.double + odds.hold)
draws_of odds Lose = odds.lose
draws_of odds Double = odds.double
draws_of odds Hold = odds.hold

-- whether an act can come: it is in the pattern, or some draw asks for it
abbrev pub can_come : Act → RuleValue → Bool
can_come act (Pattern acts) = list_any (is_act act) acts
can_come act (Drawn odds rng) = nat_lt 0 (draws_of odds act)
