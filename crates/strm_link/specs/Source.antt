-- Where the acts of a rule come from in the code (no public clause cites it).
use Rattle.std.specs.Prelude.{ℕ, ◌+◌, ◌<◌, ◌≤◌, List, ◌++◌, length, take, drop}
use Rattle.strm_link.specs.declared.rule.Source.{Source}
use Rattle.strm_link.specs.declared.rule.Source.TheVariants as sources
use Rattle.strm_link.specs.declared.rule.TheConstants.{DRAWS}
use Rattle.strm_link.specs.Rule.{RuleValue, Pattern, Drawn}

-- the acts from a number on, and behind them those before it
abbrev pub from_place : {A : Type 0} → ℕ → List A → List A
from_place next acts = drop next acts ++ take next acts

abbrev pub rule_from : Source → RuleValue
rule_from (sources.Pattern acts next) = Pattern (from_place next acts.items)
rule_from (sources.Drawn odds rng) = Drawn odds rng

-- the next act is one of the pattern, and the odds are no more than the draws
abbrev pub IsSource : Source → Type 0
IsSource (sources.Pattern acts next) = next < length acts.items
IsSource (sources.Drawn odds rng) = odds.lose + odds.double + odds.hold ≤ DRAWS
