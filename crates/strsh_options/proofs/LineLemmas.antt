-- The rules of a command's arguments.
use Rattle.std.proofs.Common.{◌≡◌, ◌∙◌, ◌&&◌, Bool, true, false, not, is_some, Some, ap, ap₂}
use Rattle.clap.specs.Walk.{is_empty, is_simple_arg}
use Rattle.clap.specs.Words.{AddsArg, App, Rule, app_of, rule_of, with_rule}
use Rattle.clap.specs.declared.builder.arg.Arg.{Arg}
use Rattle.clap.specs.declared.builder.command.Command.{Command}
use Rattle.clap.specs.declared.builder.value_parser.ValueParser.{ValueParser}
use Rattle.clap.proofs.SimpleLemmas.{is_false}
use Rattle.clap.proofs.WalkLemmas.{both}

second : (a b : Bool) → (a && b) ≡ true → b ≡ true
second a b e = (both a b e).1

-- an argument that is read by a simple rule belongs to its own command
local : (a : Arg) → is_simple_arg a ≡ true → a.global ≡ false
local a e = is_false a.global (second (not a.last) _ (second (not a.require_equals) _ (second (not a.allow_negative_numbers) _ (second (not a.allow_hyphen_values) _ (second (not (is_some a.terminator)) _ (second (not (is_some a.val_delim)) _ (second (is_empty a.groups.items) _ (second (is_empty a.default_vals_ifs.items) _ (second (is_empty a.overrides.items) _ e)))))))))

-- a command with one more argument, by the argument's rule
pub adds_rule : (old new : Command) (a : Arg) (app : App) (r : Rule) → AddsArg old a new → app_of old ≡ app → rule_of a ≡ r → r.is_simple ≡ true → app_of new ≡ with_rule app r
adds_rule old new a app r added was is simple = added.shape (local a (ap (λ (x : Rule). x.is_simple) is ∙ simple)) ∙ ap₂ with_rule was is

-- an argument with a parser, by its rule
pub parsed_by : (a b : Arg) (parser : ValueParser) → b ≡ record a { value_parser = b.value_parser } → b.value_parser ≡ Some parser → rule_of b ≡ record (rule_of a) { parser = Some parser }
parsed_by a b parser same is = ap rule_of same ∙ ap (λ p. record (rule_of a) { parser = p }) is
