-- The text that is read of an option has passed the option's parser.
use Rattle.std.proofs.Common.{◌≡◌, ◌∙◌, ℕ, zero, suc, ◌<◌, Bool, true, List, [], ◌∷◌, length, map, Option, Some, None, Bor, All, slice_index_or, slice_get, option_map, option_and_then, bytes_eq, inl, inr, refl, ap, sym, subst, arith}
use Rattle.std.specs.List.{position}
use Rattle.std.proofs.lemmas.List.{get_or-map, length-map}
use Rattle.std.proofs.lemmas.List.Elements.{All-head}
use Rattle.std.proofs.lemmas.Slice.Eq.{bytes_eq-Decides}
use Rattle.clap.specs.Built.{IsAuto, IsParsedFrom, SameRules}
use Rattle.clap.specs.Facts.{Entry, EntryPasses, HasReading, PassesArg, args_of, groups_of, parser_of, parser_of_value}
use Rattle.clap.specs.Matches.{found_of, matched_of, one_text}
use Rattle.clap.specs.Values.{Accepts, read_as, reading_of}
use Rattle.clap.specs.Words.{App, Rule, Text, app_of, rule_of}
use Rattle.clap.specs.declared.builder.arg.Arg.{Arg}
use Rattle.clap.specs.declared.builder.command.Command.{Command}
use Rattle.clap.specs.declared.builder.value_parser.Reading.{Reading}
use Rattle.clap.specs.declared.builder.value_parser.ValueParser.{ValueParser}
use Rattle.clap.specs.declared.parser.matches.ArgMatches.{ArgMatches}
use Rattle.clap.specs.declared.parser.matches.MatchedArg.{MatchedArg}
use Rattle.clap.proofs.CallerLemmas.{entry_by_id, same_rules_by_id}
use Rattle.clap.proofs.SimpleLemmas.{all_simple, plain_fields, simple_groups}
use Rattle.strsh_options.specs.CommandLine.{command_line, file_rule}

abbrev rules : List Rule
rules = command_line.top.rules

-- the rule in place k
abbrev pub rule_at : ℕ → Rule
rule_at k = slice_index_or rules k file_rule

abbrev place_of : Text → Option ℕ
place_of id = position (λ r. bytes_eq r.id id) rules

-- no two rules have one id
place : (k : ℕ) → k < 6 → place_of (rule_at k).id ≡ Some k
place zero under = refl
place (suc zero) under = refl
place (suc (suc zero)) under = refl
place (suc (suc (suc zero))) under = refl
place (suc (suc (suc (suc zero)))) under = refl
place (suc (suc (suc (suc (suc zero))))) under = refl
place (suc (suc (suc (suc (suc (suc k)))))) under = absurd (omega arith)

module _ (old : Command) (line : app_of old ≡ command_line) (m : ArgMatches) (p : IsParsedFrom old m) where
  rules_are : map rule_of (args_of old) ≡ rules
  rules_are = ap (λ (a : App). a.top.rules) line

  six : length (args_of old) ≡ 6
  six = sym (length-map (args_of old) rule_of) ∙ ap (λ rs. length rs) rules_are

  rule_is : (k : ℕ) (e : Arg) → k < 6 → rule_of (slice_index_or (args_of old) k e) ≡ rule_at k
  rule_is k e under = sym (get_or-map rule_of (args_of old) k e file_rule (omega (arith, six, under))) ∙ ap (λ rs. slice_index_or rs k file_rule) rules_are

  id_is : (k : ℕ) (e : Arg) → k < 6 → (slice_index_or (args_of old) k e).id.now ≡ (rule_at k).id
  id_is k e under = ap (λ (r : Rule). r.id) (rule_is k e under)

  no_groups : groups_of p.built ≡ []
  no_groups =
      let old_groups : groups_of old ≡ [] = (plain_fields old (ap (λ (a : App). a.top.is_plain) line)).groups in
      (p.from.same_groups (simple_groups old (ap (λ (a : App). all_simple a.top.rules) line))).1 ∙ old_groups

  -- the option in place k, whose parser takes only texts of Q
  module _ (k : ℕ) (under : k < 6) (q : ValueParser) (parser : (rule_at k).parser ≡ Some q) (Q : Text → Type 0) (takes : (b : Bool) (t : Text) → Accepts b q t → Q t) where
    abbrev id : Text
    id = (rule_at k).id

    unique : (j : ℕ) (d e : Arg) → j < length (args_of old) → bytes_eq (slice_index_or (args_of old) j d).id.now (slice_index_or (args_of old) k e).id.now ≡ true → j ≡ k
    unique j d e low same =
        let small : j < 6 = omega (arith, six, low) in
        let ids : (rule_at j).id ≡ id = sym (id_is j d small) ∙ (bytes_eq-Decides _ _).0 same ∙ id_is k e under in
        let places : Some j ≡ Some k = sym (place j small) ∙ ap place_of ids ∙ place k under in
        cc

    own : (e : Arg) → IsAuto (slice_index_or (args_of old) k e) → ⊥
    own e auto = elim auto [
      | inl h ↦ let none : Some k ≡ None = sym (place k under) ∙ ap place_of (sym (id_is k e under) ∙ h) in cc
      | inr h ↦ let none : Some k ≡ None = sym (place k under) ∙ ap place_of (sym (id_is k e under) ∙ h) in cc
    ]

    -- an argument of the built command with this id has the option's parser
    parser_is : (j : ℕ) (y : Arg) → j < length (args_of p.built) → slice_index_or (args_of p.built) j y ≡ y → bytes_eq y.id.now id ≡ true → parser_of y ≡ q
    parser_is j y high at same =
        let low : k < length (args_of old) = omega (arith, six, under) in
        let rules : SameRules (slice_index_or (args_of old) k y) y = same_rules_by_id old m p k y low (λ i d. unique i d y) (own y) j y high at (subst (λ t. bytes_eq y.id.now t ≡ true) (sym (id_is k y under)) same) in
        ap parser_of_value (rules.parser q (ap (λ (r : Rule). r.parser) (rule_is k y under) ∙ parser))

    passes_text : (t : Text) → PassesArg p.built id t → Q t
    passes_text t pass = takes pass.1.ignore_case t (subst (λ x. Accepts pass.1.ignore_case x t) (parser_is pass.0 pass.1 pass.2 pass.3 pass.4.0) pass.4.1)

    read_so : (how : Reading) → HasReading p.built id how → how ≡ reading_of q
    read_so how any = sym any.4.1 ∙ ap reading_of (parser_is any.0 any.1 any.2 any.3 any.4.0)

    no_group : (e : Entry) → e.0.now ≡ id → EntryPasses p.built e → e.1.is_group ≡ true → ⊥
    no_group e key pass group = elim (pass.3 group) [
      | inl empty ↦ let none : Some k ≡ None = sym (place k under) ∙ ap place_of (sym key ∙ empty) in cc
      | inr lots ↦ let bad : 0 < 0 = rw no_groups at lots in absurd (omega (arith, bad))
    ]

    passes : (e : Entry) → e.0.now ≡ id → EntryPasses p.built e → All (λ v. PassesArg p.built id v.now) e.1.vals.items
    passes e key pass = elim pass.0 [
      | inl group ↦ absurd (no_group e key pass group)
      | inr all ↦ subst (λ (w : Text). All (λ v. PassesArg p.built w v.now) e.1.vals.items) key all
    ]

    reading : (e : Entry) → e.0.now ≡ id → EntryPasses p.built e → e.1.reading ≡ reading_of q
    reading e key pass = elim pass.4 [
      | inl group ↦ absurd (no_group e key pass group)
      | inr has ↦ read_so e.1.reading (subst (λ (w : Text). HasReading p.built w e.1.reading) key has)
    ]

    abbrev Passed : Text → Type 0
    Passed t = (v : Text) × (read_as (reading_of q) v ≡ t) × Q v

    by_value : (how : Reading) (vals : List (Bor Text)) (t : Text) → All (λ v. PassesArg p.built id v.now) vals → how ≡ reading_of q → option_map (λ s. read_as how s.now) (slice_get vals 0) ≡ Some t → Passed t
    by_value how [] t all is none = absurd cc
    by_value how (v ∷ vals) t all is some =
        let text : read_as how v.now ≡ t = cc in
        (v.now, ap (λ h. read_as h v.now) (sym is) ∙ text, passes_text v.now (All-head (λ (w : Bor Text). PassesArg p.built id w.now) v vals all))

    by_entry : (found : Option MatchedArg) → matched_of (found_of m) id ≡ found → (t : Text) → option_and_then (λ a. option_map (λ s. read_as a.reading s.now) (slice_get a.vals.items 0)) found ≡ Some t → Passed t
    by_entry None is t none = absurd cc
    by_entry (Some x) is t some =
        let parsed = p.parsed (p.from.globals ∙ (plain_fields old (ap (λ (a : App). a.top.is_plain) line)).globals) in
        let got = entry_by_id (EntryPasses p.built) (found_of m).entries.items id x parsed.values is in
        let key : got.0.0.now ≡ id = (bytes_eq-Decides got.0.0.now id).0 got.2 in
        by_value x.reading x.vals.items t
        (subst (λ (a : MatchedArg). All (λ v. PassesArg p.built id v.now) a.vals.items) got.1 (passes got.0 key got.3))
        (ap (λ (a : MatchedArg). a.reading) (sym got.1) ∙ reading got.0 key got.3) some

    -- the text that is read is that of a text of Q
    pub text_passes : (t : Text) → one_text (found_of m) id ≡ Some t → Passed t
    text_passes t is = by_entry (matched_of (found_of m) id) refl t is
