use Rattle.std.proofs.Common.{◌≡◌, ◌∙◌, [], ap, ap₂, codes, sym, subst}
use Rattle.std.specs.Str.Parse.{ExplainsUnsignedError, HasUnsignedDigitsIfOk, ParsesUnsigned}
use Rattle.clap.specs.Faults.{is_simple_and_free}
use Rattle.clap.specs.Kinds.{HasKind}
use Rattle.clap.specs.Values.{kind_of}
use Rattle.clap.specs.Words.{fault_of, first_of, found_of}
use Rattle.clap.proofs.FaultLemmas.{failed_up, first_fails, past}
use Rattle.clap.proofs.WalkLemmas.{first_value-rows}
use Rattle.strsh_options.specs.CommandLine.{command_line, found, word_texts}
use Rattle.strsh_options.specs.Options.{conflict_kinds, output_of, paths_of, playing_by, playing_kinds, playing_of, refusals}
use Rattle.strsh_options.proofs.ReadLemmas.{is_free_line, of_second, of_third}
use Rattle.strsh_options.proofs.RowLemmas.{rows_found, workers_asked}
use Rattle.strsh_options.proofs.options.Options.read.Goals as goal

pub returns-clause-workers : goal.returns-clause-workers
returns-clause-workers c =
    let line = c.in_ok-command.ensures.line in
    let m = c.in_ok-matches.matches in
    let rows = rows_found c.in_ok-command.field-0 (word_texts c.args.words.now) m line c.in_ok-matches.ensures.matches in
    let got = c.get_one.ensures in
    c.unwrap_or.ensures ∙ (workers_asked _ line m c.in_ok-matches.ensures.parsed _ rows _ (λ bs r. ParsesUnsigned 32 10 bs r × ExplainsUnsignedError 10 bs r × HasUnsignedDigitsIfOk bs r) c.get_one.result got.none got.value (λ t r gives. gives.0)).0

pub returns-clause-range : goal.returns-clause-range
returns-clause-range c =
    let line = c.in_ok-command.ensures.line in
    let m = c.in_ok-matches.matches in
    let rows = rows_found c.in_ok-command.field-0 (word_texts c.args.words.now) m line c.in_ok-matches.ensures.matches in
    let got = c.get_one.ensures in
    let all = workers_asked _ line m c.in_ok-matches.ensures.parsed _ rows _ (λ bs r. ParsesUnsigned 32 10 bs r × ExplainsUnsignedError 10 bs r × HasUnsignedDigitsIfOk bs r) c.get_one.result got.none got.value (λ t r gives. gives.0) in
    rw c.unwrap_or.ensures (all.1, all.2)

pub returns-clause-playing : goal.returns-clause-playing
returns-clause-playing c =
    let line = c.in_ok-command.ensures.line in
    let m = c.in_ok-matches.matches in
    let rows = rows_found c.in_ok-command.field-0 (word_texts c.args.words.now) m line c.in_ok-matches.ensures.matches in
    let order = c.get_str-order.ensures ∙ first_value-rows (found_of m) (codes "order") ∙ ap (first_of (codes "order")) rows in
    let orders = c.get_str.ensures ∙ first_value-rows (found_of m) (codes "orders") ∙ ap (first_of (codes "orders")) rows in
    c.in_ok-playing_asked.ensures.playing ∙ ap₂ playing_by order orders

pub returns-clause-output : goal.returns-clause-output
returns-clause-output c =
    let rows = rows_found c.in_ok-command.field-0 (word_texts c.args.words.now) c.in_ok-matches.matches c.in_ok-command.ensures.line c.in_ok-matches.ensures.matches in
    c.output_asked.ensures ∙ ap output_of rows

pub returns-clause-paths : goal.returns-clause-paths
returns-clause-paths c =
    let rows = rows_found c.in_ok-command.field-0 (word_texts c.args.words.now) c.in_ok-matches.matches c.in_ok-command.ensures.line c.in_ok-matches.ensures.matches in
    c.in_ok-paths_asked.ensures ∙ ap paths_of rows

pub returns-clause-kinds : goal.returns-clause-kinds
returns-clause-kinds c =
    let line = c.in_ok-command.ensures.line in
    let m = c.in_ok-matches.matches in
    let words = word_texts c.args.words.now in
    let rows = rows_found c.in_ok-command.field-0 words m line c.in_ok-matches.ensures.matches in
    let fault : fault_of command_line words ≡ [] = ap (λ a. fault_of a words) (sym line) ∙ c.in_ok-matches.ensures.kinds (ap is_simple_and_free line ∙ is_free_line) in
    let order = c.get_str-order.ensures ∙ first_value-rows (found_of m) (codes "order") ∙ ap (first_of (codes "order")) rows in
    let orders = c.get_str.ensures ∙ first_value-rows (found_of m) (codes "orders") ∙ ap (first_of (codes "orders")) rows in
    past _ _ fault ∙ past _ _ (ap conflict_kinds (sym rows) ∙ c.in_ok-check_excluded.ensures) ∙ ap playing_kinds (sym (ap₂ playing_by order orders)) ∙ c.in_ok-playing_asked.ensures.kinds

pub returns-in_err-matches-clause-kinds : goal.returns-in_err-matches-clause-kinds
returns-in_err-matches-clause-kinds c =
    let words = word_texts c.args.words.now in
    let line = c.in_ok-command.ensures.line in
    let error = c.in_err-matches.field-0.0 in
    let has : HasKind (fault_of command_line words) error = subst (λ a. HasKind (fault_of a words) error) line (c.in_err-matches.ensures.kinds (ap is_simple_and_free line ∙ is_free_line)) in
    failed_up c.from_residual-in_err-matches.result error (λ _. refusals c.args.words.now ≡ []) (refusals c.args.words.now) c.from_residual-in_err-matches.ensures.1
    (first_fails (fault_of command_line words) _ (kind_of error) has)

pub returns-in_err-check_excluded-clause-kinds : goal.returns-in_err-check_excluded-clause-kinds
returns-in_err-check_excluded-clause-kinds c =
    let words = word_texts c.args.words.now in
    let line = c.in_ok-command.ensures.line in
    let rows = rows_found c.in_ok-command.field-0 words c.in_ok-matches.matches line c.in_ok-matches.ensures.matches in
    let fault : fault_of command_line words ≡ [] = ap (λ a. fault_of a words) (sym line) ∙ c.in_ok-matches.ensures.kinds (ap is_simple_and_free line ∙ is_free_line) in
    let error = c.in_err-check_excluded.field-0.0 in
    let has : HasKind (conflict_kinds (found c.args.words.now)) error = subst (λ r. HasKind (conflict_kinds r) error) rows c.in_err-check_excluded.ensures in
    failed_up c.from_residual-in_err-check_excluded.result error (λ _. refusals c.args.words.now ≡ []) (refusals c.args.words.now) c.from_residual-in_err-check_excluded.ensures.1
    (of_second (fault_of command_line words) (conflict_kinds (found c.args.words.now)) (playing_kinds (playing_of (found c.args.words.now))) error fault has)

pub returns-in_err-playing_asked-clause-kinds : goal.returns-in_err-playing_asked-clause-kinds
returns-in_err-playing_asked-clause-kinds c =
    let words = word_texts c.args.words.now in
    let line = c.in_ok-command.ensures.line in
    let m = c.in_ok-matches.matches in
    let rows = rows_found c.in_ok-command.field-0 words m line c.in_ok-matches.ensures.matches in
    let fault : fault_of command_line words ≡ [] = ap (λ a. fault_of a words) (sym line) ∙ c.in_ok-matches.ensures.kinds (ap is_simple_and_free line ∙ is_free_line) in
    let order = c.get_str-order.ensures ∙ first_value-rows (found_of m) (codes "order") ∙ ap (first_of (codes "order")) rows in
    let orders = c.get_str.ensures ∙ first_value-rows (found_of m) (codes "orders") ∙ ap (first_of (codes "orders")) rows in
    let error = c.in_err-playing_asked.field-0.0 in
    let has : HasKind (playing_kinds (playing_of (found c.args.words.now))) error = subst (λ o. HasKind (playing_kinds o) error) (ap₂ playing_by order orders) c.in_err-playing_asked.ensures.kinds in
    failed_up c.from_residual-in_err-playing_asked.result error (λ _. refusals c.args.words.now ≡ []) (refusals c.args.words.now) c.from_residual-in_err-playing_asked.ensures.1
    (of_third (fault_of command_line words) (conflict_kinds (found c.args.words.now)) _ error fault (ap conflict_kinds (sym rows) ∙ c.in_ok-check_excluded.ensures) has)
