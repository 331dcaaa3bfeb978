-- What a parse of the command line found, by its rows.
use Rattle.std.proofs.Common.{◌≡◌, ◌∙◌, ℕ, ◌≤◌, List, [], Option, Some, None, Result, Ok, Err, Bor, IfOk, map, pos, codes, find, bytes_eq, option_map, option_and_then, unwrap_or, arith, refl, ap, sym, subst}
use Rattle.std.specs.Str.Parse.{ParsesUnsigned}
use Rattle.std.specs.Option.{option_eq}
use Rattle.std.specs.Prelude.{Bool, true, false}
use Rattle.clap.specs.Built.{IsParsedFrom}
use Rattle.clap.specs.Facts.{Entry}
use Rattle.clap.specs.Matches.{ReadsOne, found_of, matched_of, one_text}
use Rattle.clap.specs.Simple.{HasMatchesOf}
use Rattle.clap.specs.Values.{IsSignedIn}
use Rattle.clap.specs.Walk.{row_of}
use Rattle.clap.specs.Words.{Row, Text, app_of, is_simple, matches_of, one_of, raw_values, rows_of}
use Rattle.clap.specs.declared.builder.command.Command.{Command}
use Rattle.clap.specs.declared.builder.value_parser.ValueParser.TheVariants as parsers
use Rattle.clap.specs.declared.parser.matches.ArgMatches.{ArgMatches}
use Rattle.clap.specs.declared.parser.matches.Found.{Found}
use Rattle.clap.specs.declared.parser.matches.ValueSource.{ValueSource}
use Rattle.clap.specs.declared.parser.matches.ValueSource.TheVariants.{CommandLine, DefaultValue}
use Rattle.clap.proofs.CallerReads.{signed_reads}
use Rattle.clap.proofs.WalkLemmas.{find_row, one_text-rows, raw_values-rows}
use Rattle.strm_run_input.specs.declared.validation.TheConstants.{MOST_WORKERS}
use Rattle.strsh_options.specs.declared.options.TheConstants.{DEFAULT_WORKERS}
use Rattle.strsh_options.specs.CommandLine.{command_line, is_of_words, source_of}
use Rattle.strsh_options.specs.Options.{paths_of, workers_of}
use Rattle.strsh_options.proofs.ReadLemmas.{is_simple_line, workers_read}
use Rattle.strsh_options.proofs.ValueLemmas.{text_passes}

-- where the values of an argument come from, by the rows
pub source_rows : (f : Found) (id : Text) → option_and_then (λ a. a.source) (matched_of f id) ≡ source_of id (rows_of f)
source_rows f id = go (find (λ e. bytes_eq e.0.now id) f.entries.items) ∙ ap (option_and_then (λ (r : Row). r.source)) (sym (find_row f.entries.items id))
  where
    go : (o : Option Entry) → option_and_then (λ a. a.source) (option_map (λ e. e.1) o) ≡ option_and_then (λ (r : Row). r.source) (option_map row_of o)
    go None = refl
    go (Some e) = refl

-- whether an option is among the words, by a comparison
pub words_eq : (E : ValueSource → ValueSource → Bool) → E CommandLine CommandLine ≡ true → E DefaultValue CommandLine ≡ false → (source : Option ValueSource) → option_eq E source (Some CommandLine) ≡ is_of_words source
words_eq E same other None = refl
words_eq E same other (Some CommandLine) = same
words_eq E same other (Some DefaultValue) = other

-- the paths that are copied of those that were found
pub copied : {V E : Type 0} (items : V → List (Bor Text)) (r : Result V E) (paths : List (Bor Text)) (f : Found) → IfOk r (λ v. items v ≡ paths) → option_map raw_values (matched_of f (codes "FILE")) ≡ Some (map (λ x. x.now) paths) → IfOk r (λ v. map (λ x. x.now) (items v) ≡ paths_of (rows_of f))
copied items (Ok v) paths f is some = ap (map (λ (x : Bor Text). x.now)) is ∙ ap (λ o. unwrap_or o []) (sym some ∙ raw_values-rows f (codes "FILE"))
copied items (Err e) paths f is some = tt

-- no paths, where none were found
pub none_found : (f : Found) → option_map raw_values (matched_of f (codes "FILE")) ≡ None → [] ≡ paths_of (rows_of f)
none_found f none = ap (λ o. unwrap_or o []) (sym none ∙ raw_values-rows f (codes "FILE"))

-- the rows of a parse of the command line
pub rows_found : (old : Command) (words : List Text) (m : ArgMatches) → app_of old ≡ command_line → HasMatchesOf (app_of old) words m → rows_of (found_of m) ≡ matches_of command_line words
rows_found old words m line matches = (matches (ap is_simple line ∙ is_simple_line)).0 ∙ ap (λ a. matches_of a words) line

module _ (old : Command) (line : app_of old ≡ command_line) (m : ArgMatches) (p : IsParsedFrom old m) (rows : List Row) (same : rows_of (found_of m) ≡ rows) (E : Type 0) (G : List ℕ → Result ℕ E → Type 0) where
  text_is : (id : Text) → one_text (found_of m) id ≡ one_of id rows
  text_is id = one_text-rows (found_of m) id ∙ ap (one_of id) same

  -- the number of workers that is read is that of the rows, and in its range
  pub workers_asked : (read : Option ℕ) → (one_text (found_of m) (codes "workers") ≡ None → read ≡ None) → ((t : Text) → one_text (found_of m) (codes "workers") ≡ Some t → ReadsOne G t read) → ((t : Text) (r : Result ℕ E) → G t r → ParsesUnsigned 32 10 t r) → (unwrap_or read DEFAULT_WORKERS ≡ workers_of rows) × (1 ≤ unwrap_or read DEFAULT_WORKERS) × (unwrap_or read DEFAULT_WORKERS ≤ MOST_WORKERS)
  workers_asked read none some parses = workers_read E G (one_of (codes "workers") rows) read (λ e. none (text_is (codes "workers") ∙ e)) (λ t e. some t (text_is (codes "workers") ∙ e)) parses fits
    where
      fits : (t : Text) → one_of (codes "workers") rows ≡ Some t → (n : ℕ) × (read ≡ Some n) × (1 ≤ n) × (n ≤ MOST_WORKERS)
      fits t e =
          let passed = text_passes old line m p 0 (omega arith) (parsers.Signed (pos 1) (pos MOST_WORKERS)) refl (IsSignedIn (pos 1) (pos MOST_WORKERS)) (λ b v h. h) t (text_is (codes "workers") ∙ e) in
          signed_reads E G 32 1 MOST_WORKERS passed.0 read (subst (λ u. ReadsOne G u read) (sym passed.1) (some t (text_is (codes "workers") ∙ e))) parses (omega arith) passed.2
