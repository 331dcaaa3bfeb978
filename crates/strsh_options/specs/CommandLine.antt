-- The accepted command line.
use Rattle.std.specs.Prelude.{◌&&◌, Bool, true, false, pos, List, [], ◌∷◌, map, find, String, string_bytes, Option, Some, codes, option_and_then}
use Rattle.std.specs.Global.{Global}
use Rattle.std.specs.List.{list_any}
use Rattle.std.specs.Str.{bytes_eq}
use Rattle.clap.specs.declared.builder.action.ArgAction.TheVariants.{Append, SetTrue}
use Rattle.clap.specs.declared.builder.value_parser.ValueParser.{ValueParser}
use Rattle.clap.specs.declared.builder.value_parser.ValueParser.TheVariants as parsers
use Rattle.clap.specs.declared.parser.matches.ValueSource.{ValueSource}
use Rattle.clap.specs.declared.parser.matches.ValueSource.TheVariants.{CommandLine}
use Rattle.clap.specs.Words.{App, Row, Rule, Text, matches_of, new_app, new_rule, with_rule}
use Rattle.strm_run_input.specs.declared.validation.TheConstants.{MOST_WORKERS}

-- the rule of the option `--ID`
abbrev pub option_rule : Text → Rule
option_rule id = record (new_rule id) { long = Some id }

-- and of one that is given or not
abbrev pub flag_rule : Text → Rule
flag_rule id = record (option_rule id) { action = Some SetTrue }

-- and of one that takes any text
abbrev pub worded_rule : Text → Rule
worded_rule id = record (option_rule id) { value_names = 1 }

-- and of one with a value, which the parser takes
abbrev pub valued_rule : Text → ValueParser → Rule
valued_rule id parser = record (option_rule id) { value_names = 1; parser = Some parser }

-- the rule of `--workers N`, with 1 to `MOST_WORKERS`, and `DEFAULT_WORKERS` if it is absent
abbrev pub workers_rule : Rule
workers_rule =
    record (valued_rule (codes "workers") (parsers.Signed (pos 1) (pos MOST_WORKERS))) { defaults = codes "4" ∷ [] }

-- the rule of FILE, of which there is one or more
abbrev pub file_rule : Rule
file_rule = record (new_rule (codes "FILE")) { required = true; action = Some Append }

-- a command line with the word `--version`
abbrev pub with_version : App → App
with_version a = record a { top = record a.top { has_version = true } }

-- the command line without arguments
abbrev pub bare_line : App
bare_line = with_version (new_app (codes "strsh"))

-- the command line with all options and FILE, none of which excludes another
abbrev pub command_line : App
command_line =
    with_rule (with_rule (with_rule (with_rule (with_rule (with_rule bare_line workers_rule) (worded_rule (codes "order"))) (worded_rule (codes "orders"))) (flag_rule (codes "chart"))) (flag_rule (codes "quiet"))) file_rule

-- the texts of words
abbrev pub word_texts : List (String Global) → List Text
word_texts words = map (λ word. string_bytes word) words

-- what the command line has on these words, for each argument
abbrev pub found : List (String Global) → List Row
found words = matches_of command_line (word_texts words)

-- where the values of an argument come from
abbrev pub source_of : Text → List Row → Option ValueSource
source_of id rows = option_and_then (λ row. row.source) (find (λ row. bytes_eq row.id id) rows)

-- they come from the words, and not from a default
abbrev pub is_of_words : Option ValueSource → Bool
is_of_words (Some CommandLine) = true
is_of_words _ = false

-- an option is among the words, and not its default alone
abbrev pub is_given : Text → List Row → Bool
is_given id rows = is_of_words (source_of id rows)

-- the options that exclude each other
abbrev pub exclusions : List (Text × Text)
exclusions =
    (codes "workers", codes "order") ∷ (codes "workers", codes "orders") ∷ (codes "order", codes "orders") ∷ (codes "orders", codes "chart") ∷ (codes "orders", codes "quiet") ∷ (codes "chart", codes "quiet") ∷ []

-- two options that exclude each other are among the words
abbrev pub has_conflict : List Row → Bool
has_conflict rows = list_any (λ pair. is_given pair.0 rows && is_given pair.1 rows) exclusions
