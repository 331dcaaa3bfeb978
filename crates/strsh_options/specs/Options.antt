-- The options that a command line asks for, and the errors of one that is wrong.
use Rattle.std.specs.Prelude.{◌≤◌, ⊤, ℕ, zero, suc, List, [], ◌∷◌, String, Option, Some, None, codes, option_map, option_and_then, unwrap_or, if◌then◌else◌}
use Rattle.std.specs.Global.{Global}
use Rattle.std.specs.Option.{option_map_or, option_or}
use Rattle.std.specs.List.{list_all}
use Rattle.std.specs.Str.{bytes_eq}
use Rattle.std.specs.Str.Parse.{digits_value, without_leading_plus}
use Rattle.clap.specs.declared.error.kind.ErrorKind.TheVariants.{ArgumentConflict, ValueValidation}
use Rattle.clap.specs.Kinds.{or_else}
use Rattle.clap.specs.Words.{Kinds, Row, Text, all_of, fault_of, first_of, one_of}
use Rattle.strm_script_text.specs.Bytes.{is_digit}
use Rattle.strm_script_text.specs.Text.{number_of}
use Rattle.strsh_options.specs.CommandLine.{command_line, found, has_conflict, is_given, word_texts}
use Rattle.strsh_options.specs.declared.options.TheConstants.{DEFAULT_WORKERS, MOST_ORDERS, MOST_SEED}
use Rattle.strsh_options.specs.declared.options.Orders.{Orders}
use Rattle.strsh_options.specs.declared.options.Orders.TheVariants.{All, First}
use Rattle.strsh_options.specs.declared.options.Output.{Output}
use Rattle.strsh_options.specs.declared.options.Output.TheVariants.{Transcript, Chart, Quiet}
use Rattle.strsh_options.specs.declared.options.Playing.{Playing}
use Rattle.strsh_options.specs.declared.options.Playing.TheVariants.{Each, InOrder, Spelt, Threads}

-- the number that digits spell, behind a sign `+` or none
abbrev pub value_of : Text → ℕ
value_of text = digits_value 10 (without_leading_plus text)

-- the number of `--workers`, or `DEFAULT_WORKERS`
abbrev pub workers_of : List Row → ℕ
workers_of rows = option_map_or value_of (one_of (codes "workers") rows) DEFAULT_WORKERS

-- who makes the calls, and in which order: the workers; one thread, in the order that a seed draws, or by the
-- steps that a text spells; or one thread, once in each of some orders
pub data Plays : Type 0 where
  by_workers : Plays
  by_seed : ℕ → Plays
  by_steps : Text → Plays
  in_each : Orders → Plays

-- a playing, by what its text says
abbrev pub plays_of : Playing → Plays
plays_of Threads = by_workers
plays_of (InOrder seed) = by_seed seed
plays_of (Spelt steps) = by_steps steps.now
plays_of (Each orders) = in_each orders

-- the steps that a text spells, if it is not digits alone
abbrev pub steps_of : Text → Option Plays
steps_of text = if list_all is_digit text then None else Some (by_steps text)

-- the order that a text asks for: that of a seed of 64 bits, or of steps
abbrev pub order_of : Text → Option Plays
order_of text = option_or (option_map by_seed (number_of MOST_SEED text)) (steps_of text)

-- that many orders, but not 0
abbrev pub first_orders : ℕ → Option Orders
first_orders zero = None
first_orders (suc n) = Some (First (suc n))

-- the orders that a text asks for: `all`, or a number from 1 to `MOST_ORDERS`, without a sign
abbrev pub orders_of : Text → Option Orders
orders_of text = if bytes_eq text (codes "all") then Some All else option_and_then first_orders (number_of MOST_ORDERS text)

-- orders that can be asked for
abbrev pub AreInRange : Orders → Type 0
AreInRange (First many) = (1 ≤ many) × (many ≤ MOST_ORDERS)
AreInRange All = ⊤

-- who makes the calls, by the texts of `--order` and `--orders`
abbrev pub playing_by : Option Text → Option Text → Option Plays
playing_by (Some order) orders = order_of order
playing_by None (Some orders) = option_map in_each (orders_of orders)
playing_by None None = Some by_workers

-- who makes the calls, by what was found
abbrev pub playing_of : List Row → Option Plays
playing_of rows = playing_by (first_of (codes "order") rows) (first_of (codes "orders") rows)

-- the orders, if there are any, can be asked for
abbrev pub PlaysInRange : Playing → Type 0
PlaysInRange (Each orders) = AreInRange orders
PlaysInRange playing = ⊤

-- what is printed
abbrev pub output_of : List Row → Output
output_of rows = if is_given (codes "chart") rows then Chart else (if is_given (codes "quiet") rows then Quiet else Transcript)

-- the paths of the scripts, in their order
abbrev pub paths_of : List Row → List Text
paths_of rows = unwrap_or (all_of (codes "FILE") rows) []

-- ---- refusals

-- the kind of error of options that exclude each other
abbrev pub conflict_kinds : List Row → Kinds
conflict_kinds rows = if has_conflict rows then ArgumentConflict ∷ [] else []

-- the kind of error of a text that asks for no order, or for no orders
abbrev pub playing_kinds : Option Plays → Kinds
playing_kinds None = ValueValidation ∷ []
playing_kinds (Some playing) = []

-- the kinds of error of the words: as `clap` reads them, else of a conflict, else of the text of `--order` or
-- `--orders`
abbrev pub refusals : List (String Global) → Kinds
refusals words =
    or_else (fault_of command_line (word_texts words)) (or_else (conflict_kinds (found words)) (playing_kinds (playing_of (found words))))
