-- The numbers that are read of the words of a command line, and the errors that are passed on.
use Rattle.std.proofs.Common.{◌≡◌, ℕ, ◌≤◌, true, arith, [], ◌∷◌, List, Option, Some, None, Result, Ok, unwrap_or, inl, inr, refl}
use Rattle.std.specs.Option.{option_map_or}
use Rattle.std.specs.Str.Parse.{ParsesUnsigned}
use Rattle.clap.specs.Kinds.{HasKind, Kinds, or_else}
use Rattle.clap.specs.Words.{ReadsOne, Text, is_simple}
use Rattle.clap.specs.Faults.{is_simple_and_free}
use Rattle.clap.specs.declared.error.Error.{Error}
use Rattle.clap.proofs.FaultLemmas.{past}
use Rattle.strm_run_input.specs.declared.validation.TheConstants.{MOST_WORKERS}
use Rattle.strsh_options.specs.declared.options.TheConstants.{DEFAULT_WORKERS}
use Rattle.strsh_options.specs.CommandLine.{command_line}
use Rattle.strsh_options.specs.Options.{value_of}

pub is_simple_line : is_simple command_line ≡ true
is_simple_line = refl

pub is_free_line : is_simple_and_free command_line ≡ true
is_free_line = refl

module _ (E : Type 0) (G : List ℕ → Result ℕ E → Type 0) where
  -- the number of workers that is read of a text that is in their range, or the default
  pub workers_read : (text : Option Text) (read : Option ℕ) → (text ≡ None → read ≡ None) → ((t : Text) → text ≡ Some t → ReadsOne G t read) → ((t : Text) (r : Result ℕ E) → G t r → ParsesUnsigned 32 10 t r) → ((t : Text) → text ≡ Some t → (n : ℕ) × (read ≡ Some n) × (1 ≤ n) × (n ≤ MOST_WORKERS)) → (unwrap_or read DEFAULT_WORKERS ≡ option_map_or value_of text DEFAULT_WORKERS) × (1 ≤ unwrap_or read DEFAULT_WORKERS) × (unwrap_or read DEFAULT_WORKERS ≤ MOST_WORKERS)
  workers_read None read none some parses fits = rw (none refl) (refl, omega arith, omega arith)
  workers_read (Some t) (Some n) none some parses fits =
      let number = fits t refl in
      let same : n ≡ number.0 = cc in
      ((parses t (Ok n) (some t refl)).1, rw same number.2, rw same number.3)
  workers_read (Some t) None none some parses fits = let number = fits t refl in absurd cc

-- an error of a later step, where the steps before it passed
pub of_second : (a b c : Kinds) (e : Error) → a ≡ [] → HasKind b e → HasKind (or_else a (or_else b c)) e
of_second a b c e none has = rw (past a (or_else b c) none) (go b has)
  where
    go : (b : Kinds) → HasKind b e → HasKind (or_else b c) e
    go [] h = elim h [ inl memory ↦ inl memory | inr none ↦ absurd none ]
    go (k ∷ ks) h = h

pub of_third : (a b c : Kinds) (e : Error) → a ≡ [] → b ≡ [] → HasKind c e → HasKind (or_else a (or_else b c)) e
of_third a b c e first second has = rw (past a (or_else b c) first, past b c second) has
