-- The kinds of this crate in scripts.
use Rattle.std.specs.Prelude.{ℕ, Bool, Some, List, [], ◌∷◌, Result, Ok, Err, codes, if◌then◌else◌}
use Rattle.std.specs.Str.{bytes_eq}
use Rattle.strm_script_words.specs.Fault.{◌>>=◌}
use Rattle.strm_script_words.specs.Field.{Field}
use Rattle.strm_script_words.specs.Naming.{KindWords}
use Rattle.strm_script_words.specs.Push.{builtin_words}
use Rattle.strm_script_words.specs.declared.fault.Cause.{Cause}
use Rattle.strm_script_words.specs.declared.fault.Cause.TheVariants as causes
use Rattle.strm_script_print.specs.Fields.{KindSpelling, builtin_spelling}
use Rattle.port_ldterm_module.specs.Ldterm.{fresh}
use Rattle.port_ldterm_module.specs.declared.ldterm.TheConstants.{USUAL_MODES}
use Rattle.port_ldterm_module.specs.declared.kinds.Discipline.{Discipline}
use Rattle.port_ldterm_module.specs.declared.kinds.Discipline.TheVariants.{Builtin, Terminal}

abbrev pub is_ldterm : List ℕ → Bool
is_ldterm word = bytes_eq word (codes "ldterm")

-- a terminal has no fields of its own, and begins in its usual modes
abbrev pub ldterm_at : List (List ℕ) → Result Discipline Cause
ldterm_at [] = Ok (Terminal (fresh USUAL_MODES))
ldterm_at (text ∷ texts) = Err causes.Fields

-- the word `ldterm`, and those of the built-in kinds
abbrev pub discipline_words : KindWords Discipline
discipline_words = record {
  fields = λ word. if is_ldterm word then Some 0 else builtin_words.fields word;
  begins = λ word texts. if is_ldterm word then ldterm_at texts else (builtin_words.begins word texts >>= λ kind. Ok (Builtin kind));
}

abbrev pub spelled_word : Discipline → List ℕ
spelled_word (Builtin kind) = builtin_spelling.word kind
spelled_word (Terminal t) = codes "ldterm"

abbrev pub spelled_fields : Discipline → List Field
spelled_fields (Builtin kind) = builtin_spelling.fields kind
spelled_fields (Terminal t) = []

abbrev pub discipline_spelling : KindSpelling Discipline
discipline_spelling = record { word = spelled_word; fields = spelled_fields }
