-- The kinds in scripts.
use Rattle.std.specs.Prelude.{ℕ, ◌&&◌, Bool, nat_le, List, [], ◌∷◌, Some, Result, Ok, Err, codes, if◌then◌else◌}
use Rattle.std.specs.Str.{bytes_eq}
use Rattle.strm_script_words.specs.Fault.{◌>>=◌}
use Rattle.strm_script_words.specs.Field.{Field, Number, number_at}
use Rattle.strm_script_words.specs.Naming.{KindWords}
use Rattle.strm_script_words.specs.Push.{builtin_words}
use Rattle.strm_script_words.specs.declared.fault.Cause.{Cause}
use Rattle.strm_script_words.specs.declared.fault.Cause.TheVariants as causes
use Rattle.strm_script_words.specs.declared.field.TheConstants.{MOST_U32}
use Rattle.strm_script_print.specs.Fields.{KindSpelling, builtin_spelling}
use Rattle.port_arq.specs.Peer.{fresh}
use Rattle.port_arq.specs.declared.peer.TheConstants.{MOST_WINDOW}
use Rattle.port_arq_module.specs.declared.kinds.ArqKind.{ArqKind}
use Rattle.port_arq_module.specs.declared.kinds.ArqKind.TheVariants.{Builtin, Arq}

abbrev pub is_arq : List ℕ → Bool
is_arq word = bytes_eq word (codes "arq")

abbrev pub is_from_one : ℕ → ℕ → Bool
is_from_one most n = nat_le 1 n && nat_le n most

-- a number from 1 up to a limit
abbrev pub one_upto : ℕ → List ℕ → Result ℕ Cause
one_upto most text = number_at most text >>= λ n. if is_from_one most n then Ok n else Err causes.Number

-- the kind of WINDOW and INTERVAL
abbrev pub end_at : List (List ℕ) → Result ArqKind Cause
end_at (window ∷ interval ∷ []) = do
  most ← one_upto MOST_WINDOW window
  ticks ← one_upto MOST_U32 interval
  Ok (Arq (fresh most ticks))
end_at texts = Err causes.Fields

-- the words of `arq WINDOW INTERVAL`, and those of the built-in kinds
abbrev pub arq_words : KindWords ArqKind
arq_words = record {
  fields = λ word. if is_arq word then Some 2 else builtin_words.fields word;
  begins = λ word texts.
      if is_arq word then end_at texts else (builtin_words.begins word texts >>= λ kind. Ok (Builtin kind));
}

abbrev pub word_of : ArqKind → List ℕ
word_of (Builtin kind) = builtin_spelling.word kind
word_of (Arq peer) = codes "arq"

abbrev pub fields_of : ArqKind → List Field
fields_of (Builtin kind) = builtin_spelling.fields kind
fields_of (Arq peer) = Number peer.window ∷ Number peer.interval ∷ []

abbrev pub arq_spelling : KindSpelling ArqKind
arq_spelling = record { word = word_of; fields = fields_of }
