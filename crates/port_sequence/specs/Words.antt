-- The discipline in scripts.
use Rattle.std.specs.Prelude.{ℕ, List, [], ◌∷◌, Some, None, Result, Ok, Err, codes, if◌then◌else◌}
use Rattle.std.specs.Str.{bytes_eq}
use Rattle.strm_script_words.specs.Fault.{◌>>=◌}
use Rattle.strm_script_words.specs.Field.{Number, number_at}
use Rattle.strm_script_words.specs.Naming.{KindWords}
use Rattle.strm_script_words.specs.declared.fault.Cause.{Cause}
use Rattle.strm_script_words.specs.declared.fault.Cause.TheVariants as causes
use Rattle.strm_script_print.specs.Fields.{KindSpelling}
use Rattle.port_sequence.specs.declared.kinds.Sequence.{Sequence}

-- a module with this first number on both ways
abbrev pub from : ℕ → Sequence
from first = record { down = first; up = first; lost = 0 }

-- the kind of FIRST, 0 to 255
abbrev pub begun : List (List ℕ) → Result Sequence Cause
begun (first ∷ []) = number_at 255 first >>= λ n. Ok (from n)
begun texts = Err causes.Fields

-- the words of `sequence FIRST`
abbrev pub sequence_words : KindWords Sequence
sequence_words = record {
  fields = λ word. if bytes_eq word (codes "sequence") then Some 1 else None;
  begins = λ word texts. if bytes_eq word (codes "sequence") then begun texts else Err causes.UnknownWord;
}

abbrev pub sequence_spelling : KindSpelling Sequence
sequence_spelling = record { word = λ s. codes "sequence"; fields = λ s. Number s.down ∷ [] }
