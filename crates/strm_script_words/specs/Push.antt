-- The words of the built-in kinds, and the fields of each.
use Rattle.std.specs.Prelude.{ℕ, ◌==◌, ◌&&◌, Bool, true, not, List, [], ◌∷◌, length, map, get_or, Result, Ok, Err, Option, codes, if◌then◌else◌}
use Rattle.std.specs.Option.{option_map}
use Rattle.std.specs.List.{list_any, position_or_len, range_with_len}
use Rattle.strm_module.specs.declared.kind.Kind.{Kind}
use Rattle.strm_module.specs.declared.kind.TheConstants.{MOST_SPLIT}
use Rattle.strm_module.specs.Shape.{is_split}
use Rattle.strm_script_words.specs.Fault.{◌>>=◌, or_fault}
use Rattle.strm_script_words.specs.Field.{number_at, part_at}
use Rattle.strm_script_words.specs.Naming.{KindWords}
use Rattle.strm_script_words.specs.Words.{named}
use Rattle.strm_script_words.specs.declared.fault.Cause.{Cause}
use Rattle.strm_script_words.specs.declared.fault.Cause.TheVariants as causes
use Rattle.strm_script_words.specs.declared.field.TheConstants.{MOST_BAND}
use Rattle.strm_script_words.specs.declared.push.KindWord.{KindWord}
use Rattle.strm_script_words.specs.declared.push.KindWord.TheVariants as words

-- the word of a kind
abbrev pub kind_word : KindWord → List ℕ
kind_word words.Pass = codes "pass"
kind_word words.Table = codes "table"
kind_word words.CrNl = codes "crnl"
kind_word words.Line = codes "line"
kind_word words.Count = codes "count"
kind_word words.Band = codes "band"
kind_word words.Tee = codes "tee"
kind_word words.Mute = codes "mute"
kind_word words.Split = codes "split"

abbrev pub all_kinds : List KindWord
all_kinds = words.Pass ∷ words.Table ∷ words.CrNl ∷ words.Line ∷ words.Count ∷ words.Band ∷ words.Tee ∷ words.Mute ∷ words.Split ∷ []

-- the kind of a word
abbrev pub kind_named : List ℕ → Option KindWord
kind_named text = named kind_word all_kinds text

-- the number of a kind's own fields
abbrev pub own_fields : KindWord → ℕ
own_fields words.Table = 2
own_fields words.Band = 1
own_fields words.Split = 1
own_fields word = 0

-- whether no byte is there twice
abbrev pub are_distinct : List ℕ → Bool
are_distinct [] = true
are_distinct (byte ∷ bytes) = not (list_any (λ other. other == byte) bytes) && are_distinct bytes

-- whether a table can map these bytes to those
abbrev pub is_mapping : List ℕ → List ℕ → Bool
is_mapping from to = (length from == length to) && are_distinct from

-- the byte that a table puts in the place of a byte: the one at the same index, or the byte itself if there
-- is none
abbrev pub image_of : List ℕ → List ℕ → ℕ → ℕ
image_of from to byte = get_or to (position_or_len (λ other. other == byte) from) byte

-- the table of all 256 bytes
unfoldable pub table_of : List ℕ → List ℕ → List ℕ
table_of from to = map (image_of from to) (range_with_len 0 256)

-- the kind of FROM and TO
abbrev pub table_at : List (List ℕ) → Result Kind Cause
table_at (from ∷ to ∷ []) = do
  one ← part_at from
  other ← part_at to
  if is_mapping one other then Ok (Kind.Table (table_of one other)) else Err causes.Part
table_at texts = Err causes.Fields

-- the kind of BAND
abbrev pub band_at : List (List ℕ) → Result Kind Cause
band_at (text ∷ []) = number_at MOST_BAND text >>= λ band. Ok (Kind.Band band)
band_at texts = Err causes.Fields

-- the kind of N, the number of bytes that a module that splits lets through at once
abbrev pub size_at : List (List ℕ) → Result Kind Cause
size_at (text ∷ []) = number_at MOST_SPLIT text >>= λ n. if is_split n then Ok (Kind.Split n) else Err causes.Number
size_at texts = Err causes.Fields

-- a kind without fields of its own
abbrev pub alone : Kind → List (List ℕ) → Result Kind Cause
alone kind [] = Ok kind
alone kind (text ∷ texts) = Err causes.Fields

-- the kind with which a module begins
abbrev pub kind_at : KindWord → List (List ℕ) → Result Kind Cause
kind_at words.Pass texts = alone Kind.Pass texts
kind_at words.Table texts = table_at texts
kind_at words.CrNl texts = alone Kind.CrNl texts
kind_at words.Line texts = alone (Kind.Line []) texts
kind_at words.Count texts = alone (Kind.Count 0) texts
kind_at words.Band texts = band_at texts
kind_at words.Tee texts = alone Kind.Tee texts
kind_at words.Mute texts = alone Kind.Mute texts
kind_at words.Split texts = size_at texts

-- the built-in kinds, by the words that scripts name them by
abbrev pub builtin_words : KindWords Kind
builtin_words = record {
  fields = λ text. option_map own_fields (kind_named text);
  begins = λ text texts. or_fault causes.UnknownWord (kind_named text) >>= λ word. kind_at word texts;
}
