-- The kinds of module that a script can name, and the module that a push declares.
use Rattle.std.specs.Prelude.{false, ℕ, ◌+◌, Bool, List, [], ◌∷◌, Option, Result, Ok, Err, codes, if◌then◌else◌}
use Rattle.std.specs.Str.{bytes_eq}
use Rattle.strm_module.specs.Shape.{noenabled}
use Rattle.strm_module.specs.declared.shape.Shape.{Shape}
use Rattle.strm_module.specs.declared.shape.TheConstants.{LONGEST_NAME}
use Rattle.strm_script_text.specs.Text.{name_of}
use Rattle.strm_script_words.specs.Fault.{◌>>=◌, or_fault}
use Rattle.strm_script_words.specs.Field.{side_at}
use Rattle.strm_script_words.specs.declared.fault.Cause.{Cause}
use Rattle.strm_script_words.specs.declared.fault.Cause.TheVariants as causes

-- the words of a vocabulary's kinds, none of which is `noenable`
pub record KindWords (K : Type 0) : Type 0 where
  -- the number of fields of its own that the kind of a word has, behind KIND NAME RD WR; none if no kind has
  -- the word
  pub fields : List ℕ → Option ℕ
  -- the kind with which a module begins, by its word and those fields, or the cause of their fault
  pub begins : List ℕ → List (List ℕ) → Result K Cause

-- the word before KIND that leaves the service procedures to the program (noenable(9F))
abbrev pub is_noenable : List ℕ → Bool
is_noenable word = bytes_eq word (codes "noenable")

-- the number of the fields KIND, NAME, RD, WR, and those of the kind
abbrev pub kind_arity : {K : Type 0} → KindWords K → List (List ℕ) → Result ℕ Cause
kind_arity words [] = Err causes.Fields
kind_arity words (kind ∷ texts) = or_fault causes.UnknownWord (words.fields kind) >>= λ n. Ok (n + 4)

-- the number of fields that follow NAME:END in a push: these, and `noenable` before them where the service
-- procedures are the program's
abbrev pub push_arity : {K : Type 0} → KindWords K → List (List ℕ) → Result ℕ Cause
push_arity words [] = Err causes.Fields
push_arity words (first ∷ texts) =
    if is_noenable first then (kind_arity words texts >>= λ n. Ok (n + 1)) else kind_arity words (first ∷ texts)

-- the module of KIND NAME RD WR and the kind's own fields, with this serial
abbrev pub kind_shape_at : {K : Type 0} → KindWords K → ℕ → List (List ℕ) → Result (Shape K) Cause
kind_shape_at words serial (kind ∷ name ∷ rd ∷ wr ∷ texts) = do
  own ← or_fault causes.UnknownWord (words.fields kind)
  chosen ← or_fault causes.Name (name_of LONGEST_NAME name)
  read ← side_at rd
  write ← side_at wr
  begins ← words.begins kind texts
  Ok (record { serial = serial; name = record { items = chosen }; rd = read; wr = write; noenable = false; kind = begins })
kind_shape_at words serial texts = Err causes.Fields

-- the same, or with `noenable` before it
abbrev pub shape_at : {K : Type 0} → KindWords K → ℕ → List (List ℕ) → Result (Shape K) Cause
shape_at words serial [] = Err causes.Fields
shape_at words serial (first ∷ texts) =
    if is_noenable first then (kind_shape_at words serial texts >>= λ shape. Ok (noenabled shape))
    else kind_shape_at words serial (first ∷ texts)
