-- A buffer of printed text, which is written when it is full. No public clause cites these words.
use Rattle.std.specs.Prelude.{◌≡◌, ℕ, List, [], Option, None, Some, Result, IfSome, OnOk}
use Rattle.std.specs.Io.KnownBytes.{Appends, append_known}
use Rattle.strm_script_words.specs.Field.{Field}
use Rattle.strm_script_print.specs.Fields.{spaced}
use Rattle.strm_script_print.specs.declared.line_buffer.LineBuffer.{LineBuffer}

-- nothing is gathered, and nothing was refused
pub record IsEmptyBuffer (out : LineBuffer) : Type 0 where
  pub bytes : out.bytes.items ≡ []
  pub refused : out.refused ≡ None

-- the bytes that a writer has, with the gathered ones behind them
abbrev pub with_buffered : Option (List ℕ) → LineBuffer → Option (List ℕ)
with_buffered contents out = append_known contents out.bytes.items

-- the error of a writer that refused is kept, and no other takes its place
abbrev pub KeepsError : LineBuffer → LineBuffer → Type 0
KeepsError old new = IfSome old.refused (λ error. new.refused ≡ Some error)

pub record BufferAppendsText (before after : Option (List ℕ)) (old new : LineBuffer) (text : List ℕ) : Type 0 where
  pub stays : new.refused ≡ None → old.refused ≡ None
  pub puts : new.refused ≡ None → Appends (with_buffered before old) (with_buffered after new) text
  pub keeps : KeepsError old new

-- the text goes behind the bytes of the writer and the gathered ones, unless the writer has refused; its
-- first error stays
unfoldable pub BufferAppends : Option (List ℕ) → Option (List ℕ) → LineBuffer → LineBuffer → List ℕ → Type 0
BufferAppends before after old new text = BufferAppendsText before after old new text

-- the same of a writer; `contents` says which bytes it has, where that is known
abbrev pub Adds : {W : Type 0} → (W → Option (List ℕ)) → W → W → LineBuffer → LineBuffer → List ℕ → Type 0
Adds contents before after old new text = BufferAppends (contents before) (contents after) old new text

-- the same for fields, each behind a space
abbrev pub AddsFields : {W : Type 0} → (W → Option (List ℕ)) → W → W → LineBuffer → LineBuffer → List Field → Type 0
AddsFields contents before after old new fields = Adds contents before after old new (spaced fields)

-- what was added to an empty buffer is written, unless the writer refuses or did before
abbrev pub WritesGathered : {T E : Type 0} → Option (List ℕ) → Option (List ℕ) → LineBuffer → Result T E → Type 0
WritesGathered between after out result =
    (before : Option (List ℕ)) (fresh : LineBuffer) (text : List ℕ) → IsEmptyBuffer fresh → BufferAppends before between fresh out text → OnOk result (Appends before after text)

-- all the gathered bytes are written, and nothing was refused so far
pub record IsFlushed (before after : Option (List ℕ)) (old new : LineBuffer) : Type 0 where
  pub fresh : IsEmptyBuffer new
  pub stays : old.refused ≡ None
  pub text : Appends before after old.bytes.items
