-- What is written to a writer. `contents` says which bytes a writer has, where that is known.
use Rattle.std.specs.Prelude.{ℕ, List, Option, Result, OnOk}
use Rattle.std.specs.Io.KnownBytes.{Appends}

-- the text is behind the bytes that the writer had
abbrev pub Extends : {W : Type 0} → (W → Option (List ℕ)) → W → W → List ℕ → Type 0
Extends contents old new text = Appends (contents old) (contents new) text

-- the same, unless the writer refuses
abbrev pub Writes : {W T E : Type 0} → (W → Option (List ℕ)) → W → W → Result T E → List ℕ → Type 0
Writes contents old new result text = OnOk result (Extends contents old new text)
