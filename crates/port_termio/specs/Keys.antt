-- What the calls of a line editor give, in the words of the definitions.
use Rattle.std.specs.Prelude.{ℕ, List, option_map}
use Rattle.arrayvec.specs.ArrayVec.{ArrayVec}
use Rattle.port_termio.specs.declared.editor.Keyed.{Keyed}
use Rattle.port_termio.specs.Edit.{After, Editing}

-- the bytes of a line
abbrev pub bytes_of : ArrayVec ℕ → List ℕ
bytes_of line = line.items

-- what a key did: what it gave, and the line that it left
abbrev pub outcome : Editing → Keyed → After
outcome editing keyed = record { up = option_map bytes_of keyed.up; line = editing.line; echo = keyed.echo }
