-- The line that is shown for a fault.
use Rattle.std.specs.Prelude.{◌≡◌, ℕ, ◌-◌, ◌<◌, List, Some, slice_get}
use Rattle.std.specs.Str.Lines.{lines}
use Rattle.strm_script_parse.specs.declared.fault.ScriptFault.{ScriptFault}
use Rattle.strm_script_explain.specs.Mark.{IsMark}
use Rattle.strm_script_explain.specs.Marked.{Suits}
use Rattle.strm_script_explain.specs.declared.explaining.Shown.{Shown}

-- the line of this number, from 1, in a text
pub record IsLine (text : List ℕ) (number : ℕ) (line : List ℕ) : Type 0 where
  pub from_one : 0 < number
  pub line_is : slice_get (lines text) (number - 1) ≡ Some line

-- the line of a fault is shown, with a mark under what suits its cause
pub record IsShown (text : List ℕ) (fault : ScriptFault) (shown : Shown) : Type 0 where
  pub number_is : shown.number ≡ fault.line
  pub line : IsLine text fault.line shown.line.now
  pub suits : Suits fault.cause shown.line.now shown.marked
  pub mark : IsMark shown.line.now shown.marked shown.column shown.width
