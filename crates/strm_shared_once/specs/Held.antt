-- Values that are held, their places, and their holders. Public clauses cite `HeldValue` and `IsSharedBy`
-- alone.
use Rattle.std.specs.Prelude.{◌≡◌, ℕ, List, Option, Some, None, slice_get, ⊤, MatchOption}
use Rattle.std.specs.Option.{option_map}
use Rattle.std.specs.Arc.{arc_value}
use Rattle.once_cell.specs.Once.{cell_name}
use Rattle.once_cell.specs.declared.race.OnceBox.{OnceBox}
use Rattle.once_cell.specs.declared.race.Note.{Note}
use Rattle.strm_shared_once.specs.Known.{known_value}
use Rattle.strm_shared_once.specs.declared.held.Place.{Place}
use Rattle.strm_shared_once.specs.declared.held.Place.TheVariants.{InCell, Alone}

-- a value, and the owner that was given when it was set into a cell that two hold
pub record HeldValue (T : Type 0) : Type 0 where
  pub owner : Option ℕ
  pub value : T

-- two hold the value, both with this owner; or one holds it alone
abbrev pub IsSharedBy : {T : Type 0} → ℕ → HeldValue T → Option (HeldValue T) → Type 0
IsSharedBy owner held other = MatchOption other (held.owner ≡ None) (λ again. (again ≡ held) × (held.owner ≡ Some owner))

-- a value in a cell that two hold, with its owner
abbrev pub owned_value : {T : Type 0} → ℕ → T → HeldValue T
owned_value owner value = record { owner = Some owner; value = value }

-- the note is of the cell at this index of a block
abbrev pub IsNoteOf : {T : Type 0} → List (OnceBox T) → ℕ → Note T → Type 0
IsNoteOf cells at note = option_map cell_name (slice_get cells at) ≡ Some note.cell

abbrev pub owner_of : {T : Type 0} → Place T → Option ℕ
owner_of (InCell at owner block known) = Some owner
owner_of (Alone value) = None

abbrev pub value_of : {T : Type 0} → Place T → T
value_of (InCell at owner block known) = known_value known.note.known known.full
value_of (Alone value) = value.value

-- the note is of the cell that is held
abbrev pub IsOfCell : {T : Type 0} → Place T → Type 0
IsOfCell (InCell at owner block known) = IsNoteOf (arc_value block).items at known.note
IsOfCell (Alone value) = ⊤
