-- The bytes of a part.
use Rattle.std.specs.Prelude.{ℕ, ◌≤◌, List, [], ⊤, length, slice_range}
use Rattle.std.specs.Arc.{arc_value}
use Rattle.strm_msg.specs.declared.bytes.Storage.{Storage}
use Rattle.strm_msg.specs.declared.bytes.Storage.TheVariants.{Empty, Small, Whole, Part}

-- the bytes that are stored
abbrev pub bytes_of : Storage → List ℕ
bytes_of Empty = []
bytes_of (Small small) = (arc_value small).items
bytes_of (Whole whole) = (arc_value whole).items
bytes_of (Part range) = slice_range (arc_value (arc_value range).whole).items (arc_value range).start (arc_value range).end

-- a range lies within its vector
abbrev pub IsWithin : Storage → Type 0
IsWithin (Part range) = ((arc_value range).start ≤ (arc_value range).end) × ((arc_value range).end ≤ length (arc_value (arc_value range).whole).items)
IsWithin _ = ⊤
