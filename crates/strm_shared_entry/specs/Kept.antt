-- The places of the entries of a history.
use Rattle.std.specs.Prelude.{◌≡◌, false, IfSome}
use Rattle.strm_shared_once.specs.Held.{HeldValue}
use Rattle.strm_shared_entry.specs.Entry.{has_come_in}
use Rattle.strm_shared_entry.specs.declared.entry.Who.TheVariants.{Caller}
use Rattle.strm_shared_entry.specs.Entry.{Entry}

-- an entry in a cell is of a call, and of the caller next to the cell (no public clause cites it)
abbrev pub TellsItsCaller : {K : Type 0} → HeldValue (Entry K) → Type 0
TellsItsCaller held = IfSome held.owner (λ caller. (held.value.who ≡ Caller caller) × (has_come_in held.value.event ≡ false))
