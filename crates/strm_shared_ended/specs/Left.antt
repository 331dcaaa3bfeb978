-- The log of a stream that has ended.
use Rattle.std.specs.Prelude.{ℕ, Option, Some, None, if◌then◌else◌}
use Rattle.arrayvec.specs.ArrayVec.{ArrayVec}
use Rattle.strm_chain_end.specs.End.{EndState}
use Rattle.strm_head_ioctl.specs.Names.{names_of}

-- the names of the modules on an end that is open, topmost first
abbrev pub names_at : {K : Type 0} → EndState K → Option (ArrayVec (ArrayVec ℕ))
names_at e = if e.is_open then Some (record { items = names_of e }) else None
