use Rattle.std.proofs.Common.{◌≡◌, ◌≤◌, length, take}
use Rattle.std.specs.Prelude.{flat_map}
use Rattle.strm_shared_entry.specs.Entry.{serial_of}
use Rattle.strm_shared_entry.proofs.service_info.taken_out.Given as goal

-- the serials of the modules so far
abbrev pub invariant-loop-module : goal.invariant-loop-module
invariant-loop-module g l = record {
  taken : l.out.items ≡ flat_map serial_of (take l.module-index l.fn.back.items);
  few : length l.out.items ≤ l.module-index;
}
