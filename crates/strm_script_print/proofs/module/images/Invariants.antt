use Rattle.std.proofs.Common.{◌≡◌, ◌≤◌, length, map}
use Rattle.std.specs.Prelude.{slice_index}
use Rattle.strm_script_print.proofs.TableLemmas.{changed_below}
use Rattle.strm_script_print.proofs.module.images.Given as goal

-- what becomes of the bytes so far that are changed
abbrev pub invariant-loop-at : goal.invariant-loop-at
invariant-loop-at l = record {
  few : length l.all.items ≤ l.at;
  same : l.all.items ≡ map (slice_index l.table) (changed_below l.table l.at);
}
