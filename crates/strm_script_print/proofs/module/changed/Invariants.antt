use Rattle.std.proofs.Common.{◌≡◌, ◌≤◌, length}
use Rattle.strm_script_print.proofs.TableLemmas.{changed_below}
use Rattle.strm_script_print.proofs.module.changed.Given as goal

-- the bytes so far that are changed
abbrev pub invariant-loop-at : goal.invariant-loop-at
invariant-loop-at l = record {
  few : length l.all.items ≤ l.at;
  same : l.all.items ≡ changed_below l.table l.at;
}
