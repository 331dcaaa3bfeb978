use Rattle.std.proofs.Common.{◌≡◌, ◌≤◌, ◌*◌, take}
use Rattle.port_termio.specs.Edit.{columns}
use Rattle.port_termio.proofs.echo.columns.Given as goal

abbrev pub invariant-loop-key : goal.invariant-loop-key
invariant-loop-key l = record {
  so_far : l.columns ≡ columns (take l.key-index l.line);
  bound : l.columns ≤ 2 * l.key-index;
}
