use Rattle.std.proofs.Common.{◌≡◌, ◌++◌}
use Rattle.port_termio.specs.Edit.{rubbed_out}
use Rattle.port_termio.proofs.echo.show_rub_out.Given as goal

abbrev pub invariant-loop : goal.invariant-loop
invariant-loop l = record {
  so_far : l.out.items ≡ l.initial.out.items ++ rubbed_out l.counter;
}
