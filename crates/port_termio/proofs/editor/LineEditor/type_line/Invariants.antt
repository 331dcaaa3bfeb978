use Rattle.std.proofs.Common.{◌≡◌, drop}
use Rattle.port_termio.specs.Typing.{line_typed, shown_before}
use Rattle.port_termio.proofs.editor.LineEditor.type_line.Given as goal

abbrev pub invariant-loop-i : goal.invariant-loop-i
invariant-loop-i l = record {
  typed :
      line_typed l.fn.self.modes l.fn.self.line l.keys
      ≡ shown_before l.screen.items (line_typed l.fn.self.modes l.self.line (drop l.i l.keys));
  modes : l.self.modes ≡ l.fn.self.modes;
}
