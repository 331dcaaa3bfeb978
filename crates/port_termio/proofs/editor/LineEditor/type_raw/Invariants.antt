use Rattle.std.proofs.Common.{◌≡◌, ◌++◌, drop}
use Rattle.std.specs.List.{concat}
use Rattle.port_termio.specs.Edit.{typed}
use Rattle.port_termio.proofs.editor.LineEditor.type_raw.Given as goal

abbrev pub invariant-loop-key : goal.invariant-loop-key
invariant-loop-key l =
    let all = typed l.fn.self.modes l.fn.self.line l.keys in
    let rest = typed l.fn.self.modes l.self.line (drop l.key-index l.keys) in
    record {
      up : concat all.lines ≡ l.up.items ++ concat rest.lines;
      screen : all.screen ≡ l.screen.items ++ rest.screen;
      line : all.line ≡ rest.line;
      modes : l.self.modes ≡ l.fn.self.modes;
    }
