use Rattle.std.proofs.Common.{◌≡◌, ◌++◌, drop}
use Rattle.std.specs.List.{flat_map}
use Rattle.port_termio.specs.Typing.{shown_byte}
use Rattle.port_termio.proofs.typing.shown_text.Given as goal

abbrev pub invariant-loop-byte : goal.invariant-loop-byte
invariant-loop-byte l =
    flat_map shown_byte l.text ≡ l.shown.items ++ flat_map shown_byte (drop l.byte-index l.text)
