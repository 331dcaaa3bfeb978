use Rattle.std.proofs.Common.{◌≡◌, ◌++◌, drop, if◌then◌else◌, [], ◌∷◌}
use Rattle.port_slip.specs.Frame.{unescaped}
use Rattle.port_slip.proofs.framing.unescape.Given as goal

-- what is out, and what the rest spells behind an ESC that waits
abbrev pub invariant-loop-b : goal.invariant-loop-b
invariant-loop-b l =
    l.out.items ++ unescaped ((if l.is_behind_esc then 219 ∷ [] else []) ++ drop l.b-index l.frame)
    ≡ unescaped l.frame
