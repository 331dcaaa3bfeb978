use Rattle.std.proofs.Common.{take}
use Rattle.std.specs.Io.KnownBytes.{Appends}
use Rattle.std.specs.List.{flat_map}
use Rattle.strm_script_expect.specs.Unmet.{missed_text, missed_view}
use Rattle.strsh_options.specs.Fault.{line}
use Rattle.strsh.proofs.playing.put_lines.Given as goal

-- the lines so far are written
abbrev pub invariant-loop-one : goal.invariant-loop-one
invariant-loop-one g l =
    Appends (g.W.Write.contents l.fn.w) (g.W.Write.contents l.w) (flat_map (λ one. line (missed_text (missed_view one))) (take l.one-index l.missed))
