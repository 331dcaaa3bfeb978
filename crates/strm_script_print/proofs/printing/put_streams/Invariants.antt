use Rattle.std.proofs.Common.{take, map}
use Rattle.std.specs.Io.KnownBytes.{Appends}
use Rattle.strm_script_parse.specs.Plan.{streams_view}
use Rattle.strm_script_print.specs.Lines.{streams_text}
use Rattle.strm_script_print.proofs.printing.put_streams.Given as goal

-- the logs so far are written
abbrev pub invariant-loop-number : goal.invariant-loop-number
invariant-loop-number g l =
    Appends (g.W.Write.contents l.fn.w) (g.W.Write.contents l.w) (streams_text g.K.PrintKind.spelling (map (λ name. name.items) l.names.processes.items) (streams_view l.names.streams.entries) (take l.number l.logs))
