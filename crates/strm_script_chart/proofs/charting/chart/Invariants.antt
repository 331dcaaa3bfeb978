use Rattle.std.proofs.Common.{take, map}
use Rattle.std.specs.Io.KnownBytes.{Appends}
use Rattle.strm_script_parse.specs.Plan.{streams_view}
use Rattle.strm_script_chart.specs.Chart.{streams_chart}
use Rattle.strm_script_chart.proofs.charting.chart.Given as goal

-- the charts of the logs so far are written
abbrev pub invariant-loop-number : goal.invariant-loop-number
invariant-loop-number g l =
    Appends (g.W.Write.contents l.fn.w) (g.W.Write.contents l.w) (streams_chart g.K.PrintKind.spelling (map (λ name. name.items) l.names.processes.items) (streams_view l.names.streams.entries) (take l.number l.transcript.streams.items))
