use Rattle.std.proofs.Common.{◌≡◌, refl, length, map, slice_get, Some}
use Rattle.std.proofs.lemmas.Option.{slice_get_read}
use Rattle.strm_script_parse.specs.Plan.{streams_view}
use Rattle.strm_script_chart.proofs.ChartLemmas.{one_more_written}
use Rattle.strm_script_chart.proofs.charting.chart.Goals as goal

pub loop-number-preserved : goal.loop-number-preserved
loop-number-preserved g c =
    let log = c.log-item.result in
    let number = c.loop-number.number in
    let seen = c.deref-log-items.result.now in
    let found : slice_get seen number ≡ Some log = slice_get_read seen (length seen) number log refl c.loop-number-test.true c.log-item.is in
    let is : slice_get c.args.transcript.now.streams.items number ≡ Some log = rw c.deref-log-items.ensures.value at found in
    one_more_written g.K.PrintKind.spelling _ _ _ (map (λ name. name.items) c.args.names.now.processes.items) (streams_view c.args.names.now.streams.entries) c.args.transcript.now.streams.items number log is c.loop-number.invariant c.in_ok-put_numbered.ensures
