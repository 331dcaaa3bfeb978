use Rattle.std.proofs.Common.{◌≡◌, refl, length, map, slice_get, Some}
use Rattle.std.proofs.lemmas.Option.{slice_get_read}
use Rattle.strm_script_parse.specs.Plan.{streams_view}
use Rattle.strm_script_print.proofs.LineLemmas.{one_more_written}
use Rattle.strm_script_print.proofs.printing.put_streams.Goals as goal

pub loop-number-preserved : goal.loop-number-preserved
loop-number-preserved g c =
    let log = c.index-logs-number.result in
    let number = c.loop-number.number in
    let logs = c.args.logs.now in
    let is : slice_get logs number ≡ Some log = slice_get_read logs (length logs) number log refl c.loop-number-test.true c.index-logs-number.is in
    one_more_written g.K.PrintKind.spelling _ _ _ (map (λ name. name.items) c.args.names.now.processes.items) (streams_view c.args.names.now.streams.entries) logs number log is c.loop-number.invariant c.in_ok-put_numbered.ensures
