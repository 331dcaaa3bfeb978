-- What is printed of a script that was played.
use Rattle.std.specs.Prelude.{ℕ, List, []}
use Rattle.strm_module.specs.declared.kind.Kind.{Kind}
use Rattle.strm_shared_entry.specs.declared.transcript.StreamLog.{StreamLog}
use Rattle.strm_script_parse.specs.Plan.{NamesValue}
use Rattle.strm_script_print.specs.Fields.{builtin_spelling}
use Rattle.strm_script_print.specs.Lines.{transcript_text}
use Rattle.strm_script_chart.specs.Chart.{chart_text}
use Rattle.strsh_options.specs.declared.options.Output.{Output}
use Rattle.strsh_options.specs.declared.options.Output.TheVariants.{Transcript, Chart, Quiet}

-- the outcome of its streams: a transcript, a chart, or nothing
abbrev pub outcome_text : Output → NamesValue → List (StreamLog Kind) → List ℕ
outcome_text Transcript names logs = transcript_text builtin_spelling names logs
outcome_text Chart names logs = chart_text builtin_spelling names logs
outcome_text Quiet names logs = []
