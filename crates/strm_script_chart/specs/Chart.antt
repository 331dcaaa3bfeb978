-- The chart of a history. Each of its steps is there once, in order, one below the other.
use Rattle.std.specs.Prelude.{ℕ, ◌+◌, List, [], ◌∷◌, ◌++◌, length, slice_get, Option, Some, None, codes, if◌then◌else◌}
use Rattle.std.specs.List.{flat_map, enumerate_from, zip}
use Rattle.strm_msg.specs.declared.words.End.TheVariants.{A}
use Rattle.strm_module.specs.declared.driver.Driver.{Driver}
use Rattle.strm_module.specs.Driver.{is_line}
use Rattle.strm_head_calls.specs.declared.setup.Setup.{Setup}
use Rattle.strm_shared_entry.specs.Entry.{Entry}
use Rattle.strm_shared_entry.specs.declared.transcript.StreamLog.{StreamLog}
use Rattle.strm_script_parse.specs.Plan.{Streams, NamesValue}
use Rattle.strm_script_print.specs.Fields.{KindSpelling}
use Rattle.strm_script_print.specs.Lines.{heading_text, event_text, answer_text, end_text, far_end_text, feed_text}
use Rattle.strm_script_chart.specs.Columns.{all_bars, name_row, arrow, arrow_back, moved_text}

-- ---- a step, in a chart with the columns of n processes

-- the row of the maker and the event
unfoldable pub event_row : {K : Type 0} → KindSpelling K → ℕ → Driver → List ℕ → Entry K → List ℕ
event_row spelling n driver stream entry = arrow n driver entry.who ++ event_text spelling stream entry.end entry.event ++ 10 ∷ []

-- the row of the answer; its text ends the line
unfoldable pub answer_row : {K : Type 0} → ℕ → Driver → Entry K → List ℕ
answer_row n driver entry = arrow_back n driver entry.who ++ answer_text entry.answer

-- the rows of a step: the event, the moves, and the answer
unfoldable pub entry_rows : {K : Type 0} → KindSpelling K → ℕ → Driver → List ℕ → Entry K → List ℕ
entry_rows spelling n driver stream entry = event_row spelling n driver stream entry ++ moved_text n driver entry.moves ++ answer_row n driver entry

-- the rows of the steps, each once, in order
abbrev pub entries_rows : {K : Type 0} → KindSpelling K → ℕ → Driver → List ℕ → List (Entry K) → List ℕ
entries_rows spelling n driver stream entries = flat_map (entry_rows spelling n driver stream) entries

-- ---- a stream

-- the names of the processes, each above its column
abbrev pub process_row : ℕ × List ℕ → List ℕ
process_row column = name_row column.0 column.1

abbrev pub process_names : List (List ℕ) → List ℕ
process_names processes = flat_map process_row (enumerate_from 0 processes)

-- the name of the line's column; only lines and wires have this column
abbrev pub line_name : ℕ → Driver → List ℕ
line_name left driver = if is_line driver then name_row left (codes "line") else []

-- the names of all columns, and a row of bars
unfoldable pub names_text : List (List ℕ) → List ℕ → Driver → List ℕ
names_text processes name driver =
    process_names processes ++ name_row (length processes) name ++ line_name (length processes + 1) driver ++ all_bars (length processes) driver ++ 10 ∷ []

-- the ends of a stream and the outcome of its feed, as a transcript has them
unfoldable pub left_text : {K : Type 0} → Driver → StreamLog K → List ℕ
left_text driver log = end_text A log.a ++ far_end_text driver log.b ++ feed_text driver log

-- the chart of a stream
unfoldable pub stream_chart : {K : Type 0} → KindSpelling K → List (List ℕ) → List ℕ → Setup → StreamLog K → List ℕ
stream_chart spelling processes name setup log =
    heading_text name ++ names_text processes name setup.driver ++ entries_rows spelling (length processes) setup.driver name log.history.items ++ left_text setup.driver log

-- the chart of a stream, if there is one
abbrev pub found_chart : {K : Type 0} → KindSpelling K → List (List ℕ) → Option (List ℕ × Setup) → StreamLog K → List ℕ
found_chart spelling processes None log = []
found_chart spelling processes (Some stream) log = stream_chart spelling processes stream.0 stream.1 log

-- the chart of the stream of a number; nothing if there is no such stream
abbrev pub numbered_chart : {K : Type 0} → KindSpelling K → NamesValue → ℕ → StreamLog K → List ℕ
numbered_chart spelling names number log = found_chart spelling names.processes (slice_get names.streams number) log

-- the charts of all streams, each with the name by which it was declared
abbrev pub streams_chart : {K : Type 0} → KindSpelling K → List (List ℕ) → Streams → List (StreamLog K) → List ℕ
streams_chart spelling processes streams logs = flat_map (λ stream. stream_chart spelling processes stream.0.0 stream.0.1 stream.1) (zip streams logs)

-- the chart of a transcript, by the names of its streams and processes
abbrev pub chart_text : {K : Type 0} → KindSpelling K → NamesValue → List (StreamLog K) → List ℕ
chart_text spelling names logs = streams_chart spelling names.processes names.streams logs
