-- The lines of a transcript.
use Rattle.std.specs.Prelude.{ℕ, List, [], ◌∷◌, ◌++◌, slice_get, Option, Some, None, codes, if◌then◌else◌}
use Rattle.std.specs.Option.{unwrap_or}
use Rattle.std.specs.List.{flat_map}
use Rattle.arrayvec.specs.ArrayVec.{ArrayVec}
use Rattle.strm_msg.specs.declared.words.End.{End}
use Rattle.strm_msg.specs.declared.words.End.TheVariants.{A, B}
use Rattle.strm_module.specs.declared.shape.Shape.{Shape}
use Rattle.strm_module.specs.declared.driver.Driver.{Driver}
use Rattle.strm_module.specs.Driver.{is_line}
use Rattle.strm_module.specs.declared.driver.Driver.TheVariants.{Loop}
use Rattle.strm_head_calls.specs.declared.request.Request.{Request}
use Rattle.strm_head_calls.specs.declared.answer.Answer.{Answer}
use Rattle.strm_head_calls.specs.declared.setup.Setup.{Setup}
use Rattle.strm_head_calls.specs.declared.event.Event.{Event}
use Rattle.strm_head_calls.specs.declared.event.Event.TheVariants.{Asked, Arrived}
use Rattle.strm_shared_entry.specs.declared.entry.Who.{Who}
use Rattle.strm_shared_entry.specs.declared.entry.Who.TheVariants as whos
use Rattle.strm_shared_entry.specs.Entry.{Entry}
use Rattle.strm_shared_entry.specs.declared.transcript.StreamLog.{StreamLog}
use Rattle.strm_script_words.specs.Field.{Field, Number, Word}
use Rattle.strm_script_words.specs.Table.{word_of, asked_of}
use Rattle.strm_script_parse.specs.Plan.{Streams, NamesValue}
use Rattle.strm_script_print.specs.Fields.{KindSpelling, spaced, verb_of, fields_of, message_fields}
use Rattle.strm_script_print.specs.Replies.{answer_fields, name_fields}
use Rattle.strm_script_print.specs.Links.{links_text}

abbrev pub end_word : End → List ℕ
end_word A = codes "a"
end_word B = codes "b"

-- the name of a process, by its number; an empty name if there is no such process
abbrev pub name_at : List (List ℕ) → ℕ → List ℕ
name_at processes n = unwrap_or (slice_get processes n) []

-- the maker of a step: a process, or the line
abbrev pub who_text : List (List ℕ) → Who → List ℕ
who_text processes (whos.Caller n) = name_at processes n
who_text processes whos.Line = codes "line"

-- the field NAME:END
abbrev pub target_field : List ℕ → End → Field
target_field stream at_end = Word (stream ++ 58 ∷ end_word at_end)

-- the text of a call: ` VERB NAME:END FIELDS`
unfoldable pub call_text : {K : Type 0} → KindSpelling K → List ℕ → End → Request (Shape K) → List ℕ
call_text spelling stream at_end request =
    spaced (Word (word_of (verb_of (asked_of request))) ∷ target_field stream at_end ∷ []) ++ spaced (fields_of spelling (asked_of request))

-- the text of an event: the call, or the message that came in
abbrev pub event_text : {K : Type 0} → KindSpelling K → List ℕ → End → Event (Shape K) → List ℕ
event_text spelling stream at_end (Asked request) = call_text spelling stream at_end request
event_text spelling stream at_end (Arrived m) = spaced (message_fields m)

-- the reply of an answer, with a blank in front of each field: what stands behind the `:`
abbrev pub said_text : Answer → List ℕ
said_text answer = spaced (answer_fields answer)

-- the text of an answer: ` : REPLY`, and the end of the line
unfoldable pub answer_text : Answer → List ℕ
answer_text answer = spaced (Word (codes ":") ∷ []) ++ said_text answer ++ 10 ∷ []

-- the line of a step
unfoldable pub entry_text : {K : Type 0} → KindSpelling K → List (List ℕ) → List ℕ → Entry K → List ℕ
entry_text spelling processes stream entry =
    who_text processes entry.who ++ event_text spelling stream entry.end entry.event ++ answer_text entry.answer

abbrev pub entries_text : {K : Type 0} → KindSpelling K → List (List ℕ) → List ℕ → List (Entry K) → List ℕ
entries_text spelling processes stream entries = flat_map (entry_text spelling processes stream) entries

-- the line of an end: `open END NAME ..`, the names topmost first, or `closed END`
unfoldable pub end_text : End → Option (ArrayVec (ArrayVec ℕ)) → List ℕ
end_text at_end None = codes "closed" ++ spaced (Word (end_word at_end) ∷ []) ++ 10 ∷ []
end_text at_end (Some names) = codes "open" ++ spaced (Word (end_word at_end) ∷ name_fields names.items) ++ 10 ∷ []

-- the line of end B of a loop; the other drivers have none
abbrev pub far_end_text : Driver → Option (ArrayVec (ArrayVec ℕ)) → List ℕ
far_end_text Loop names = end_text B names
far_end_text driver names = []

-- the numbers of a feed's messages that were accepted, that came in, and that were handed back
abbrev pub count_fields : {K : Type 0} → StreamLog K → List Field
count_fields log =
    Word (codes "accepted") ∷ Number log.accepted ∷ Word (codes "arrived") ∷ Number log.arrived ∷ Word (codes "overrun") ∷ Number log.overrun ∷ []

unfoldable pub counts_text : {K : Type 0} → StreamLog K → List ℕ
counts_text log = spaced (count_fields log)

-- the outcome of a feed, for a line or a wire
unfoldable pub feed_text : {K : Type 0} → Driver → StreamLog K → List ℕ
feed_text driver log = if is_line driver then codes "feed" ++ counts_text log ++ 10 ∷ [] else []

-- the first line of a stream: `stream NAME`
abbrev pub heading_text : List ℕ → List ℕ
heading_text name = codes "stream" ++ spaced (Word name ∷ []) ++ 10 ∷ []

-- the lines of a stream
unfoldable pub stream_text : {K : Type 0} → KindSpelling K → List (List ℕ) → List ℕ → Setup → StreamLog K → List ℕ
stream_text spelling processes name setup log =
    heading_text name ++ entries_text spelling processes name log.history.items ++ end_text A log.a ++ far_end_text setup.driver log.b ++ feed_text setup.driver log

-- the lines of a stream, if there is one (no public clause cites them)
abbrev pub found_text : {K : Type 0} → KindSpelling K → List (List ℕ) → Option (List ℕ × Setup) → StreamLog K → List ℕ
found_text spelling processes None log = []
found_text spelling processes (Some stream) log = stream_text spelling processes stream.0 stream.1 log

-- the lines of the stream of a number; nothing if there is no such stream (no public clause cites them)
abbrev pub numbered_text : {K : Type 0} → KindSpelling K → NamesValue → ℕ → StreamLog K → List ℕ
numbered_text spelling names number log = found_text spelling names.processes (slice_get names.streams number) log

-- the lines of all streams, each with the name by which it was declared
abbrev pub streams_text : {K : Type 0} → KindSpelling K → List (List ℕ) → Streams → List (StreamLog K) → List ℕ
streams_text spelling processes [] logs = []
streams_text spelling processes (stream ∷ streams) [] = []
streams_text spelling processes (stream ∷ streams) (log ∷ logs) = stream_text spelling processes stream.0 stream.1 log ++ streams_text spelling processes streams logs

-- the text of a transcript, by the names of its streams, processes and links: the streams, and behind them the
-- links
abbrev pub transcript_text : {K : Type 0} → KindSpelling K → NamesValue → List (StreamLog K) → List ℕ
transcript_text spelling names logs =
    streams_text spelling names.processes names.streams logs ++ links_text names.streams logs names.links
