-- The lines of links in a transcript.
use Rattle.std.specs.Prelude.{ℕ, List, [], ◌∷◌, ◌++◌, length, slice_get, Option, Some, None, codes}
use Rattle.std.specs.List.{flat_map}
use Rattle.strm_msg.specs.Message.{Msg}
use Rattle.strm_head_calls.specs.declared.setup.Setup.{Setup}
use Rattle.strm_link.specs.declared.passage.Passage.{Passage}
use Rattle.strm_link.specs.Link.{fresh}
use Rattle.strm_link.specs.Passage.{held_count, passage_of}
use Rattle.strm_shared_entry.specs.Entry.{Entry}
use Rattle.strm_shared_entry.specs.Own.{own}
use Rattle.strm_shared_entry.specs.Taken.{taken}
use Rattle.strm_shared_entry.specs.Logs.{history_at}
use Rattle.strm_shared_entry.specs.declared.transcript.StreamLog.{StreamLog}
use Rattle.strm_script_words.specs.Field.{Field, Number, Word}
use Rattle.strm_script_parse.specs.Plan.{Linked, Streams}
use Rattle.strm_script_print.specs.Fields.{spaced}

-- the name by which a stream was declared; an empty name if there is no such stream
abbrev pub name_in : Option (List ℕ × Setup) → List ℕ
name_in None = []
name_in (Some stream) = stream.0

-- what the carrier of a link has taken of this history; nothing where the link has no carrier
abbrev pub taken_of : {K : Type 0} → List (Entry K) → Option ℕ → List Msg
taken_of history None = []
taken_of history (Some caller) = taken (own caller history)

-- what has gone over a link: all that its carrier has taken of the first wire
abbrev pub carried_over : {K : Type 0} → List (StreamLog K) → Linked → List Msg
carried_over logs link = taken_of (history_at logs link.from) link.by

-- the name of a link, and those of its wires
abbrev pub wire_fields : Streams → Linked → List Field
wire_fields streams link =
    Word link.name ∷ Word (name_in (slice_get streams link.from)) ∷ Word (name_in (slice_get streams link.to)) ∷ []

-- the number of messages that were taken, and how far the link is
abbrev pub passage_fields : ℕ → Passage → List Field
passage_fields many passage =
    Word (codes "taken") ∷ Number many ∷ Word (codes "given") ∷ Number passage.given ∷ Word (codes "held")
    ∷ Number (held_count passage.held) ∷ []

-- the line of a link: `link NAME FROM TO taken N given N held N`
unfoldable pub passage_text : Streams → Linked → ℕ → Passage → List ℕ
passage_text streams link many passage =
    codes "link" ++ spaced (wire_fields streams link) ++ spaced (passage_fields many passage) ++ 10 ∷ []

-- the line of a link by the logs of all streams: how many messages its carrier has taken, how many it has
-- passed on of them, and how many it holds
abbrev pub link_text : {K : Type 0} → Streams → List (StreamLog K) → Linked → List ℕ
link_text streams logs link =
    passage_text streams link (length (carried_over logs link)) (passage_of (fresh link.rule) (carried_over logs link))

-- the lines of links
abbrev pub links_text : {K : Type 0} → Streams → List (StreamLog K) → List Linked → List ℕ
links_text streams logs links = flat_map (link_text streams logs) links
