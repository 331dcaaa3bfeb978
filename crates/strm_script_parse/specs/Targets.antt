-- NAME:END, the stream and the end of a call.
use Rattle.std.specs.Prelude.{ℕ, Bool, List, Option, Some, None, codes, map, position, slice_get, if◌then◌else◌}
use Rattle.std.specs.List.{list_any}
use Rattle.std.specs.Str.{bytes_eq}
use Rattle.strm_msg.specs.declared.words.End.{End}
use Rattle.strm_msg.specs.declared.words.End.TheVariants.{A, B}
use Rattle.strm_script_text.specs.Text.{◌>>=◌, halves_of, name_of}
use Rattle.strm_module.specs.declared.driver.Driver.{Driver}
use Rattle.strm_module.specs.declared.driver.Driver.TheVariants.{Loop}
use Rattle.strm_script_parse.specs.declared.plan.TheConstants.{LONGEST}
use Rattle.strm_script_parse.specs.Streams.{Streams}

-- the names of the streams, in order
abbrev pub stream_names : Streams → List (List ℕ)
stream_names streams = map (λ entry. entry.0) streams

-- whether a stream has this name
abbrev pub has_stream : Streams → List ℕ → Bool
has_stream streams name = list_any (bytes_eq name) (stream_names streams)

-- the end `a`
abbrev pub end_a : List ℕ → Option End
end_a text = if bytes_eq text (codes "a") then Some A else None

-- the end of a word: `a`, or `b` for a loop stream
abbrev pub end_of : Driver → List ℕ → Option End
end_of Loop text = if bytes_eq text (codes "b") then Some B else end_a text
end_of driver text = end_a text

-- the number and the driver of the stream of this name
abbrev pub stream_of : Streams → List ℕ → Option (ℕ × Driver)
stream_of streams wanted = do
  number ← position (bytes_eq wanted) (stream_names streams)
  entry ← slice_get streams number
  Some (number, entry.1.driver)

-- the number and the driver of the stream that a field names
abbrev pub stream_at : Streams → List ℕ → Option (ℕ × Driver)
stream_at streams text = name_of LONGEST text >>= λ wanted. stream_of streams wanted

-- the number of the stream and the end of a NAME:END
abbrev pub target_of : Streams → List ℕ → Option (ℕ × End)
target_of streams text = do
  halves ← halves_of 58 text
  found ← stream_at streams halves.0
  end ← end_of found.1 halves.1
  Some (found.0, end)
