-- The streams of a plan.
use Rattle.std.specs.Prelude.{ℕ, List, map}
use Rattle.arrayvec.specs.ArrayVec.{ArrayVec}
use Rattle.indexmap.specs.IndexMap.{IndexMap}
use Rattle.strm_head_calls.specs.declared.setup.Setup.{Setup}

-- the name and the setup of each stream, in order of declaration
abbrev pub Streams : Type 0
Streams = List (List ℕ × Setup)

-- the streams, by the bytes of their names
abbrev pub streams_view : List (ArrayVec ℕ × Setup) → Streams
streams_view entries = map (λ entry. (entry.0.items, entry.1)) entries

-- the streams of a map, in its order
abbrev pub streams_of : {S : Type 0} → IndexMap (ArrayVec ℕ) Setup S → Streams
streams_of declared = streams_view declared.entries
