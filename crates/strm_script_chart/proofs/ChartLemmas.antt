-- The charts of streams, log by log.
use Rattle.std.proofs.Common.{◌≡◌, ℕ, suc, zero, ◌+◌, List, [], ◌∷◌, ◌++◌, take, slice_get, Option, Some, None, refl, sym, ap, ◌∙◌}
use Rattle.std.specs.Io.KnownBytes.{Appends}
use Rattle.std.specs.List.{flat_map, zip}
use Rattle.std.proofs.lemmas.List.{append-nil}
use Rattle.std.proofs.lemmas.Grind.{flat_map-append}
use native.Mathlib.Numerals.{unary_clauses}
use Rattle.strm_script_text.proofs.WriteLemmas.{appends_then}
use Rattle.strm_head_calls.specs.declared.setup.Setup.{Setup}
use Rattle.strm_shared_entry.specs.declared.transcript.StreamLog.{StreamLog}
use Rattle.strm_script_parse.specs.Plan.{Streams}
use Rattle.strm_script_print.specs.Fields.{KindSpelling}
use Rattle.strm_script_chart.specs.Chart.{stream_chart, streams_chart, found_chart}

-- an element beside another, if there is one
abbrev beside : {X Y : Type 0} → Option X → Y → List (X × Y)
beside None y = []
beside (Some x) y = (x, y) ∷ []

zip-nil : {X Y : Type 0} (xs : List X) → zip {X = Y} xs [] ≡ []
zip-nil [] = refl
zip-nil (x ∷ xs) = refl

-- one more of the second list
zip-more : {X Y : Type 0} (xs : List X) (ys : List Y) (number : ℕ) (y : Y) → slice_get ys number ≡ Some y → zip xs (take (suc number) ys) ≡ zip xs (take number ys) ++ beside (slice_get xs number) y
zip-more xs [] number y is = absurd cc
zip-more [] (first ∷ ys) zero y is = refl
zip-more (x ∷ xs) (first ∷ ys) zero y is = let same : first ≡ y = cc in ap (λ rest. (x, first) ∷ rest) (zip-nil xs) ∙ ap (λ last. (x, last) ∷ []) same
zip-more [] (first ∷ ys) (suc number) y is = refl
zip-more (x ∷ xs) (first ∷ ys) (suc number) y is = ap (λ rest. (x, first) ∷ rest) (zip-more xs ys number y is)

-- the chart of a stream that is there
found : {K : Type 0} (spelling : KindSpelling K) (processes : List (List ℕ)) (stream : Option (List ℕ × Setup)) (log : StreamLog K) → flat_map (λ (s : (List ℕ × Setup) × StreamLog K). stream_chart spelling processes s.0.0 s.0.1 s.1) (beside stream log) ≡ found_chart spelling processes stream log
found {K} spelling processes None log = refl
found {K} spelling processes (Some stream) log = append-nil (stream_chart spelling processes stream.0 stream.1 log)

one_more : {K : Type 0} (spelling : KindSpelling K) (processes : List (List ℕ)) (streams : Streams) (logs : List (StreamLog K)) (number : ℕ) (log : StreamLog K) → slice_get logs number ≡ Some log → streams_chart spelling processes streams (take (number + 1) logs) ≡ streams_chart spelling processes streams (take number logs) ++ found_chart spelling processes (slice_get streams number) log
one_more {K} spelling processes streams logs number log is =
    let chart_of = λ (s : (List ℕ × Setup) × StreamLog K). stream_chart spelling processes s.0.0 s.0.1 s.1 in
    let more : zip streams (take (number + 1) logs) ≡ zip streams (take number logs) ++ beside (slice_get streams number) log = simp unary_clauses (zip-more streams logs number log is) in
    ap (flat_map chart_of) more
    ∙ flat_map-append chart_of (zip streams (take number logs)) (beside (slice_get streams number) log)
    ∙ ap (λ (last : List ℕ). streams_chart spelling processes streams (take number logs) ++ last) (found spelling processes (slice_get streams number) log)

-- the chart of one log more is written
pub one_more_written : {K : Type 0} (spelling : KindSpelling K) (before between after : Option (List ℕ)) (processes : List (List ℕ)) (streams : Streams) (logs : List (StreamLog K)) (number : ℕ) (log : StreamLog K) → slice_get logs number ≡ Some log → Appends before between (streams_chart spelling processes streams (take number logs)) → Appends between after (found_chart spelling processes (slice_get streams number) log) → Appends before after (streams_chart spelling processes streams (take (number + 1) logs))
one_more_written spelling before between after processes streams logs number log is one other =
    rw (one_more spelling processes streams logs number log is) (appends_then before between after (streams_chart spelling processes streams (take number logs)) (found_chart spelling processes (slice_get streams number) log) one other)

-- with no log there is nothing to write
pub none_written : {K : Type 0} (spelling : KindSpelling K) (contents : Option (List ℕ)) (processes : List (List ℕ)) (streams : Streams) → Appends contents contents (streams_chart spelling processes streams [])
none_written spelling None processes streams = tt
none_written spelling (Some xs) processes streams = rw (zip-nil streams) (sym (append-nil xs))
