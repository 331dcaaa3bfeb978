-- The lines of streams, log by log.
use Rattle.std.proofs.Common.{◌≡◌, ℕ, suc, zero, ◌+◌, List, [], ◌∷◌, ◌++◌, take, slice_get, option_map, Option, Some, None, refl, sym, ap, ◌∙◌, append_assoc}
use Rattle.std.specs.Io.KnownBytes.{Appends}
use Rattle.std.proofs.lemmas.List.{append-nil}
use Rattle.std.proofs.lemmas.Option.{slice_get-map}
use Rattle.arrayvec.specs.ArrayVec.{ArrayVec}
use Rattle.strm_head_calls.specs.declared.setup.Setup.{Setup}
use native.Mathlib.Numerals.{unary_clauses}
use Rattle.strm_script_text.proofs.WriteLemmas.{appends_then}
use Rattle.strm_script_print.specs.Fields.{KindSpelling}
use Rattle.strm_shared_entry.specs.declared.transcript.StreamLog.{StreamLog}
use Rattle.strm_script_parse.specs.Plan.{Streams, streams_view}
use Rattle.strm_script_print.specs.Lines.{stream_text, streams_text, found_text}

abbrev seen : ArrayVec ℕ × Setup → List ℕ × Setup
seen entry = (entry.0.items, entry.1)

-- the stream of a number, as names are seen
pub seen_at : (entries : List (ArrayVec ℕ × Setup)) (number : ℕ) (found : Option (ArrayVec ℕ × Setup)) → found ≡ slice_get entries number → slice_get (streams_view entries) number ≡ option_map seen found
seen_at entries number found is = slice_get-map seen entries number ∙ ap (option_map seen) (sym is)

-- without logs there are no lines
no_logs : {K : Type 0} (spelling : KindSpelling K) (processes : List (List ℕ)) (streams : Streams) → streams_text spelling processes streams [] ≡ []
no_logs spelling processes [] = refl
no_logs spelling processes (stream ∷ streams) = refl

-- one log more, and the lines of its stream
pub one_more : {K : Type 0} (spelling : KindSpelling K) (processes : List (List ℕ)) (streams : Streams) (logs : List (StreamLog K)) (number : ℕ) (log : StreamLog K) → slice_get logs number ≡ Some log → streams_text spelling processes streams (take (suc number) logs) ≡ streams_text spelling processes streams (take number logs) ++ found_text spelling processes (slice_get streams number) log
one_more spelling processes streams [] number log is = absurd cc
one_more spelling processes [] (first ∷ logs) zero log is = refl
one_more spelling processes (stream ∷ streams) (first ∷ logs) zero log is =
    let same : first ≡ log = cc in
    ap (λ (rest : List ℕ). stream_text spelling processes stream.0 stream.1 first ++ rest) (no_logs spelling processes streams)
    ∙ append-nil (stream_text spelling processes stream.0 stream.1 first)
    ∙ ap (stream_text spelling processes stream.0 stream.1) same
one_more spelling processes [] (first ∷ logs) (suc number) log is = refl
one_more spelling processes (stream ∷ streams) (first ∷ logs) (suc number) log is =
    ap (λ (rest : List ℕ). stream_text spelling processes stream.0 stream.1 first ++ rest) (one_more spelling processes streams logs number log is)
    ∙ sym (append_assoc (stream_text spelling processes stream.0 stream.1 first) (streams_text spelling processes streams (take number logs)) (found_text spelling processes (slice_get streams number) log))

one_more_at : {K : Type 0} (spelling : KindSpelling K) (processes : List (List ℕ)) (streams : Streams) (logs : List (StreamLog K)) (number : ℕ) (log : StreamLog K) → slice_get logs number ≡ Some log → streams_text spelling processes streams (take (number + 1) logs) ≡ streams_text spelling processes streams (take number logs) ++ found_text spelling processes (slice_get streams number) log
one_more_at spelling processes streams logs number log is = simp unary_clauses (one_more spelling processes streams logs number log is)

-- the lines of one log more are written
pub one_more_written : {K : Type 0} (spelling : KindSpelling K) (before between after : Option (List ℕ)) (processes : List (List ℕ)) (streams : Streams) (logs : List (StreamLog K)) (number : ℕ) (log : StreamLog K) → slice_get logs number ≡ Some log → Appends before between (streams_text spelling processes streams (take number logs)) → Appends between after (found_text spelling processes (slice_get streams number) log) → Appends before after (streams_text spelling processes streams (take (number + 1) logs))
one_more_written spelling before between after processes streams logs number log is one other =
    rw (one_more_at spelling processes streams logs number log is) (appends_then before between after (streams_text spelling processes streams (take number logs)) (found_text spelling processes (slice_get streams number) log) one other)

-- with no log there is nothing to write
pub none_written : {K : Type 0} (spelling : KindSpelling K) (contents : Option (List ℕ)) (processes : List (List ℕ)) (streams : Streams) → Appends contents contents (streams_text spelling processes streams [])
none_written spelling None processes streams = tt
none_written spelling (Some xs) processes streams = rw (no_logs spelling processes streams) (sym (append-nil xs))
