-- The lines of streams, each by itself, and all of them.
use Rattle.std.proofs.Common.{◌≡◌, ℕ, suc, ◌<◌, Option, List, [], ◌∷◌, ◌++◌, length, map, get_or, slice_get, Vec, IfOk, OnOk, Ok, Err, refl, sym, ap, subst, ◌∙◌, arith}
use Rattle.std.proofs.lemmas.List.{length-map}
use Rattle.std.proofs.Math.ListN.{get_or-map}
use Rattle.std.specs.Global.{Global}
use Rattle.std.specs.Io.KnownBytes.{Appends}
use Rattle.std.specs.declared.result.Result.{Result}
use Rattle.strm_msg.specs.declared.memory.NoMem.{NoMem}
use Rattle.strm_shared_entry.specs.declared.transcript.StreamLog.{StreamLog}
use Rattle.strm_script_text.proofs.WriteLemmas.{appends_then}
use Rattle.strm_script_parse.specs.Plan.{NamesValue, Streams}
use Rattle.strm_script_print.specs.Fields.{KindSpelling}
use Rattle.strm_script_print.specs.Lines.{found_text, numbered_text, stream_text, streams_text}
use Rattle.strm_script_print.specs.Sharing.{AreLines, AreLinesOf, AreNumbered, joined}

-- what stands second in each pair, where it is that of the other list at each place
same_again : {R L : Type 0} (made : List (R × L)) (logs : List L) → length made ≡ length logs → ((k : ℕ) (d : R × L) (log : L) → k < length logs → (get_or made k d).1 ≡ get_or logs k log) → map (λ one. one.1) made ≡ logs
same_again {L = L} [] [] many each = refl
same_again {L = L} [] (log ∷ logs) many each = absurd (omega arith)
same_again {L = L} (one ∷ made) [] many each = absurd (omega arith)
same_again {L = L} (one ∷ made) (log ∷ logs) many each =
    let rest = same_again made logs (omega arith) (λ k d other below. each (suc k) d other (omega arith)) in
    ap (λ (x : L). x ∷ map (λ other. other.1) made) (each 0 one log (omega arith)) ∙ ap (λ (l : List L). log ∷ l) rest

-- what was made of a log, and the log again
abbrev Made : Type 0 → Type 0
Made K = Result (Vec ℕ Global) NoMem × StreamLog K

-- the lines of the stream of this number were made, unless memory was wanting, and its log is there again
pub record IsMade {K : Type 0} (spelling : KindSpelling K) (names : NamesValue) (jobs : List (ℕ × StreamLog K)) (k : ℕ) (one : Made K) : Type 0 where
  pub job : ℕ × StreamLog K
  pub job_is : (d : ℕ × StreamLog K) → get_or jobs k d ≡ job
  pub text : IfOk one.0 (AreLinesOf spelling names job.0 job.1)
  pub log : one.1 ≡ job.1

module _ {K : Type 0} (spelling : KindSpelling K) (names : NamesValue) (logs : List (StreamLog K)) (jobs : List (ℕ × StreamLog K)) (made : List (Made K)) (numbered : AreNumbered logs jobs) (many : length made ≡ length jobs) (each : (k : ℕ) (d : Made K) → k < length jobs → IsMade spelling names jobs k (get_or made k d)) where
  -- the job of a place is the log of that place, with its number
  its_job : (k : ℕ) (d : Made K) (log : StreamLog K) (below : k < length jobs) → (k, get_or logs k log) ≡ (each k d below).job
  its_job k d log below =
      let one = each k d below in
      sym (numbered.each k one.job log (omega (arith, below, numbered.many))) ∙ one.job_is one.job

  all_are : (all : List (Vec ℕ Global)) → map Ok all ≡ map (λ one. one.0) made → AreLines spelling names logs all
  all_are all are =
      let ok : Vec ℕ Global → Result (Vec ℕ Global) NoMem = λ text. Ok text in
      let first : Made K → Result (Vec ℕ Global) NoMem = λ one. one.0 in
      record {
        many = sym (length-map all ok) ∙ ap (λ l. length l) are ∙ length-map made first ∙ many ∙ numbered.many;
        each = λ k d log below.
            let other : Made K = (Ok d, log) in
            let under : k < length jobs = omega (arith, below, numbered.many) in
            let one = each k other under in
            let is : (get_or made k other).0 ≡ Ok (get_or all k d) = sym (get_or-map first made k other) ∙ ap (λ l. get_or l k (Ok d)) (sym are) ∙ get_or-map ok all k d in
            let text = subst (λ (r : Result (Vec ℕ Global) NoMem). IfOk r (AreLinesOf spelling names one.job.0 one.job.1)) is one.text in
            text ∙ ap (λ (j : ℕ × StreamLog K). numbered_text spelling names j.0 j.1) (sym (its_job k other log under));
      }

  -- the logs are there again
  all_again : map (λ one. one.1) made ≡ logs
  all_again = same_again made logs (many ∙ numbered.many) (λ k d log below.
      let under : k < length jobs = omega (arith, below, numbered.many) in
      (each k d under).log ∙ ap (λ (j : ℕ × StreamLog K). j.1) (sym (its_job k d log under)))

  -- the lines of each stream, where those of each were made
  pub lines_made : (all : Result (Vec (Vec ℕ Global) Global × Vec (StreamLog K) Global) NoMem) → IfOk all (λ all. map Ok all.0.items ≡ map (λ one. one.0) made) → IfOk all (λ all. AreLines spelling names logs all.0.items)
  lines_made (Ok all) are = all_are all.0.items are
  lines_made (Err fault) are = tt

  -- and the logs, which are there again
  pub logs_again : (all : Result (Vec (Vec ℕ Global) Global × Vec (StreamLog K) Global) NoMem) → IfOk all (λ all. all.1.items ≡ map (λ one. one.1) made) → IfOk all (λ all. all.1.items ≡ logs)
  logs_again (Ok all) are = are ∙ all_again
  logs_again (Err fault) are = tt

printed : {K : Type 0} (spelling : KindSpelling K) (processes : List (List ℕ)) (streams : Streams) (logs : List (StreamLog K)) (all : List (Vec ℕ Global)) → length all ≡ length logs → ((k : ℕ) (d : Vec ℕ Global) (log : StreamLog K) → k < length logs → (get_or all k d).items ≡ found_text spelling processes (slice_get streams k) (get_or logs k log)) → joined all ≡ streams_text spelling processes streams logs
printed spelling processes [] [] [] many each = refl
printed spelling processes (stream ∷ streams) [] [] many each = refl
printed spelling processes streams [] (one ∷ all) many each = absurd (omega arith)
printed spelling processes streams (log ∷ logs) [] many each = absurd (omega arith)
printed spelling processes [] (log ∷ logs) (one ∷ all) many each =
    let rest = printed spelling processes [] logs all (omega arith) (λ k d other below. each (suc k) d other (omega arith)) in
    ap (λ (text : List ℕ). text ++ joined all) (each 0 one log (omega arith)) ∙ rest
printed spelling processes (stream ∷ streams) (log ∷ logs) (one ∷ all) many each =
    let rest = printed spelling processes streams logs all (omega arith) (λ k d other below. each (suc k) d other (omega arith)) in
    ap (λ (text : List ℕ). text ++ joined all) (each 0 one log (omega arith)) ∙ ap (λ (text : List ℕ). stream_text spelling processes stream.0 stream.1 log ++ text) rest

-- the lines of all streams, one after another, are those of the transcript
pub all_printed : {K : Type 0} (spelling : KindSpelling K) (names : NamesValue) (logs : List (StreamLog K)) (all : List (Vec ℕ Global)) → AreLines spelling names logs all → joined all ≡ streams_text spelling names.processes names.streams logs
all_printed spelling names logs all are = printed spelling names.processes names.streams logs all are.many are.each

-- a text is written, and another one behind it
pub then_written : {T E : Type 0} (r : Result T E) (before between after : Option (List ℕ)) (first second : List ℕ) → Appends before between first → OnOk r (Appends between after second) → OnOk r (Appends before after (first ++ second))
then_written (Ok x) before between after first second one other = appends_then before between after first second one other
then_written (Err error) before between after first second one other = tt

-- what holds at any rate holds where there is a value
pub anyway : {T E : Type 0} (r : Result T E) (P : Type 0) → P → OnOk r P
anyway (Ok x) P holds = holds
anyway (Err error) P holds = tt
