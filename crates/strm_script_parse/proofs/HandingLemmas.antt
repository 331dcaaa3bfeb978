-- What a run is given of a plan that was read meets what a run asks for.
use Rattle.std.proofs.Common.{◌≡◌, ℕ, zero, suc, ◌<◌, ◌≤◌, ◌==◌, ◌&&◌, ◌||◌, not, Bool, true, false, Option, Some, None, IfSome, List, [], ◌∷◌, ◌++◌, map, length, get_or, slice_get, All, refl, ap, sym, ◌∙◌, subst, arith}
use Rattle.std.specs.List.{AllPairs}
use Rattle.std.proofs.lemmas.List.{length-map}
use Rattle.std.proofs.lemmas.List.Elements.{All-map, All-head, All-tail, All-cons, All-nil}
use Rattle.std.proofs.lemmas.List.Kept.{AllPairs-cons}
use Rattle.std.proofs.lemmas.Bool.{and_from, lt-ltb}
use Rattle.arrayvec.specs.ArrayVec.{ArrayVec}
use Rattle.strm_msg.specs.Kind.{is_from_line}
use Rattle.strm_msg.specs.declared.words.End.{End}
use Rattle.strm_msg.specs.Message.{Msg}
use Rattle.strm_module.specs.declared.shape.Shape.{Shape}
use Rattle.strm_head_calls.specs.Setup.{is_fit, is_ring}
use Rattle.strm_head_calls.specs.declared.setup.Setup.{Setup}
use Rattle.strm_run_input.specs.declared.script.Feed.{Feed}
use Rattle.strm_run_input.specs.declared.script.ScriptCall.{ScriptCall}
use Rattle.strm_run_input.specs.declared.run_link.RunLink.{RunLink}
use Rattle.strm_run_input.specs.Scripts as jobs
use Rattle.strm_run_input.specs.Resolve as runs
use Rattle.strm_script_parse.specs.Plan.{Fed, Linked, streams_view, feed_view, process_view, call_view, link_view}
use Rattle.strm_script_parse.specs.Sound as plans
use Rattle.strm_script_parse.specs.Sound.{AreSetups, AreFromLine, AreProcessesThere, AreLinesThere, AreLinked, AreOnce, IsUnfed}
use Rattle.strm_script_parse.specs.declared.plan.ProcessDecl.{ProcessDecl}
use Rattle.strm_script_parse.specs.declared.plan.LinkDecl.{LinkDecl}
use Rattle.strm_script_parse.specs.RunInput.{calls_of_processes, run_link, run_links}

-- what holds of what is made of each element
unmapped : {X Y : Type 0} (P : Y → Type 0) (f : X → Y) (xs : List X) → All P (map f xs) → All (λ x. P (f x)) xs
unmapped P f [] holds = All-nil (λ x. P (f x))
unmapped P f (x ∷ xs) holds = All-cons (λ x. P (f x)) x xs (All-head P (f x) (map f xs) holds) (unmapped P f xs (All-tail P (f x) (map f xs) holds))

-- each stream can be made
pub setups_meet : (entries : List (ArrayVec ℕ × Setup)) → AreSetups (streams_view entries) → All (λ setup. runs.is_setup setup ≡ true) (map (λ entry. entry.1) entries)
setups_meet entries sound =
    let each = unmapped (λ (stream : List ℕ × Setup). (is_fit stream.1 ≡ true) × (is_ring stream.1 ≡ true)) (λ (entry : ArrayVec ℕ × Setup). (entry.0.items, entry.1)) entries sound in
    All-map (λ (setup : Setup). runs.is_setup setup ≡ true) (λ (entry : ArrayVec ℕ × Setup). entry.1) entries (λ k d under. let two = each k d under in and_from _ _ two.0 two.1)

abbrev AreOfLine : List Msg → Type 0
AreOfLine messages = All (λ m. is_from_line m.kind ≡ true) messages

-- each message of each feed comes from a line
pub feeds_meet : (feeds : List Feed) → AreFromLine (map feed_view feeds) → runs.AreFromLine feeds
feeds_meet feeds sound = unmapped (λ feed. AreOfLine feed.messages) feed_view feeds sound

-- there are fewer streams than a run has numbers for
pub few_setups : (n : ℕ) (setups : List Setup) (entries : List (ArrayVec ℕ × Setup)) → setups ≡ map (λ entry. entry.1) entries → length (streams_view entries) ≤ n → n < 4294967296 → length setups < 4294967296
few_setups n setups entries are many under =
    let as_many : length setups ≡ length entries = ap (λ l. length l) are ∙ length-map entries (λ entry. entry.1) in
    let viewed : length (streams_view entries) ≡ length entries = length-map entries (λ entry. (entry.0.items, entry.1)) in
    omega (arith, as_many, viewed, many, under)

-- and fewer processes
pub few_scripts : {K : Type 0} (n : ℕ) (scripts : List (List (ScriptCall (Shape K)))) (processes : List (ProcessDecl (Shape K))) → scripts ≡ calls_of_processes processes → length (map process_view processes) ≤ n → n < 4294967296 → length scripts < 4294967296
few_scripts n scripts processes are many under =
    let of_plan : length (calls_of_processes processes) ≡ length processes = length-map processes (λ process. process.calls) in
    let same : length scripts ≡ length (calls_of_processes processes) = ap (λ l. length l) are in
    let viewed : length (map process_view processes) ≡ length processes = length-map processes process_view in
    omega (arith, of_plan, same, viewed, many, under)

-- the calls of a caller are its script
pub script_calls : {K : Type 0} (scripts : List (List (ScriptCall (Shape K)))) (caller : ℕ) → jobs.script_of scripts caller ≡ get_or scripts caller []
script_calls [] caller = refl
script_calls (script ∷ scripts) zero = refl
script_calls (script ∷ scripts) (suc caller) = script_calls scripts caller

-- ---- all is there that a plan names

abbrev Entries : Type 0
Entries = List (ArrayVec ℕ × Setup)

abbrev setups_in : Entries → List Setup
setups_in entries = map (λ entry. entry.1) entries

-- an end is there as a plan sees its streams, and as a run sees their setups
same_end : (entries : Entries) (number : ℕ) (end : End) → plans.end_is_there (slice_get (streams_view entries) number) end ≡ runs.end_is_there (slice_get (setups_in entries) number) end
same_end [] number end = refl
same_end (entry ∷ entries) zero end = refl
same_end (entry ∷ entries) (suc number) end = same_end entries number end

same_line : (entries : Entries) (number : ℕ) → plans.line_is_there (slice_get (streams_view entries) number) ≡ runs.line_is_there (slice_get (setups_in entries) number)
same_line [] number = refl
same_line (entry ∷ entries) zero = refl
same_line (entry ∷ entries) (suc number) = same_line entries number

-- the calls of a process
process_there : {K : Type 0} (entries : Entries) (calls : List (ScriptCall (Shape K))) → plans.AreCallsThere (streams_view entries) (map call_view calls) → runs.CallsResolve (setups_in entries) calls
process_there {K} entries calls there =
    let each = unmapped (λ call. plans.end_is_there (slice_get (streams_view entries) call.stream) call.end ≡ true) call_view calls there in
    (λ k d under. let one = get_or calls k d in sym (same_end entries one.stream one.call.end) ∙ each k d under)

-- those of all processes, by the lists of calls
scripts_there : {K : Type 0} (entries : Entries) (scripts : List (List (ScriptCall (Shape K)))) (processes : List (ProcessDecl (Shape K))) → scripts ≡ calls_of_processes processes → AreProcessesThere (streams_view entries) (map process_view processes) → All (λ script. runs.CallsResolve (setups_in entries) script) scripts
scripts_there {K} entries scripts processes same there =
    let each = unmapped (λ process. plans.AreCallsThere (streams_view entries) process.calls) process_view processes there in
    let lists : All (λ (calls : List (ScriptCall (Shape K))). runs.CallsResolve (setups_in entries) calls) (calls_of_processes processes) =
    All-map (λ (calls : List (ScriptCall (Shape K))). runs.CallsResolve (setups_in entries) calls) (λ (process : ProcessDecl (Shape K)). process.calls) processes (λ k d under. process_there entries (get_or processes k d).calls (each k d under)) in
    subst (All (λ (calls : List (ScriptCall (Shape K))). runs.CallsResolve (setups_in entries) calls)) (sym same) lists

-- the feeds of lines, by the numbers of their streams
feeds_there : (entries : Entries) (feeds : List Feed) → AreLinesThere (streams_view entries) (map feed_view feeds) → All (λ feed. runs.line_is_there (slice_get (setups_in entries) feed.stream) ≡ true) feeds
feeds_there entries feeds there =
    let each = unmapped (λ feed. plans.line_is_there (slice_get (streams_view entries) feed.stream) ≡ true) feed_view feeds there in
    (λ k d under. sym (same_line entries (get_or feeds k d).stream) ∙ each k d under)

-- what is made of an element
at_map : {X Y : Type 0} (f : X → Y) (xs : List X) (k : ℕ) (d : X) → k < length xs → get_or (map f xs) k (f d) ≡ f (get_or xs k d)
at_map f [] k d under = absurd (omega (arith, under))
at_map f (x ∷ xs) zero d under = refl
at_map f (x ∷ xs) (suc k) d under = at_map f xs k d (omega (arith, under))

-- what holds of pairs of what is made holds of pairs of elements
pairs_unmapped : {X Y : Type 0} (R : Y → Y → Type 0) (f : X → Y) (xs : List X) → AllPairs R (map f xs) → AllPairs (λ one other. R (f one) (f other)) xs
pairs_unmapped R f xs all i j d before under =
    let many : length (map f xs) ≡ length xs = length-map xs f in
    subst (λ y. R y (f (get_or xs j d))) (at_map f xs i d (omega (arith, before, under)))
    (subst (λ y. R (get_or (map f xs) i (f d)) y) (at_map f xs j d under) (all i j (f d) before (omega (arith, many, under))))

-- ---- the links of a run

abbrev run_of : LinkDecl → ℕ → RunLink
run_of link by = record { by = by; from = link.from; to = link.to; rule = link.rule }

-- what holds of each link that has a carrier
module _ (P : LinkDecl → Type 0) (Q : RunLink → Type 0) (goes : (link : LinkDecl) (by : ℕ) → link.by ≡ Some by → P link → Q (run_of link by)) where
  one_run : (link : LinkDecl) (by : Option ℕ) (rest : List RunLink) → link.by ≡ by → P link → All Q rest → All Q (run_link link by ++ rest)
  one_run link None rest is holds all = all
  one_run link (Some by) rest is holds all = All-cons Q (run_of link by) rest (goes link by is holds) all

  each_run : (links : List LinkDecl) → All P links → All Q (run_links links)
  each_run [] all = All-nil Q
  each_run (link ∷ links) all = one_run link link.by (run_links links) refl (All-head P link links all) (each_run links (All-tail P link links all))

-- what holds of each two
module _ (P : LinkDecl → LinkDecl → Type 0) (Q : RunLink → RunLink → Type 0) (goes : (one other : LinkDecl) (a b : ℕ) → one.by ≡ Some a → other.by ≡ Some b → P one other → Q (run_of one a) (run_of other b)) where
  pair_run : (link : LinkDecl) (by : Option ℕ) (links : List LinkDecl) → link.by ≡ by → All (P link) links → AllPairs Q (run_links links) → AllPairs Q (run_link link by ++ run_links links)
  pair_run link None links is heads rest = rest
  pair_run link (Some by) links is heads rest =
      AllPairs-cons Q (run_of link by) (run_links links) (each_run (P link) (Q (run_of link by)) (λ other b its holds. goes link other by b is its holds) links heads) rest

  pairs_run : (links : List LinkDecl) → AllPairs P links → AllPairs Q (run_links links)
  pairs_run [] all = λ i j d before within. absurd (omega (arith, within))
  pairs_run (link ∷ links) all =
      pair_run link link.by links refl (λ k d within. all 0 (suc k) d (omega arith) (omega arith)) (pairs_run links (λ i j d before within. all (suc i) (suc j) d (omega arith) (omega arith)))

same_wire : (entries : Entries) (number : ℕ) → plans.wire_is_there (slice_get (streams_view entries) number) ≡ runs.wire_is_there (slice_get (setups_in entries) number)
same_wire [] number = refl
same_wire (entry ∷ entries) zero = refl
same_wire (entry ∷ entries) (suc number) = same_wire entries number

abbrev IsWired : Entries → ℕ → LinkDecl → Type 0
IsWired entries processes link =
    (plans.wire_is_there (slice_get (streams_view entries) link.from) ≡ true) × (plans.wire_is_there (slice_get (streams_view entries) link.to) ≡ true) × IfSome link.by (λ by. by < processes)

link_there : (entries : Entries) (processes : ℕ) (link : LinkDecl) (by : ℕ) → link.by ≡ Some by → IsWired entries processes link → runs.link_is_there (setups_in entries) processes (run_of link by) ≡ true
link_there entries processes link by is wired =
    let below : by < processes = subst (λ (o : Option ℕ). IfSome o (λ by. by < processes)) is wired.2 in
    and_from _ _ (and_from _ _ (sym (same_wire entries link.from) ∙ wired.0) (sym (same_wire entries link.to) ∙ wired.1)) (lt-ltb by processes below)

either_not : (a b c : Bool) → (not a && not (b && c)) ≡ true → (not a && (not b || not c)) ≡ true
either_not true b c is = absurd cc
either_not false true true is = absurd cc
either_not false true false is = refl
either_not false false c is = refl

links_apart : (one other : LinkDecl) (a b : ℕ) → one.by ≡ Some a → other.by ≡ Some b → plans.are_apart (link_view one) (link_view other) ≡ true → runs.are_apart (run_of one a) (run_of other b) ≡ true
links_apart one other a b first second is =
    let both : plans.is_by_one one.by other.by ≡ (a == b) = ap (λ (o : Option ℕ). plans.is_by_one o other.by) first ∙ ap (λ (o : Option ℕ). plans.is_by_one (Some a) o) second in
    either_not (one.to == other.to) (a == b) (one.from == other.from) (sym (ap (λ (c : Bool). not (one.to == other.to) && not (c && (one.from == other.from))) both) ∙ is)

-- the links of a run can be made
links_there : (entries : Entries) (feeds : List Feed) (processes callers : ℕ) (links : List LinkDecl) → processes ≡ callers → AreLinked (streams_view entries) (map feed_view feeds) processes (map link_view links) → runs.LinksResolve (setups_in entries) callers feeds (run_links links)
links_there entries feeds processes callers links many are =
    let from = unmapped (λ (link : Linked). plans.wire_is_there (slice_get (streams_view entries) link.from) ≡ true) link_view links are.from in
    let to = unmapped (λ (link : Linked). plans.wire_is_there (slice_get (streams_view entries) link.to) ≡ true) link_view links are.to in
    let by = unmapped (λ (link : Linked). IfSome link.by (λ by. by < processes)) link_view links are.by in
    let unfed = unmapped (λ (link : Linked). IsUnfed (map feed_view feeds) link.to) link_view links are.unfed in
    let apart = pairs_unmapped (λ (one other : Linked). plans.are_apart one other ≡ true) link_view links are.apart in
    record {
      there = each_run (IsWired entries processes) (λ (link : RunLink). runs.link_is_there (setups_in entries) callers link ≡ true) (λ link by is wired. subst (λ (n : ℕ). runs.link_is_there (setups_in entries) n (run_of link by) ≡ true) many (link_there entries processes link by is wired)) links (λ k d within. (from k d within, to k d within, by k d within));
      apart = pairs_run (λ (one other : LinkDecl). plans.are_apart (link_view one) (link_view other) ≡ true) (λ (one other : RunLink). runs.are_apart one other ≡ true) links_apart links apart;
      unfed = each_run (λ (link : LinkDecl). IsUnfed (map feed_view feeds) link.to) (λ (link : RunLink). All (λ (feed : Feed). link.to ≡ feed.stream → ⊥) feeds) (λ link by is none. let each = unmapped (λ (feed : Fed). feed.stream ≡ link.to → ⊥) feed_view feeds none in (λ k d within same. each k d within (sym same))) links unfed;
    }

-- so all is there that the run of a plan names
pub all_there : {K : Type 0} (entries : Entries) (scripts : List (List (ScriptCall (Shape K)))) (processes : List (ProcessDecl (Shape K))) (feeds : List Feed) (links : List LinkDecl) → scripts ≡ calls_of_processes processes → AreProcessesThere (streams_view entries) (map process_view processes) → AreLinesThere (streams_view entries) (map feed_view feeds) → AreOnce (map feed_view feeds) → AreLinked (streams_view entries) (map feed_view feeds) (length (map process_view processes)) (map link_view links) → runs.NamesResolve (setups_in entries) scripts feeds (run_links links)
all_there entries scripts processes feeds links same calls lines once linked = record {
  calls = scripts_there entries scripts processes same calls;
  lines = feeds_there entries feeds lines;
  once = pairs_unmapped (λ one other. one.stream ≡ other.stream → ⊥) feed_view feeds once;
  joined = links_there entries feeds (length (map process_view processes)) (length scripts) links (length-map processes process_view ∙ sym (length-map processes (λ process. process.calls)) ∙ sym (ap (λ l. length l) same)) linked;
}
