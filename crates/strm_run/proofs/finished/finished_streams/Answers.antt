use Rattle.std.proofs.Common.{rules, ◌+◌, ◌<◌, ◌++◌, List, Vec, Global, length, append_assoc, append-nil, refl, sym, ◌∙◌, ap, subst, arith}
use Rattle.std.proofs.lemmas.List.{length-map, length_push, length-set, nil_from_length}
use Rattle.std.specs.Vec.Iter.{into_iter_items}
use Rattle.strm_shared.specs.Ending.{SharedValue}
use Rattle.strm_run_callers.specs.Play.{AreStreams}
use Rattle.strm_run_callers.specs.Account.{AccountValue}
use Rattle.strm_run.specs.Inside.Ending.{FinishedStreamValue}
use Rattle.strm_msg.proofs.LoopLemmas.{rest_shorter}
use Rattle.strm_run_callers.proofs.ReachedLemmas.{behind_more}
use Rattle.strm_run.proofs.EndingLemmas.{due_more, place_there, next_due, left_next, parts_more, taken_at}
use Rattle.strm_run.proofs.finished.finished_streams.Goals as goal

pub loop-shared-init : goal.loop-shared-init
loop-shared-init g c =
    let all = c.into_iter-shared-iterator.ensures.into_iter_gives.0 ∙ c.into_all-shared-items.ensures.all in
    record {
      left = search rules;
      place = refl;
      many = c.requires.results;
      due = search rules;
      others = record {
        streams_are = subst (λ (l : List SharedValue). AreStreams g.N.RunName.run l) (sym all) c.into_all-shared-items.ensures.streams;
        many = c.requires.seats.many;
        played = λ k d above below. c.requires.seats.each k d below;
      };
      accounts = λ k d above. refl;
      results = λ k d above. refl;
      parts = record { accounts_are = λ k f d below. absurd (omega arith); results_are = λ k f d below. absurd (omega arith) };
    }

pub index_mut-requires : goal.index_mut-requires
index_mut-requires g c =
    let was = c.loop-shared.invariant in
    let there = place_there g.N.RunName.run (c.loop-shared.yielded ++ into_iter_items c.loop-shared.shared-iterator) c.loop-shared.yielded (into_iter_items c.next.new.self) c.loop-shared.at c.in-Some.shared was.others.streams_are (ap (λ l. c.loop-shared.yielded ++ l) c.in-Some.ensures.steps.0) was.place in
    let ok = c.loop-shared.accounts.ok in
    let many = was.others.many in
    omega arith

pub index_mut-requires-in-loop-shared : goal.index_mut-requires-in-loop-shared
index_mut-requires-in-loop-shared g c =
    let was = c.loop-shared.invariant in
    let there = place_there g.N.RunName.run (c.loop-shared.yielded ++ into_iter_items c.loop-shared.shared-iterator) c.loop-shared.yielded (into_iter_items c.next.new.self) c.loop-shared.at c.in-Some.shared was.others.streams_are (ap (λ l. c.loop-shared.yielded ++ l) c.in-Some.ensures.steps.0) was.place in
    let ok = c.loop-shared.results.ok in
    let many = was.many in
    omega arith

pub new-requires-in-loop-shared : goal.new-requires-in-loop-shared
new-requires-in-loop-shared g c =
    let was = c.loop-shared.invariant in
    (search rules, next_due g.N.RunName.run (c.loop-shared.yielded ++ into_iter_items c.loop-shared.shared-iterator) c.loop-shared.yielded (into_iter_items c.next.new.self) c.loop-shared.at c.in-Some.shared was.others.streams_are (ap (λ l. c.loop-shared.yielded ++ l) c.in-Some.ensures.steps.0) was.place c.loop-shared.accounts.items was.others c.replace-mine.result c.index_mut.result.now c.replace-mine.ensures.value c.index_mut.ensures.value)

pub overflow_add-at : goal.overflow_add-at
overflow_add-at g c =
    let was = c.loop-shared.invariant in
    let there = place_there g.N.RunName.run (c.loop-shared.yielded ++ into_iter_items c.loop-shared.shared-iterator) c.loop-shared.yielded (into_iter_items c.next.new.self) c.loop-shared.at c.in-Some.shared was.others.streams_are (ap (λ l. c.loop-shared.yielded ++ l) c.in-Some.ensures.steps.0) was.place in
    let ok = c.loop-shared.results.ok in
    let small = c.loop-shared.results.small in
    let many = was.many in
    search rules

pub loop-shared-preserved : goal.loop-shared-preserved
loop-shared-preserved g c =
    let was = c.loop-shared.invariant in
    let next = c.in-Some.ensures.steps.0 in
    let there = place_there g.N.RunName.run (c.loop-shared.yielded ++ into_iter_items c.loop-shared.shared-iterator) c.loop-shared.yielded (into_iter_items c.next.new.self) c.loop-shared.at c.in-Some.shared was.others.streams_are (ap (λ l. c.loop-shared.yielded ++ l) next) was.place in
    record {
      left = rest_shorter (into_iter_items c.loop-shared.shared-iterator) (into_iter_items c.next.new.self) c.in-Some.shared _ _ was.left next c.in-Some.ensures.steps.1;
      place = ap (λ n. n + 1) was.place ∙ sym (length_push c.loop-shared.yielded c.in-Some.shared);
      many = length-set c.loop-shared.results.items c.loop-shared.at c.take.new.self ∙ was.many;
      due = due_more c.loop-shared.all.items c.push.new.self.items c.loop-shared.yielded c.new-in-loop-shared.result c.in-Some.shared was.due c.in_ok-push.ensures.items (ap (λ due. due.stream) c.new-in-loop-shared.ensures);
      others = rw (append_assoc, ← next) (left_next g.N.RunName.run (c.loop-shared.yielded ++ into_iter_items c.loop-shared.shared-iterator) c.loop-shared.yielded (into_iter_items c.next.new.self) c.loop-shared.at c.in-Some.shared was.others.streams_are (ap (λ l. c.loop-shared.yielded ++ l) next) was.place c.loop-shared.accounts.items was.others c.replace-mine.new.dest);
      accounts = behind_more c.args.accounts.items c.loop-shared.accounts.items c.loop-shared.at c.replace-mine.new.dest was.accounts;
      results = behind_more c.args.results.items c.loop-shared.results.items c.loop-shared.at c.take.new.self was.results;
      parts = parts_more c.loop-shared.all.items c.new-in-loop-shared.result c.args.accounts.items c.args.results.items c.loop-shared.at (sym (length-map c.loop-shared.all.items (λ (d : FinishedStreamValue g.row.M-Kind.Denot). d.stream)) ∙ ap (λ l. length l) was.due ∙ sym was.place) was.parts c.push.new.self.items c.in_ok-push.ensures.items
          (λ d. ap (λ (due : FinishedStreamValue g.row.M-Kind.Denot). due.accounts) c.new-in-loop-shared.ensures ∙ ap (λ (v : Vec (AccountValue g.row.M-Kind.Denot) Global). v.items) (c.replace-mine.ensures.value ∙ taken_at c.args.accounts.items c.loop-shared.accounts.items c.loop-shared.at c.index_mut.result.now (subst (λ n. c.loop-shared.at < n) (sym c.requires.seats.many) there) was.accounts c.index_mut.ensures.value d))
          (λ d. ap (λ (due : FinishedStreamValue g.row.M-Kind.Denot). due.fed) c.new-in-loop-shared.ensures ∙ c.take.ensures.value ∙ taken_at c.args.results.items c.loop-shared.results.items c.loop-shared.at c.index_mut-in-loop-shared.result.now (subst (λ n. c.loop-shared.at < n) (sym c.requires.results) there) was.results c.index_mut-in-loop-shared.ensures.value d);
    }

pub returns-clause-streams : goal.returns-clause-streams
returns-clause-streams g c =
    let was = c.loop-shared.invariant in
    let none = nil_from_length (into_iter_items c.loop-shared.shared-iterator) (sym was.left ∙ c.in-None.ensures.steps.0) in
    subst (λ (l : List SharedValue). AreStreams g.N.RunName.run l) (ap (λ l. c.loop-shared.yielded ++ l) none ∙ append-nil c.loop-shared.yielded ∙ sym was.due) was.others.streams_are
