use Rattle.std.proofs.Common.{◌++◌, [], ◌∷◌, sym, ap, ◌∙◌, append_assoc}
use Rattle.std.specs.Vec.Iter.{into_iter_items}
use Rattle.strm_msg.proofs.LoopLemmas.{rest_shorter}
use Rattle.strm_run.proofs.EndingLemmas.{found_more, refusals_rest}
use Rattle.strm_run.proofs.ending.all_logs.Goals as goal

-- one stream more has ended
pub loop-one-preserved : goal.loop-one-preserved
loop-one-preserved g c =
    let was = c.loop-one.invariant in
    let next = c.in-Some.ensures.steps.0 in
    record {
      left = rest_shorter (into_iter_items c.loop-one.one-iterator) (into_iter_items c.next.new.self) c.in-Some.one _ _ was.left next c.in-Some.ensures.steps.1;
      rest = append_assoc c.loop-one.yielded (c.in-Some.one ∷ []) (into_iter_items c.next.new.self) ∙ ap (λ l. c.loop-one.yielded ++ l) (sym next) ∙ was.rest;
      late = refusals_rest (into_iter_items c.loop-one.one-iterator) (into_iter_items c.next.new.self) c.in-Some.one next was.late;
      logs = found_more c.loop-one.all.items c.push.new.self.items c.loop-one.yielded c.in-Some.one c.in_ok-log.log was.logs c.in-Ok.ensures.items c.in_ok-log.was;
    }
