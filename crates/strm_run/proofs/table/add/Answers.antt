use Rattle.std.proofs.Common.{◌≡◌, ◌+◌, ◌∷◌, ◌++◌, append_assoc, ap, sym, ◌∙◌}
use Rattle.std.proofs.lemmas.List.{length_push}
use Rattle.std.specs.Vec.Iter.{into_iter_items}
use Rattle.strm_msg.proofs.LoopLemmas.{rest_shorter}
use Rattle.strm_run.proofs.TableLemmas.{row_there, added_more}
use Rattle.strm_run.proofs.table.add.Goals as goal

pub loop-x-preserved : goal.loop-x-preserved
loop-x-preserved g c =
    let was = c.loop-x.invariant in
    let next = c.in-Some.ensures.steps.0 in
    let is : c.args.column.items ≡ c.loop-x.yielded ++ c.in-Some.x ∷ into_iter_items c.next.new.self = sym was.rest ∙ ap (λ l. c.loop-x.yielded ++ l) next in
    record {
      left = rest_shorter _ _ _ _ _ was.left next c.in-Some.ensures.steps.1;
      rest = rw (append_assoc, ← next) was.rest;
      place = ap (λ n. n + 1) was.place ∙ sym (length_push _ _);
      added = added_more _ _ _ _ _ _ c.index_mut.result.now c.push.new.self _ was.added (row_there _ _ _ _ _ _ is was.place c.requires) is was.place c.index_mut.ensures.value c.in_ok-push.ensures.items;
    }
