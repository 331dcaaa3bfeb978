use Rattle.std.proofs.Common.{rules, length, ◌<◌, ◌≡◌, ◌++◌, ◌∷◌, [], ◌∙◌}
use Rattle.std.proofs.lemmas.List.{take_rest}
use Rattle.strm_script_text.proofs.RunLemmas.{run_first, run_taken}
use Rattle.strm_script_text.proofs.SpellingLemmas.{spelt_more}
use Rattle.strm_script_text.proofs.parts.spelt.Goals as goal

pub loop-rest-init : goal.loop-rest-init
loop-rest-init c = rw (take_rest c.args.text.now c.in_ok-many.many) (run_first _ c.in_ok-many.many c.args.text.now (rw c.new-all.ensures.items at c.in_ok-many.ensures.items) c.in_ok-many.ensures.plain)

pub loop-rest-preserved : goal.loop-rest-preserved
loop-rest-preserved c =
    let some : 0 < length c.loop-rest.rest.now = search rules in
    let longer : c.push.new.self.items ≡ c.loop-rest.all.items ++ c.in-Some.byte ∷ [] = search rules in
    let after = c.in-Some.after.now in
    rw (take_rest after c.in_ok-many-2.many)
    (run_taken c.push.new.self.items _ c.in_ok-many-2.many after c.in_ok-many-2.ensures.items c.in_ok-many-2.ensures.plain
    ∙ spelt_more _ _ _ _ _ _ some c.in-Some.ensures.byte longer c.loop-rest.invariant)
