use Rattle.std.proofs.Common.{◌≡◌, List, ◌+◌, ◌<◌, ◌∷◌, ◌++◌, append_assoc, length, All, ap, subst, sym, ◌∙◌}
use Rattle.std.proofs.lemmas.List.{length-set, length_push}
use Rattle.std.specs.Vec.Iter.{into_iter_items}
use Rattle.strm_run_input.specs.declared.script.ScriptCall.{ScriptCall}
use Rattle.strm_msg.proofs.LoopLemmas.{rest_shorter}
use Rattle.strm_run_callers.proofs.ReachedLemmas.{behind_more, reached_is, reached_there}
use Rattle.strm_run_callers.proofs.DealLemmas.{caller_more, none_called, player_before, script_reached}
use Rattle.strm_run_callers.proofs.dealing.seated.Goals as goal

pub new-requires-in-loop-script-after_bounds : goal.new-requires-in-loop-script-after_bounds
new-requires-in-loop-script-after_bounds g c κs within =
    let was = c.loop-script.invariant in
    let is : c.loop-script.yielded ++ c.in-Some.script ∷ into_iter_items c.next.new.self ≡ g.N.RunName.run.scripts =
    sym (ap (λ l. c.loop-script.yielded ++ l) c.in-Some.ensures.steps.0) ∙ was.rest ∙ sym c.requires.scripts in
    let there = reached_there g.N.RunName.run.scripts c.loop-script.yielded _ c.in-Some.script c.loop-script.caller is was.place in
    let on_streams : All (λ (script : List (ScriptCall _)). All (λ one. one.stream < length g.N.RunName.run.setups) script) g.N.RunName.run.scripts =
    rw c.requires.scripts c.requires.there in
    player_before g.N.RunName.run c.loop-script.caller c.in-Some.script c.args.seats.items c.loop-script.seats.items c.replace-mine.result c.in_ok-accounts.accounts.items c.requires.seats there
    (script_reached g.N.RunName.run.scripts c.loop-script.yielded _ c.in-Some.script c.loop-script.caller is was.place)
    (subst (λ (script : List (ScriptCall _)). All (λ one. one.stream < length g.N.RunName.run.setups) script) (reached_is g.N.RunName.run.scripts c.loop-script.yielded _ c.in-Some.script c.in-Some.script c.loop-script.caller is was.place) (on_streams c.loop-script.caller c.in-Some.script there))
    was.behind
    (rw c.replace-mine.ensures.value c.index_mut.ensures.value)
    c.in_ok-accounts.ensures

pub accounts_of-requires : goal.accounts_of-requires
accounts_of-requires g c =
    let was = c.loop-script.invariant in
    let is : c.loop-script.yielded ++ c.in-Some.script ∷ into_iter_items c.next.new.self ≡ g.N.RunName.run.scripts =
    sym (ap (λ l. c.loop-script.yielded ++ l) c.in-Some.ensures.steps.0) ∙ was.rest ∙ sym c.requires.scripts in
    let there = reached_there g.N.RunName.run.scripts c.loop-script.yielded _ c.in-Some.script c.loop-script.caller is was.place in
    none_called g.N.RunName.run c.loop-script.caller c.args.seats.items c.loop-script.seats.items c.replace-mine.result c.requires.seats there was.behind (rw c.replace-mine.ensures.value c.index_mut.ensures.value)

pub loop-script-preserved : goal.loop-script-preserved
loop-script-preserved g c =
    let was = c.loop-script.invariant in
    let next = c.in-Some.ensures.steps.0 in
    record {
      left = rest_shorter _ _ _ _ _ was.left next c.in-Some.ensures.steps.1;
      rest = rw (append_assoc, ← next) was.rest;
      place = ap (λ n. n + 1) was.place ∙ sym (length_push _ _);
      many = length-set c.loop-script.seats.items c.loop-script.caller c.replace-mine.new.dest ∙ was.many;
      behind = behind_more c.args.seats.items c.loop-script.seats.items c.loop-script.caller c.replace-mine.new.dest was.behind;
      players = rw (c.in_ok-push.ensures.items, c.new-in-loop-script.ensures) (caller_more c.loop-script.all.items c.loop-script.caller was.players);
    }
