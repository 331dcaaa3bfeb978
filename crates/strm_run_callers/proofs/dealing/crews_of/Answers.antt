use Rattle.std.proofs.Common.{◌≡◌, ℕ, ◌+◌, [], ap, ◌∙◌, Vec, Global}
use Rattle.std.proofs.lemmas.List.{length_push}
use Rattle.std.proofs.lemmas.List.Elements.{All-push}
use Rattle.strm_run_callers.proofs.dealing.crews_of.Goals as goal

pub loop-preserved : goal.loop-preserved
loop-preserved g c =
    let was = c.loop.invariant in
    record {
      many = rw c.in_ok-push.ensures.items (length_push c.loop.crews.items _ ∙ ap (λ n. n + 1) was.many);
      none = rw c.in_ok-push.ensures.items (All-push (λ (crew : Vec ℕ Global). crew.items ≡ []) c.loop.crews.items _ was.none c.new.ensures.items);
    }
