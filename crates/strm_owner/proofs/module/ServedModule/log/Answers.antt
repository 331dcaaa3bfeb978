use Rattle.std.proofs.Common.{◌≡◌, ap, ◌∙◌}
use Rattle.strm_head_calls.specs.declared.event.Event.TheVariants.{Asked}
use Rattle.strm_owner.proofs.ServesLemmas.{only_one, asked_is}
use Rattle.strm_owner.proofs.module.ServedModule.log.Goals as goal

pub returns-in-Done-clause-only : goal.returns-in-Done-clause-only
returns-in-Done-clause-only g c =
    let made = c.in-Done.ensures.2.enters in
    only_one c.args.self.now c.args.caller c.args.log.now.history c.call.new.self.history made.entry made.history (record {
      side = c.args.side;
      call = c.args.call;
      by = made.by;
      asked = asked_is made.entry _ _ (made.at ∙ c.end.ensures) (made.has ∙ ap (λ request. Asked request) c.request.ensures);
    })
