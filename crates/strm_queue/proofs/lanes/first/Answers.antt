use Rattle.std.proofs.Common.{◌∙◌, sym, ap, slice_get}
use Rattle.strm_queue.specs.Lanes.{Ranked}
use Rattle.strm_queue.proofs.ChangeLemmas.{first-get}
use Rattle.strm_queue.proofs.lanes.first.Goals as goal

pub returns : goal.returns
returns c =
    let lane = c.index-lanes-at.result in
    c.at.ensures ∙ ap (λ (x : Ranked). slice_get x.messages 0) c.index-lanes-at.is ∙ sym (first-get lane c.args.lanes.now c.in_ok-at.at c.in_ok-at.ensures.0 c.in_ok-at.ensures.1 (c.in_ok-at.ensures.2 lane))
