use Rattle.std.proofs.Common.{sym, ap, ◌∙◌}
use Rattle.strm_script_orders.specs.Difference.{pieces_left}
use Rattle.strm_script_orders.proofs.PieceLemmas.{piece_cut, piece_left}
use Rattle.strm_script_orders.proofs.pieces.Pieces.next.Goals as goal

pub returns-in-Some-split_once : goal.returns-in-Some-split_once
returns-in-Some-split_once c =
    sym c.self.view_is ∙ ap (pieces_left c.self.inside.end) c.in-Some.is ∙ piece_cut c.self.inside.end c.in-Some.text.now _ _ c.in-Some-split_once.ensures.halves

pub returns-in-None : goal.returns-in-None
returns-in-None c =
    sym c.self.view_is ∙ ap (pieces_left c.self.inside.end) c.in-Some.is ∙ piece_left c.self.inside.end c.in-Some.text.now c.in-None.ensures.halves
