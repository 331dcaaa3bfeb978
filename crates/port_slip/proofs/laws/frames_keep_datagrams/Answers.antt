use Rattle.port_slip.proofs.PieceLemmas.{pieces_are_one_line, rest_follows, unfinished_is_bounded}
use Rattle.port_slip.proofs.FrameLemmas.{escaping_leaves_no_end, framed_is_received, noise_stays_apart}
use Rattle.port_slip.proofs.laws.frames_keep_datagrams.Goals as goal

pub returns-clause-no_end : goal.returns-clause-no_end
returns-clause-no_end c = escaping_leaves_no_end

pub returns-clause-back : goal.returns-clause-back
returns-clause-back c = framed_is_received

pub returns-clause-apart : goal.returns-clause-apart
returns-clause-apart c = noise_stays_apart

pub returns-clause-pieces : goal.returns-clause-pieces
returns-clause-pieces c = pieces_are_one_line

pub returns-clause-bounded : goal.returns-clause-bounded
returns-clause-bounded c = unfinished_is_bounded

pub returns-clause-rest : goal.returns-clause-rest
returns-clause-rest c = rest_follows
