use Rattle.std.proofs.Common.{◌∙◌, Option, ap}
use Rattle.strm_chain_end.specs.Canput.{Fill}
use Rattle.strm_head_ioctl.specs.Poll.{open_in}
use Rattle.strm_head_ioctl.proofs.polling.is_open_ahead.Goals as goal

pub returns-in-Some : goal.returns-in-Some
returns-in-Some g c = c.has_open_band.ensures ∙ ap (λ (q : Option Fill). open_in q) c.in-Some.ensures
