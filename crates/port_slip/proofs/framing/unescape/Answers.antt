use Rattle.std.proofs.Common.{arith}
use Rattle.std.proofs.lemmas.Grind.{common_steps}
use Rattle.port_slip.proofs.FrameLemmas.{unescaped-plain}
use Rattle.port_slip.proofs.framing.unescape.Goals as goal

pub loop-b-preserved : goal.loop-b-preserved
loop-b-preserved c = grind (arith, common_steps, unescaped-plain)
