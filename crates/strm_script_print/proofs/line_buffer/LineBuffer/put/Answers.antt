use Rattle.std.proofs.Common.{refl}
use Rattle.strm_script_print.proofs.GatheredLemmas.{puts_gathered}
use Rattle.strm_script_print.proofs.line_buffer.LineBuffer.put.Goals as goal

pub returns-in-Ok : goal.returns-in-Ok
returns-in-Ok g c = puts_gathered (g.W.Write.contents c.args.w.now) c.args.self.now _ c.args.bytes.now refl c.in-Ok.ensures.ok
