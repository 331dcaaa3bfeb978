use Rattle.std.proofs.lemmas.Result.{on_ok_weaker}
use Rattle.strm_script_print.proofs.GatheredLemmas.{finished}
use Rattle.strm_script_print.proofs.line_buffer.LineBuffer.finish.Goals as goal

-- what is left is written
pub returns-in-None-clause-text : goal.returns-in-None-clause-text
returns-in-None-clause-text g c before fresh text is puts =
    on_ok_weaker c.write_all.result (λ written. finished before _ _ fresh c.args.self text is puts c.in-None.is (rw c.as_slice.ensures.value at written)) c.write_all.ensures.bytes
