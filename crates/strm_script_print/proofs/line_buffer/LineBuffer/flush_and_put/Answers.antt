use Rattle.strm_script_print.proofs.GatheredLemmas.{ok_leaves, puts_refused, puts_written}
use Rattle.strm_script_print.proofs.line_buffer.LineBuffer.flush_and_put.Goals as goal

-- what was gathered is written, and then the bytes
pub returns-then-flush : goal.returns-then-flush
returns-then-flush g c =
    puts_written _ _ _ _ _ _ c.args.bytes.now (c.flush.ensures.flushed c.if-flush.true) c.keep_error.ensures.bytes (λ none. ok_leaves c.write_all.result (c.keep_error.ensures.ok none) c.write_all.ensures.bytes)

-- the writer has refused
pub returns-else-flush : goal.returns-else-flush
returns-else-flush g c = puts_refused _ _ _ _ _ (c.flush.ensures.refused c.if-flush.false) c.flush.ensures.error
