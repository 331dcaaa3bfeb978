use Rattle.std.proofs.lemmas.List.{take_rest}
use Rattle.strm_script_text.proofs.RunLemmas.{plain_more}
use Rattle.strm_script_text.proofs.runs.plain_len.Goals as goal

pub returns-clause-plain : goal.returns-clause-plain
returns-clause-plain c =
    let many = c.plain_blocks-blocks.result in
    plain_more many _ c.args.bytes.now c.plain_blocks-blocks.ensures.plain (rw (take_rest c.args.bytes.now many) at c.plain_bytes.ensures.plain)
