use Rattle.std.proofs.Common.{◌≤◌, length, arith}
use Rattle.strm_script_text.proofs.RunLemmas.{all_read}
use Rattle.strm_script_text.proofs.parts.plain.Goals as goal

pub returns : goal.returns
returns c =
    let all : length c.args.text.now ≤ c.plain_len.result = omega arith in
    all_read c.plain_len.result c.args.text.now all c.plain_len.ensures.plain
