use Rattle.std.proofs.Common.{rules}
use Rattle.strm_script_words.proofs.FaultLemmas.{from_fails}
use Rattle.strm_script_words.proofs.push.table_at.Goals as goal

pub returns-in_err-from : goal.returns-in_err-from
returns-in_err-from c =
    let fails = from_fails _ c.args.texts.now _ c.in-len2.len_at_least c.in-len2.len_below c.in_err-from.ensures in
    search rules
