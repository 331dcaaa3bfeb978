use Rattle.std.proofs.Common.{rules}
use Rattle.strm_script_words.specs.declared.fault.ReadError.TheVariants as errors
use Rattle.strm_script_words.proofs.FaultLemmas.{read_fails}
use Rattle.strm_script_words.proofs.arrival.error2.Goals as goal

pub returns-in_err-read-clause-message : goal.returns-in_err-read-clause-message
returns-in_err-read-clause-message c =
    let fails = read_fails (errors.Fault c.in_err-read.field-0.0) c.args.texts.now _ c.in-len2.len_at_least c.in-len2.len_below c.in_err-read.ensures in
    search rules
