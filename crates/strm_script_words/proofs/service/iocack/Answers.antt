use Rattle.std.proofs.Common.{rules}
use Rattle.strm_script_words.specs.declared.fault.ReadError.TheVariants as errors
use Rattle.strm_script_words.proofs.ServiceLemmas.{rval_fails}
use Rattle.strm_script_words.proofs.service.iocack.Goals as goal

pub returns-in_err-rval : goal.returns-in_err-rval
returns-in_err-rval c =
    let fails = rval_fails (errors.Fault c.in_err-rval.field-0.0) c.args.texts.now _ _ c.in-len3.len_at_least c.in-len3.len_below c.in_ok-id.ensures c.in_err-rval.ensures in
    search rules
