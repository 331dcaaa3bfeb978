use Rattle.std.proofs.Common.{rules}
use Rattle.strm_script_words.specs.declared.fault.ReadError.TheVariants as errors
use Rattle.strm_script_words.proofs.FaultLemmas.{mode_fails, prot_fails}
use Rattle.strm_script_words.proofs.arrival.setopts.Goals as goal

pub returns-in_err-mode-clause-message : goal.returns-in_err-mode-clause-message
returns-in_err-mode-clause-message c =
    let fails = mode_fails (errors.Fault c.in_err-mode.field-0.0) c.args.texts.now _ c.in-len3.len_at_least c.in-len3.len_below c.in_err-mode.ensures in
    search rules

pub returns-in_err-prot-clause-message : goal.returns-in_err-prot-clause-message
returns-in_err-prot-clause-message c =
    let fails = prot_fails (errors.Fault c.in_err-prot.field-0.0) c.args.texts.now _ _ c.in-len3.len_at_least c.in-len3.len_below c.in_ok-mode.ensures c.in_err-prot.ensures in
    search rules
