use Rattle.std.proofs.Common.{rules}
use Rattle.strm_script_words.specs.declared.fault.ReadError.TheVariants as errors
use Rattle.strm_script_words.proofs.FaultLemmas.{band_fails, control_fails}
use Rattle.strm_script_words.proofs.arrival.proto.Goals as goal

pub returns-in_err-ctl-clause-message : goal.returns-in_err-ctl-clause-message
returns-in_err-ctl-clause-message c =
    let fails = control_fails c.args.limits _ c.args.texts.now _ _ c.in-len3.len_at_least c.in-len3.len_below c.in_ok-band.ensures c.in_err-ctl.ensures in
    search rules

pub returns-in_err-band-clause-message : goal.returns-in_err-band-clause-message
returns-in_err-band-clause-message c =
    let fails = band_fails c.args.limits (errors.Fault c.in_err-band.field-0.0) c.args.texts.now _ c.in-len3.len_at_least c.in-len3.len_below c.in_err-band.ensures in
    search rules
