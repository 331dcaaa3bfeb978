use Rattle.std.proofs.Common.{rules}
use Rattle.strm_script_words.proofs.FaultLemmas.{first_control_fails}
use Rattle.strm_script_words.proofs.arrival.pcproto.Goals as goal

pub returns-in_err-ctl-clause-message : goal.returns-in_err-ctl-clause-message
returns-in_err-ctl-clause-message c =
    let fails = first_control_fails c.args.limits _ c.args.texts.now _ c.in-len2.len_at_least c.in-len2.len_below c.in_err-ctl.ensures in
    search rules
