use Rattle.std.proofs.Common.{rules}
use Rattle.strm_script_words.specs.declared.fault.ReadError.TheVariants as errors
use Rattle.strm_script_words.proofs.ServiceLemmas.{cmd_fails}
use Rattle.strm_script_words.proofs.service.ioctl.Goals as goal

pub returns-in_err-cmd : goal.returns-in_err-cmd
returns-in_err-cmd c =
    let fails = cmd_fails (errors.Fault c.in_err-cmd.field-0.0) c.args.texts.now _ _ c.in-len3.len_at_least c.in-len3.len_below c.in_ok-id.ensures c.in_err-cmd.ensures in
    search rules
