use Rattle.std.proofs.Common.{rules}
use Rattle.strm_script_words.specs.Field.{Upto, Number, Optional, part_field}
use Rattle.strm_script_words.specs.declared.field.TheConstants.{MOST_U32}
use Rattle.strm_script_words.specs.declared.verb.Verb.{Verb}
use Rattle.strm_script_words.specs.declared.fault.ReadError.TheVariants as errors
use Rattle.strm_script_words.proofs.RequestLemmas.{at, upto, upto_fails, optional, optional_fails, of_two, two_fails_0, two_fails_1}
use Rattle.strm_script_words.proofs.request.strput.Goals as goal

pub returns : goal.returns
returns g c =
    let texts = c.args.texts.now in
    of_two g.row.M-Kind.Denot Verb.Strput texts (Upto MOST_U32) Optional (Number c.in_ok-cmd.cmd) (part_field c.in_ok-dat.dat) c.in-len2.len_at_least c.in-len2.len_below (upto MOST_U32 (at texts 0) c.in_ok-cmd.cmd c.in_ok-cmd.ensures) (optional (at texts 1) c.in_ok-dat.dat c.in_ok-dat.ensures)

pub returns-in_err-cmd : goal.returns-in_err-cmd
returns-in_err-cmd g c =
    let texts = c.args.texts.now in
    let fails = two_fails_0 g.row.M-Kind.Denot Verb.Strput texts (errors.Fault c.in_err-cmd.field-0.0) (Upto MOST_U32) Optional c.in-len2.len_at_least c.in-len2.len_below (upto_fails (errors.Fault c.in_err-cmd.field-0.0) MOST_U32 (at texts 0) c.in_err-cmd.ensures) in
    search rules

pub returns-in_err-dat : goal.returns-in_err-dat
returns-in_err-dat g c =
    let texts = c.args.texts.now in
    let fails = two_fails_1 g.row.M-Kind.Denot Verb.Strput texts c.in_err-dat.field-0.0 (Upto MOST_U32) Optional (Number c.in_ok-cmd.cmd) c.in-len2.len_at_least c.in-len2.len_below (upto MOST_U32 (at texts 0) c.in_ok-cmd.cmd c.in_ok-cmd.ensures) (optional_fails c.in_err-dat.field-0.0 (at texts 1) c.in_err-dat.ensures) in
    search rules
