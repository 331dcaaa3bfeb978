use Rattle.std.proofs.Common.{map, rules}
use Rattle.strm_script_words.specs.Field.{Optional, part_field, Choice, Word}
use Rattle.strm_script_words.specs.Words.{all_priorities, priority_word}
use Rattle.strm_script_words.specs.declared.verb.Verb.{Verb}
use Rattle.strm_script_words.specs.declared.fault.ReadError.TheVariants as errors
use Rattle.strm_script_words.proofs.RequestLemmas.{at, optional, optional_fails, choice, choice_fails, of_three, three_fails_0, three_fails_1, three_fails_2}
use Rattle.strm_script_words.proofs.request.putmsg.Goals as goal

pub returns : goal.returns
returns g c =
    let texts = c.args.texts.now in
    rw c.in_ok-putmsg.ensures (of_three g.row.M-Kind.Denot Verb.Putmsg texts Optional Optional (Choice (map priority_word all_priorities)) (part_field c.in_ok-ctl.ctl) (part_field c.in_ok-dat.dat) (Word (priority_word c.in_ok-flag.flag)) c.in-len3.len_at_least c.in-len3.len_below (optional (at texts 0) c.in_ok-ctl.ctl c.in_ok-ctl.ensures) (optional (at texts 1) c.in_ok-dat.dat c.in_ok-dat.ensures) (choice (map priority_word all_priorities) (at texts 2) (priority_word c.in_ok-flag.flag) c.in_ok-flag.ensures.choice))

pub returns-in_err-ctl : goal.returns-in_err-ctl
returns-in_err-ctl g c =
    let texts = c.args.texts.now in
    let fails = three_fails_0 g.row.M-Kind.Denot Verb.Putmsg texts c.in_err-ctl.field-0.0 Optional Optional (Choice (map priority_word all_priorities)) c.in-len3.len_at_least c.in-len3.len_below (optional_fails c.in_err-ctl.field-0.0 (at texts 0) c.in_err-ctl.ensures) in
    search rules

pub returns-in_err-dat : goal.returns-in_err-dat
returns-in_err-dat g c =
    let texts = c.args.texts.now in
    let fails = three_fails_1 g.row.M-Kind.Denot Verb.Putmsg texts c.in_err-dat.field-0.0 Optional Optional (Choice (map priority_word all_priorities)) (part_field c.in_ok-ctl.ctl) c.in-len3.len_at_least c.in-len3.len_below (optional (at texts 0) c.in_ok-ctl.ctl c.in_ok-ctl.ensures) (optional_fails c.in_err-dat.field-0.0 (at texts 1) c.in_err-dat.ensures) in
    search rules

pub returns-in_err-flag : goal.returns-in_err-flag
returns-in_err-flag g c =
    let texts = c.args.texts.now in
    let fails = three_fails_2 g.row.M-Kind.Denot Verb.Putmsg texts (errors.Fault c.in_err-flag.field-0.0) Optional Optional (Choice (map priority_word all_priorities)) (part_field c.in_ok-ctl.ctl) (part_field c.in_ok-dat.dat) c.in-len3.len_at_least c.in-len3.len_below (optional (at texts 0) c.in_ok-ctl.ctl c.in_ok-ctl.ensures) (optional (at texts 1) c.in_ok-dat.dat c.in_ok-dat.ensures) (choice_fails (errors.Fault c.in_err-flag.field-0.0) (map priority_word all_priorities) (at texts 2) c.in_err-flag.ensures.choice) in
    search rules
