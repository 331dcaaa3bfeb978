use Rattle.std.proofs.Common.{map, rules}
use Rattle.strm_script_words.specs.Field.{Maximum, maximum_field, Choice, Word}
use Rattle.strm_script_words.specs.Words.{all_wanted, wanted_word}
use Rattle.strm_script_words.specs.declared.verb.Verb.{Verb}
use Rattle.strm_script_words.specs.declared.fault.ReadError.TheVariants as errors
use Rattle.strm_script_words.proofs.RequestLemmas.{at, maximum, maximum_fails, choice, choice_fails, of_three, three_fails_0, three_fails_1, three_fails_2}
use Rattle.strm_script_words.proofs.request.peek.Goals as goal

pub returns : goal.returns
returns g c =
    let texts = c.args.texts.now in
    of_three g.row.M-Kind.Denot Verb.Peek texts Maximum Maximum (Choice (map wanted_word all_wanted)) (maximum_field c.in_ok-maxctl.maxctl) (maximum_field c.in_ok-maxdat.maxdat) (Word (wanted_word c.in_ok-flag.flag)) c.in-len3.len_at_least c.in-len3.len_below (maximum (at texts 0) c.in_ok-maxctl.maxctl c.in_ok-maxctl.ensures) (maximum (at texts 1) c.in_ok-maxdat.maxdat c.in_ok-maxdat.ensures) (choice (map wanted_word all_wanted) (at texts 2) (wanted_word c.in_ok-flag.flag) c.in_ok-flag.ensures.choice)

pub returns-in_err-maxctl : goal.returns-in_err-maxctl
returns-in_err-maxctl g c =
    let texts = c.args.texts.now in
    let fails = three_fails_0 g.row.M-Kind.Denot Verb.Peek texts (errors.Fault c.in_err-maxctl.field-0.0) Maximum Maximum (Choice (map wanted_word all_wanted)) c.in-len3.len_at_least c.in-len3.len_below (maximum_fails (errors.Fault c.in_err-maxctl.field-0.0) (at texts 0) c.in_err-maxctl.ensures) in
    search rules

pub returns-in_err-maxdat : goal.returns-in_err-maxdat
returns-in_err-maxdat g c =
    let texts = c.args.texts.now in
    let fails = three_fails_1 g.row.M-Kind.Denot Verb.Peek texts (errors.Fault c.in_err-maxdat.field-0.0) Maximum Maximum (Choice (map wanted_word all_wanted)) (maximum_field c.in_ok-maxctl.maxctl) c.in-len3.len_at_least c.in-len3.len_below (maximum (at texts 0) c.in_ok-maxctl.maxctl c.in_ok-maxctl.ensures) (maximum_fails (errors.Fault c.in_err-maxdat.field-0.0) (at texts 1) c.in_err-maxdat.ensures) in
    search rules

pub returns-in_err-flag : goal.returns-in_err-flag
returns-in_err-flag g c =
    let texts = c.args.texts.now in
    let fails = three_fails_2 g.row.M-Kind.Denot Verb.Peek texts (errors.Fault c.in_err-flag.field-0.0) Maximum Maximum (Choice (map wanted_word all_wanted)) (maximum_field c.in_ok-maxctl.maxctl) (maximum_field c.in_ok-maxdat.maxdat) c.in-len3.len_at_least c.in-len3.len_below (maximum (at texts 0) c.in_ok-maxctl.maxctl c.in_ok-maxctl.ensures) (maximum (at texts 1) c.in_ok-maxdat.maxdat c.in_ok-maxdat.ensures) (choice_fails (errors.Fault c.in_err-flag.field-0.0) (map wanted_word all_wanted) (at texts 2) c.in_err-flag.ensures.choice) in
    search rules
