use Rattle.std.proofs.Common.{map, rules}
use Rattle.strm_script_words.specs.Field.{Maximum, maximum_field, Upto, Number, Choice, Word}
use Rattle.strm_script_words.specs.Words.{all_gets, get_word}
use Rattle.strm_script_words.specs.declared.field.TheConstants.{MOST_BAND}
use Rattle.strm_script_words.specs.declared.verb.Verb.{Verb}
use Rattle.strm_script_words.specs.declared.fault.ReadError.TheVariants as errors
use Rattle.strm_script_words.proofs.RequestLemmas.{at, maximum, maximum_fails, upto, upto_fails, choice, choice_fails, of_four, four_fails_0, four_fails_1, four_fails_2, four_fails_3}
use Rattle.strm_script_words.proofs.request.getpmsg.Goals as goal

pub returns : goal.returns
returns g c =
    let texts = c.args.texts.now in
    of_four g.row.M-Kind.Denot Verb.Getpmsg texts Maximum Maximum (Upto MOST_BAND) (Choice (map get_word all_gets)) (maximum_field c.in_ok-maxctl.maxctl) (maximum_field c.in_ok-maxdat.maxdat) (Number c.in_ok-band.band) (Word (get_word c.in_ok-flag.flag)) c.in-len4.len_at_least c.in-len4.len_below (maximum (at texts 0) c.in_ok-maxctl.maxctl c.in_ok-maxctl.ensures) (maximum (at texts 1) c.in_ok-maxdat.maxdat c.in_ok-maxdat.ensures) (upto MOST_BAND (at texts 2) c.in_ok-band.band c.in_ok-band.ensures) (choice (map get_word all_gets) (at texts 3) (get_word c.in_ok-flag.flag) c.in_ok-flag.ensures.choice)

pub returns-in_err-maxctl : goal.returns-in_err-maxctl
returns-in_err-maxctl g c =
    let texts = c.args.texts.now in
    let fails = four_fails_0 g.row.M-Kind.Denot Verb.Getpmsg texts (errors.Fault c.in_err-maxctl.field-0.0) Maximum Maximum (Upto MOST_BAND) (Choice (map get_word all_gets)) c.in-len4.len_at_least c.in-len4.len_below (maximum_fails (errors.Fault c.in_err-maxctl.field-0.0) (at texts 0) c.in_err-maxctl.ensures) in
    search rules

pub returns-in_err-maxdat : goal.returns-in_err-maxdat
returns-in_err-maxdat g c =
    let texts = c.args.texts.now in
    let fails = four_fails_1 g.row.M-Kind.Denot Verb.Getpmsg texts (errors.Fault c.in_err-maxdat.field-0.0) Maximum Maximum (Upto MOST_BAND) (Choice (map get_word all_gets)) (maximum_field c.in_ok-maxctl.maxctl) c.in-len4.len_at_least c.in-len4.len_below (maximum (at texts 0) c.in_ok-maxctl.maxctl c.in_ok-maxctl.ensures) (maximum_fails (errors.Fault c.in_err-maxdat.field-0.0) (at texts 1) c.in_err-maxdat.ensures) in
    search rules

pub returns-in_err-band : goal.returns-in_err-band
returns-in_err-band g c =
    let texts = c.args.texts.now in
    let fails = four_fails_2 g.row.M-Kind.Denot Verb.Getpmsg texts (errors.Fault c.in_err-band.field-0.0) Maximum Maximum (Upto MOST_BAND) (Choice (map get_word all_gets)) (maximum_field c.in_ok-maxctl.maxctl) (maximum_field c.in_ok-maxdat.maxdat) c.in-len4.len_at_least c.in-len4.len_below (maximum (at texts 0) c.in_ok-maxctl.maxctl c.in_ok-maxctl.ensures) (maximum (at texts 1) c.in_ok-maxdat.maxdat c.in_ok-maxdat.ensures) (upto_fails (errors.Fault c.in_err-band.field-0.0) MOST_BAND (at texts 2) c.in_err-band.ensures) in
    search rules

pub returns-in_err-flag : goal.returns-in_err-flag
returns-in_err-flag g c =
    let texts = c.args.texts.now in
    let fails = four_fails_3 g.row.M-Kind.Denot Verb.Getpmsg texts (errors.Fault c.in_err-flag.field-0.0) Maximum Maximum (Upto MOST_BAND) (Choice (map get_word all_gets)) (maximum_field c.in_ok-maxctl.maxctl) (maximum_field c.in_ok-maxdat.maxdat) (Number c.in_ok-band.band) c.in-len4.len_at_least c.in-len4.len_below (maximum (at texts 0) c.in_ok-maxctl.maxctl c.in_ok-maxctl.ensures) (maximum (at texts 1) c.in_ok-maxdat.maxdat c.in_ok-maxdat.ensures) (upto MOST_BAND (at texts 2) c.in_ok-band.band c.in_ok-band.ensures) (choice_fails (errors.Fault c.in_err-flag.field-0.0) (map get_word all_gets) (at texts 3) c.in_err-flag.ensures.choice) in
    search rules
