use Rattle.std.proofs.Common.{map, rules}
use Rattle.strm_script_words.specs.Field.{Optional, part_field, Upto, Number, Choice, Word}
use Rattle.strm_script_words.specs.Words.{all_puts, put_word}
use Rattle.strm_script_words.specs.declared.field.TheConstants.{MOST_BAND}
use Rattle.strm_script_words.specs.declared.verb.Verb.{Verb}
use Rattle.strm_script_words.specs.declared.fault.ReadError.TheVariants as errors
use Rattle.strm_script_words.proofs.RequestLemmas.{at, optional, optional_fails, upto, upto_fails, choice, choice_fails, of_four, four_fails_0, four_fails_1, four_fails_2, four_fails_3}
use Rattle.strm_script_words.proofs.request.putpmsg.Goals as goal

pub returns : goal.returns
returns g c =
    let texts = c.args.texts.now in
    rw c.in_ok-putpmsg.ensures (of_four g.row.M-Kind.Denot Verb.Putpmsg texts Optional Optional (Upto MOST_BAND) (Choice (map put_word all_puts)) (part_field c.in_ok-ctl.ctl) (part_field c.in_ok-dat.dat) (Number c.in_ok-band.band) (Word (put_word c.in_ok-flag.flag)) c.in-len4.len_at_least c.in-len4.len_below (optional (at texts 0) c.in_ok-ctl.ctl c.in_ok-ctl.ensures) (optional (at texts 1) c.in_ok-dat.dat c.in_ok-dat.ensures) (upto MOST_BAND (at texts 2) c.in_ok-band.band c.in_ok-band.ensures) (choice (map put_word all_puts) (at texts 3) (put_word c.in_ok-flag.flag) c.in_ok-flag.ensures.choice))

pub returns-in_err-ctl : goal.returns-in_err-ctl
returns-in_err-ctl g c =
    let texts = c.args.texts.now in
    let fails = four_fails_0 g.row.M-Kind.Denot Verb.Putpmsg texts c.in_err-ctl.field-0.0 Optional Optional (Upto MOST_BAND) (Choice (map put_word all_puts)) c.in-len4.len_at_least c.in-len4.len_below (optional_fails c.in_err-ctl.field-0.0 (at texts 0) c.in_err-ctl.ensures) in
    search rules

pub returns-in_err-dat : goal.returns-in_err-dat
returns-in_err-dat g c =
    let texts = c.args.texts.now in
    let fails = four_fails_1 g.row.M-Kind.Denot Verb.Putpmsg texts c.in_err-dat.field-0.0 Optional Optional (Upto MOST_BAND) (Choice (map put_word all_puts)) (part_field c.in_ok-ctl.ctl) c.in-len4.len_at_least c.in-len4.len_below (optional (at texts 0) c.in_ok-ctl.ctl c.in_ok-ctl.ensures) (optional_fails c.in_err-dat.field-0.0 (at texts 1) c.in_err-dat.ensures) in
    search rules

pub returns-in_err-band : goal.returns-in_err-band
returns-in_err-band g c =
    let texts = c.args.texts.now in
    let fails = four_fails_2 g.row.M-Kind.Denot Verb.Putpmsg texts (errors.Fault c.in_err-band.field-0.0) Optional Optional (Upto MOST_BAND) (Choice (map put_word all_puts)) (part_field c.in_ok-ctl.ctl) (part_field c.in_ok-dat.dat) c.in-len4.len_at_least c.in-len4.len_below (optional (at texts 0) c.in_ok-ctl.ctl c.in_ok-ctl.ensures) (optional (at texts 1) c.in_ok-dat.dat c.in_ok-dat.ensures) (upto_fails (errors.Fault c.in_err-band.field-0.0) MOST_BAND (at texts 2) c.in_err-band.ensures) in
    search rules

pub returns-in_err-flag : goal.returns-in_err-flag
returns-in_err-flag g c =
    let texts = c.args.texts.now in
    let fails = four_fails_3 g.row.M-Kind.Denot Verb.Putpmsg texts (errors.Fault c.in_err-flag.field-0.0) Optional Optional (Upto MOST_BAND) (Choice (map put_word all_puts)) (part_field c.in_ok-ctl.ctl) (part_field c.in_ok-dat.dat) (Number c.in_ok-band.band) c.in-len4.len_at_least c.in-len4.len_below (optional (at texts 0) c.in_ok-ctl.ctl c.in_ok-ctl.ensures) (optional (at texts 1) c.in_ok-dat.dat c.in_ok-dat.ensures) (upto MOST_BAND (at texts 2) c.in_ok-band.band c.in_ok-band.ensures) (choice_fails (errors.Fault c.in_err-flag.field-0.0) (map put_word all_puts) (at texts 3) c.in_err-flag.ensures.choice) in
    search rules
