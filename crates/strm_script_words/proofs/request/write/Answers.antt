use Rattle.std.proofs.Common.{rules}
use Rattle.strm_script_words.specs.Field.{Whole, Bytes}
use Rattle.strm_script_words.specs.declared.verb.Verb.{Verb}
use Rattle.strm_script_words.proofs.RequestLemmas.{at, whole, whole_fails, of_one, one_fails_0}
use Rattle.strm_script_words.proofs.request.write.Goals as goal

pub returns : goal.returns
returns g c =
    let texts = c.args.texts.now in
    of_one g.row.M-Kind.Denot Verb.Write texts Whole (Bytes c.in_ok-dat.dat) c.in-len1.len_at_least c.in-len1.len_below (whole (at texts 0) c.in_ok-dat.dat c.in_ok-dat.ensures)

pub returns-in_err-dat : goal.returns-in_err-dat
returns-in_err-dat g c =
    let texts = c.args.texts.now in
    let fails = one_fails_0 g.row.M-Kind.Denot Verb.Write texts c.in_err-dat.field-0.0 Whole c.in-len1.len_at_least c.in-len1.len_below (whole_fails c.in_err-dat.field-0.0 (at texts 0) c.in_err-dat.ensures) in
    search rules
