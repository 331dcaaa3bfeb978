use Rattle.std.proofs.Common.{rules}
use Rattle.strm_script_words.specs.Field.{Whole, Bytes}
use Rattle.strm_script_words.specs.declared.verb.Verb.{Verb}
use Rattle.strm_script_words.proofs.RequestLemmas.{at, whole, whole_fails, of_one, one_fails_0}
use Rattle.strm_script_words.proofs.request.find.Goals as goal

pub returns : goal.returns
returns g c =
    let texts = c.args.texts.now in
    of_one g.row.M-Kind.Denot Verb.Find texts Whole (Bytes c.in_ok-name.name) c.in-len1.len_at_least c.in-len1.len_below (whole (at texts 0) c.in_ok-name.name c.in_ok-name.ensures)

pub returns-in_err-name : goal.returns-in_err-name
returns-in_err-name g c =
    let texts = c.args.texts.now in
    let fails = one_fails_0 g.row.M-Kind.Denot Verb.Find texts c.in_err-name.field-0.0 Whole c.in-len1.len_at_least c.in-len1.len_below (whole_fails c.in_err-name.field-0.0 (at texts 0) c.in_err-name.ensures) in
    search rules
