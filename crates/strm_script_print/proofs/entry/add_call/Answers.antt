use Rattle.std.proofs.Common.{ap, ◌∙◌}
use Rattle.strm_script_words.specs.Table.{word_of}
use Rattle.strm_script_print.proofs.GatheredLemmas.{call_put}
use Rattle.strm_script_print.proofs.entry.add_call.Goals as goal

pub returns : goal.returns
returns g c =
    call_put g.K.PrintKind.spelling _ _ _ _ _ _ _ _ c.word.result.now c.args.stream.now c.args.end c.args.request.now (c.word.ensures ∙ ap word_of c.verb_of.ensures) c.add_word.ensures c.add_target.ensures c.add_fields.ensures
