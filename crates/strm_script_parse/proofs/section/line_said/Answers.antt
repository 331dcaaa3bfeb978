use Rattle.std.proofs.Common.{Ok, ap, sym, ◌∙◌}
use Rattle.strm_script_text.specs.Text.{texts_of}
use Rattle.strm_script_parse.specs.Plan.{streams_of}
use Rattle.strm_script_parse.proofs.SectionLemmas.{line_says}
use Rattle.strm_script_parse.proofs.section.line_said.Goals as goal

pub returns-in-Ok-clause-said : goal.returns-in-Ok-clause-said
returns-in-Ok-clause-said g c =
    line_says g.M.Kind.ReadKind.words (streams_of c.args.streams.now) c.args.line.now (texts_of c.as_slice.result.now) c.fields_said.result (c.in-Ok.ensures.fields ∙ ap (λ texts. Ok (texts_of texts)) (sym c.as_slice.ensures.value)) c.fields_said.ensures.said
