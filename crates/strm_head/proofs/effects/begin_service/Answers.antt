use Rattle.std.proofs.Common.{◌∙◌, sym}
use Rattle.strm_head.proofs.BeginLemmas.{served_begins}
use Rattle.strm_head.proofs.effects.begin_service.Goals as goal

pub returns : goal.returns
returns g c = record {
  begins = served_begins g.M.Kind.Kinds.means c.args.chain.now.image c.args.end c.args.name c.args.side c.args.call g.A.ReplyForm.says c.serve.result c.serve.new.chain.image c.requires.own (sym c.is_question.ensures ∙ c.if-is_question.false) c.serve.ensures.reply c.serve.ensures.image c.serve.ensures.failed c.serve.ensures.breaks c.serve.ensures.nothing;
}
