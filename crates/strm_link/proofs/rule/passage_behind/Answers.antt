use Rattle.std.proofs.Common.{◌-◌, ◌+◌, ap, ◌∙◌, arith}
use Rattle.strm_link.specs.declared.act.Act.{Act}
use Rattle.strm_link.specs.declared.passage.Passage.{Passage}
use Rattle.strm_link.specs.Rule.{RuleValue, after_act}
use Rattle.strm_link.specs.Passage.{passage_after, passage_behind}
use Rattle.strm_link.proofs.PassageLemmas.{one_gone}
use Rattle.strm_link.proofs.rule.passage_behind.Goals as goal

pub loop-preserved : goal.loop-preserved
loop-preserved c =
    record {
      behind =
          ap (λ (rule : RuleValue). passage_behind rule c.after-passage.result (c.args.many - (c.loop.counter + 1))) c.advance.ensures
          ∙ ap (λ (p : Passage). passage_behind (after_act c.loop.rule) p (c.args.many - (c.loop.counter + 1))) (c.after-passage.ensures.passage ∙ ap (λ (act : Act). passage_after act c.loop.passage) c.act.ensures)
          ∙ one_gone c.loop.rule c.loop.passage c.args.many c.loop.counter c.loop-test.true
          ∙ c.loop.invariant.behind;
      few = omega (arith, c.after-passage.ensures.few, c.loop.invariant.few);
    }
