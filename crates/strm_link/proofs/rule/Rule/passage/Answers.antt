use Rattle.std.proofs.Common.{ℕ, ap, sym, ◌∙◌}
use Rattle.strm_link.specs.Passage.{nothing_yet, passage_behind}
use Rattle.strm_link.proofs.PassageLemmas.{after_first}
use Rattle.strm_link.proofs.rule.Rule.passage.Goals as goal

pub returns : goal.returns
returns c = λ taken many.
    c.passage_behind.ensures ∙ ap (λ (n : ℕ). passage_behind c.args.self.now nothing_yet n) (sym many) ∙ after_first c.args.self.now taken
