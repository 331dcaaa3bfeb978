use Rattle.strm_link.proofs.RuleLemmas.{is_next, is_first}
use Rattle.strm_link.proofs.rule.place_behind.Goals as goal

pub returns-then-next-many-clause-value : goal.returns-then-next-many-clause-value
returns-then-next-many-clause-value c = is_next c.args.next c.args.many c.if-next-many.true

pub returns-else-next-many-clause-value : goal.returns-else-next-many-clause-value
returns-else-next-many-clause-value c = is_first c.args.next c.args.many c.requires c.if-next-many.false
