use Rattle.std.proofs.Common.{rules, tests, ◌∙◌}
use Rattle.std.proofs.lemmas.Iterator.{YieldsList-from_slice}
use Rattle.std.proofs.lemmas.Iterator.Search.{any_from_yields_List}
use Rattle.strm_script_parse.specs.Plan.{link_view}
use Rattle.strm_script_parse.specs.Reading.{carries_from}
use Rattle.strm_script_parse.specs.declared.plan.LinkDecl.{LinkDecl}
use Rattle.strm_script_parse.proofs.StreamLemmas.{any_by}
use Rattle.strm_script_parse.proofs.carry_line.any_carries.Goals as goal

pub returns : goal.returns
returns c =
    any_from_yields_List (λ (link : LinkDecl). carries_from c.args.process c.args.wire (link_view link)) _ _ _ c.any.ensures.ran (YieldsList-from_slice c.args.links.now cc) (λ x b q k. search (rules, tests))
    ∙ any_by c.args.process c.args.wire c.args.links.now
