use Rattle.std.proofs.Common.{rules, tests, ◌==◌, ◌∙◌}
use Rattle.std.proofs.lemmas.Iterator.{YieldsList-from_slice}
use Rattle.std.proofs.lemmas.Iterator.Search.{any_from_yields_List}
use Rattle.strm_script_parse.specs.declared.plan.LinkDecl.{LinkDecl}
use Rattle.strm_script_parse.proofs.StreamLemmas.{any_to}
use Rattle.strm_script_parse.proofs.link_line.leads_to.Goals as goal

pub returns : goal.returns
returns c =
    any_from_yields_List (λ (link : LinkDecl). link.to == c.args.number) _ _ _ c.any.ensures.ran (YieldsList-from_slice c.args.links.now cc) (λ x b q k. search (rules, tests))
    ∙ any_to c.args.number c.args.links.now
