use Rattle.std.proofs.Common.{rules, tests, ◌∙◌}
use Rattle.std.specs.Str.{bytes_eq}
use Rattle.std.proofs.lemmas.Iterator.{YieldsList-from_slice}
use Rattle.std.proofs.lemmas.Iterator.Search.{any_from_yields_List}
use Rattle.strm_script_parse.specs.declared.plan.LinkDecl.{LinkDecl}
use Rattle.strm_script_parse.proofs.StreamLemmas.{any_link}
use Rattle.strm_script_parse.proofs.names.has_link.Goals as goal

pub returns : goal.returns
returns c =
    any_from_yields_List (λ (link : LinkDecl). bytes_eq c.args.chosen.now.items link.name.items) _ _ _ c.any.ensures.ran (YieldsList-from_slice c.args.links.now cc) (λ x b q k. search (rules, tests))
    ∙ any_link c.args.chosen.now.items c.args.links.now
