use Rattle.std.proofs.Common.{rules, tests, ◌∙◌}
use Rattle.std.proofs.lemmas.Iterator.{YieldsList-from_slice}
use Rattle.std.proofs.lemmas.Iterator.Search.{position_from_yields_List}
use Rattle.strm_script_parse.proofs.StreamLemmas.{has_name_of, link_place}
use Rattle.strm_script_parse.proofs.carry_line.link_of.Goals as goal

pub returns : goal.returns
returns c =
    position_from_yields_List (has_name_of c.args.wanted.now) _ _ _ c.position.ensures.ran (YieldsList-from_slice c.args.links.now cc) (λ x b q k. search (rules, tests))
    ∙ link_place c.args.wanted.now c.args.links.now
