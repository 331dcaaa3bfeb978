use Rattle.std.proofs.Common.{rules, tests, ◌∙◌}
use Rattle.std.specs.Str.{bytes_eq}
use Rattle.std.proofs.lemmas.Iterator.{YieldsList-from_slice}
use Rattle.std.proofs.lemmas.Iterator.Search.{any_from_yields_List}
use Rattle.strm_module.specs.declared.shape.Shape.{Shape}
use Rattle.strm_script_parse.specs.declared.plan.ProcessDecl.{ProcessDecl}
use Rattle.strm_script_parse.proofs.StreamLemmas.{any_name}
use Rattle.strm_script_parse.proofs.names.has_process.Goals as goal

pub returns : goal.returns
returns g c =
    any_from_yields_List (λ (process : ProcessDecl (Shape g.row.M-Kind.Denot)). bytes_eq c.args.chosen.now.items process.name.items) _ _ _ c.any.ensures.ran (YieldsList-from_slice c.args.processes.now cc) (λ x b q k. search (rules, tests))
    ∙ any_name c.args.chosen.now.items c.args.processes.now
