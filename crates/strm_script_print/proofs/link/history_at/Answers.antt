use Rattle.std.proofs.Common.{◌∙◌}
use Rattle.strm_script_print.proofs.LinkLemmas.{history_found, history_past}
use Rattle.strm_script_print.proofs.link.history_at.Goals as goal

pub returns-in-Some : goal.returns-in-Some
returns-in-Some g c =
    let found = c.in-Some.ensures.lookup.3 in
    c.as_slice.ensures.value ∙ history_found c.args.logs.now c.args.number c.in-Some.log.now found.0 found.1

pub returns-in-None : goal.returns-in-None
returns-in-None g c = history_past c.args.logs.now c.args.number c.in-None.ensures.lookup.3
