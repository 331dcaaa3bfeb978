use Rattle.std.proofs.Common.{List, map, refl, ap, sym, ◌∙◌}
use Rattle.std.proofs.lemmas.List.{length-map}
use Rattle.strm_script_text.specs.Text.{texts_of}
use Rattle.strm_script_parse.specs.Carries.{carrying_view}
use Rattle.strm_script_parse.specs.Plan.{ended_view, link_view, process_place, process_view}
use Rattle.strm_script_parse.specs.Reading.{carried_by}
use Rattle.strm_script_parse.specs.declared.plan.LinkDecl.{LinkDecl}
use Rattle.strm_script_parse.proofs.CarryLemmas.{carry_read, links_written}
use Rattle.strm_script_parse.proofs.draft.Ended+BoxedModule+M.carry_line.Goals as goal

pub returns-clause-line : goal.returns-clause-line
returns-clause-line g c =
    let ended = c.args.self.now in
    let carries = c.in_ok-carries.carries in
    let set = links_written c.len-by.result carries.link ended.links c.set_carrier.new.links (c.set_carrier.ensures ∙ ap (λ (l : List LinkDecl). carried_by c.len-by.result (map link_view l) carries.link) c.deref_mut.ensures.value) in
    carry_read (ended_view ended (process_place c.args.process.now)) (texts_of c.args.texts.now) c.args.process.now c.args.process.now c.deref.result.now _ c.len-by.result c.len.result (carrying_view carries) c.push_takes.new.calls refl (ap (map link_view) c.deref.ensures.value) (c.len-by.ensures ∙ ended.processes.ok.0 ∙ sym (length-map ended.processes.items process_view)) c.len.ensures c.in_ok-carries.ensures.carries set c.in_ok-push_takes.ensures
