use Rattle.std.proofs.Common.{◌≡◌, All, append_assoc, arith, sym, ap, subst, ◌∙◌, length}
use Rattle.std.proofs.lemmas.List.{length-append, length-map, nil_from_length}
use Rattle.std.proofs.lemmas.List.Elements.{All-head, All-tail}
use Rattle.std.specs.Vec.Iter.{into_iter_items}
use Rattle.strm_msg.proofs.LoopLemmas.{rest_shorter}
use Rattle.strm_script_parse.specs.Plan.{draft_view}
use Rattle.strm_script_parse.specs.Reading.{lines_onto}
use Rattle.strm_script_parse.specs.Section.{IsSection, whole_lines, whole_text}
use Rattle.strm_script_parse.proofs.ReadLemmas.{first_stay, more_of_more, spells_all}
use Rattle.strm_script_parse.proofs.parsing.add_sections.Goals as goal

pub add_section-requires-clause-section : goal.add_section-requires-clause-section
add_section-requires-clause-section g c = λ _ _.
    let words = g.M.Kind.ReadKind.words in
    let some = (draft_view c.args.draft).streams in
    let was = c.loop-section.invariant in
    let next = c.in-Some.ensures.steps.0 in
    let many : c.len-streams.result ≡ length some = c.len-streams.ensures.len ∙ sym (ap (λ l. length l) (sym c.streams.ensures) ∙ length-map c.streams.result.now.entries _) in
    let stay = first_stay some (draft_view c.loop-section.draft).streams c.len-streams.result was.streams many in
    let all = subst (λ l. All (IsSection words some) l) next was.all in
    subst (λ streams. IsSection words streams c.in-Some.section) (sym stay) (All-head (IsSection words some) c.in-Some.section (into_iter_items c.next.new.self) all)

pub loop-section-preserved : goal.loop-section-preserved
loop-section-preserved g c =
    let words = g.M.Kind.ReadKind.words in
    let some = (draft_view c.args.draft).streams in
    let was = c.loop-section.invariant in
    let next = c.in-Some.ensures.steps.0 in
    let read = c.in_ok-many.ensures.read in
    let rest = into_iter_items c.next.new.self in
    let bytes = ap (λ all. length (whole_text all)) next ∙ length-append c.in-Some.section.text.now (whole_text rest) in
    record {
      left = rest_shorter _ _ _ _ _ was.left next c.in-Some.ensures.steps.1;
      rest = rw (append_assoc, ← next) was.rest;
      onto = was.onto ∙ ap (λ all. lines_onto words c.loop-section.many (draft_view c.loop-section.draft) (whole_lines all)) next ∙ read.onto (whole_lines rest);
      few = omega (arith, was.few, read.few, bytes);
      stands = read.stands;
      streams = more_of_more some (draft_view c.loop-section.draft).streams (draft_view c.add_section.new.draft).streams was.streams read.streams;
      all = All-tail (IsSection words some) c.in-Some.section rest (subst (λ l. All (IsSection words some) l) next was.all);
    }

pub returns : goal.returns
returns g c =
    let was = c.loop-section.invariant in
    let rest = into_iter_items c.loop-section.section-iterator in
    let none : length rest ≡ 0 = sym was.left ∙ c.in-None.ensures.steps.0 in
    let empty = ap (λ all. length (whole_lines all)) (nil_from_length rest none) in
    spells_all g.M.Kind.ReadKind.words c.args.before c.loop-section.many (draft_view c.args.draft) (draft_view c.loop-section.draft) (whole_lines c.args.sections.items) (whole_lines rest) c.finished.result was.onto empty c.finished.ensures
