use Rattle.std.proofs.Common.{[], ◌∷◌, map, subst, arith}
use Rattle.std.specs.Str.Lines.{lines}
use Rattle.std.proofs.lemmas.List.{length_push, map-append}
use Rattle.strm_script_parse.specs.Plan.{call_view, streams_of}
use Rattle.strm_script_parse.specs.Reading.{line_onto}
use Rattle.strm_script_parse.specs.Section.{Says}
use Rattle.strm_script_parse.proofs.SectionLemmas.{nothing_said, one_said, said_there}
use Rattle.strm_script_parse.proofs.section.calls_in.Goals.{in-Nothing, in-Call+in_ok-push-in-Call}
use Rattle.strm_script_parse.proofs.section.calls_in.Goals as goal

pub loop-rest-preserved : goal.loop-rest-preserved
loop-rest-preserved g c =
    let words = g.M.Kind.ReadKind.words in
    let streams = streams_of c.args.streams.now in
    let was = c.loop-rest.invariant in
    let all = lines c.args.text.now in
    let rest = lines c.loop-rest.rest.now in
    let after = lines c.first_line.result.1.now in
    let calls = map call_view c.loop-rest.calls in
    elim c.match-branch-2.branch [
      | in-Nothing w ↦ rw w.calls-is (record {
        onto = nothing_said words streams all rest after c.first_line.result.0.now calls c.loop-rest.lines c.first_line.ensures.first was.onto (subst (λ said. Says streams (λ n d. line_onto words n d c.first_line.result.0.now) said) w.in-Nothing.is c.in_ok-line_said.ensures.said);
        there = was.there;
        some = omega (arith, was.some);
        few = omega (arith, was.few, c.first_line.ensures.shorter);
        known = c.line_said.ensures.known;
      })
      | in-Call+in_ok-push-in-Call w ↦ rw (w.calls-is, w.in_ok-push-in-Call.ensures, map-append call_view c.loop-rest.calls (w.in-Call.call ∷ [])) (record {
        onto = one_said words streams all rest after c.first_line.result.0.now calls (call_view w.in-Call.call ∷ []) c.loop-rest.lines c.first_line.ensures.first was.onto (subst (λ said. Says streams (λ n d. line_onto words n d c.first_line.result.0.now) said) w.in-Call.is c.in_ok-line_said.ensures.said);
        there = said_there words streams calls (call_view w.in-Call.call ∷ []) c.first_line.result.0.now was.there (subst (λ said. Says streams (λ n d. line_onto words n d c.first_line.result.0.now) said) w.in-Call.is c.in_ok-line_said.ensures.said);
        some = omega (arith, was.some, length_push c.loop-rest.calls w.in-Call.call);
        few = omega (arith, was.few, c.first_line.ensures.shorter);
        known = c.line_said.ensures.known;
      })
    ]
