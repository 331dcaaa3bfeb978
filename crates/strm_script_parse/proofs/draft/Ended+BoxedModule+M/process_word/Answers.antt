use Rattle.std.proofs.Common.{subst, sym, ◌∙◌}
use Rattle.strm_script_text.specs.Text.{texts_of}
use Rattle.strm_script_words.specs.Fault.{Gives}
use Rattle.strm_script_parse.specs.Plan.{ended_view, process_place, process_view}
use Rattle.strm_script_parse.proofs.SectionLemmas.{verb_line}
use Rattle.strm_script_parse.proofs.draft.Ended+BoxedModule+M.process_word.Goals as goal

pub returns-in-Some : goal.returns-in-Some
returns-in-Some g c =
    let line = verb_line g.M.Kind.ReadKind.words c.args.number (ended_view c.args.self.now (process_place c.args.process.now)) (process_view c.args.process.now) c.args.word.now (texts_of c.args.texts.now) c.in-Some.verb (sym c.from_keyword.ensures ∙ c.in-Some.is) in
    subst (λ read. Gives (λ _. ended_view c.call_line.new.self (process_place c.call_line.new.process)) c.call_line.result read) (sym line) c.call_line.ensures
