use denote.Ref.{Bor}
use Rattle.std.proofs.Common.{List, ℕ, Option, None, ap, sym, ◌∙◌}
use Rattle.std.specs.Option.{option_map}
use Rattle.strm_script_text.specs.Text.{texts_of}
use Rattle.strm_script_parse.specs.Plan.{call_view, streams_of}
use Rattle.strm_script_parse.specs.Reading.{call_at}
use Rattle.strm_script_parse.proofs.SectionLemmas.{says_call}
use Rattle.strm_script_parse.proofs.section.word_said.Goals as goal

-- no reply is expected, so the fields are those of the call
pub returns-in-Ok-clause-said : goal.returns-in-Ok-clause-said
returns-in-Ok-clause-said g c =
    let bare = sym c.cut_replies.ensures.replies ∙ ap (λ (found : Option (Bor (List (Bor (List ℕ))))). option_map (λ fields. texts_of fields.now) found) c.in_default-None.is-1 in
    let read = ap (λ (fields : List (List ℕ)). call_at g.M.Kind.ReadKind.words (streams_of c.args.streams.now) 0 c.in-Some.verb fields None) (sym c.cut_replies.ensures.call) ∙ c.in-Ok.ensures.call in
    says_call g.M.Kind.ReadKind.words (streams_of c.args.streams.now) c.args.word.now (texts_of c.args.texts.now) c.in-Some.verb (call_view c.in-Ok.call) (sym c.from_keyword.ensures ∙ c.in-Some.is) (sym c.is_push.ensures ∙ c.if-is_push.false) bare read
