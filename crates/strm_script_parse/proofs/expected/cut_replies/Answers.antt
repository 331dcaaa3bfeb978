use denote.Ref.{Bor}
use Rattle.std.proofs.Common.{◌≡◌, ◌+◌, ◌-◌, ℕ, List, Some, drop, length, position, take, ap, ◌∙◌}
use Rattle.std.proofs.lemmas.List.{take_rest}
use Rattle.strm_script_text.specs.Text.{texts_of}
use Rattle.strm_script_parse.proofs.ExpectedLemmas.{all_fields, at_colon, fields_before, fields_behind, no_replies}
use Rattle.strm_script_parse.proofs.expected.cut_replies.Goals as goal

-- the fields behind the first
abbrev behind : List (Bor (List ℕ)) → List (Bor (List ℕ))
behind slices = take (length slices - 1) (drop 1 slices)

same_place : (slices : List (Bor (List ℕ))) → position at_colon (behind slices) ≡ position at_colon (drop 1 slices)
same_place slices = ap (λ (l : List (Bor (List ℕ))). position at_colon l) (take_rest slices 1)

pub returns-in-Some-clause-call : goal.returns-in-Some-clause-call
returns-in-Some-clause-call c = fields_before c.args.texts.now c.in-Some.at (c.in-Some.ensures ∙ same_place c.args.texts.now)

pub returns-in-Some-clause-replies : goal.returns-in-Some-clause-replies
returns-in-Some-clause-replies c =
    let slices = c.args.texts.now in
    let at = c.in-Some.at in
    ap (λ (l : List (Bor (List ℕ))). Some (texts_of l)) (take_rest (behind slices) (at + 1))
    ∙ ap (λ (l : List (Bor (List ℕ))). Some (texts_of (drop (at + 1) l))) (take_rest slices 1)
    ∙ fields_behind slices at (c.in-Some.ensures ∙ same_place slices)

pub returns-in-None-clause-call : goal.returns-in-None-clause-call
returns-in-None-clause-call c = all_fields c.args.texts.now (c.in-None.ensures ∙ same_place c.args.texts.now)

pub returns-in-None-clause-replies : goal.returns-in-None-clause-replies
returns-in-None-clause-replies c = no_replies c.args.texts.now (c.in-None.ensures ∙ same_place c.args.texts.now)
