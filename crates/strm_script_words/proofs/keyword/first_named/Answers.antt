use Rattle.std.proofs.Common.{ap, ◌∙◌, Some}
use Rattle.strm_script_words.proofs.ChoiceLemmas.{compared, goes_on, stops}
use Rattle.strm_script_words.proofs.keyword.first_named.Goals as goal

pub loop-one-preserved : goal.loop-one-preserved
loop-one-preserved g c =
    let is = c.word.ensures ∙ ap g.W.Keyword.word c.one-item.is in
    let same = compared c.is_same_word.result _ _ c.is_same_word.ensures in
    goes_on g.W.Keyword.word c.args.text.now c.args.all.now c.loop-one.one-index c.one-item.result _ _ c.loop-one-test.true is same c.if-is_same_word.false c.loop-one.invariant

pub returns-then-is_same_word : goal.returns-then-is_same_word
returns-then-is_same_word g c =
    let is = c.word.ensures ∙ ap g.W.Keyword.word c.one-item.is in
    let same = compared c.is_same_word.result _ _ c.is_same_word.ensures in
    ap Some c.one-item.is ∙ stops g.W.Keyword.word c.args.text.now c.args.all.now c.loop-one.one-index c.one-item.result _ _ c.loop-one-test.true is same c.if-is_same_word.true c.loop-one.invariant
