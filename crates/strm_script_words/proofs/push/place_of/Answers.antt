use Rattle.std.proofs.Common.{rules, tests, ◌==◌, ◌∙◌}
use Rattle.std.proofs.lemmas.Iterator.{YieldsList-from_slice}
use Rattle.std.proofs.lemmas.Iterator.Search.{position_from_yields_List}
use Rattle.strm_script_words.proofs.TableLemmas.{place_or_end}
use Rattle.strm_script_words.proofs.push.place_of.Goals as goal

pub returns : goal.returns
returns c =
    let place = position_from_yields_List (λ other. other == c.args.byte) _ _ c.position.result c.position.ensures.ran (YieldsList-from_slice c.args.bytes.now cc) (λ x b q k. search (rules, tests)) in
    c.unwrap_or.ensures ∙ place_or_end (λ other. other == c.args.byte) c.args.bytes.now _ place
