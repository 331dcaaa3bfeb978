use Rattle.std.proofs.Common.{rules, tests, ◌==◌, ◌∙◌}
use Rattle.std.proofs.lemmas.Iterator.{YieldsList-from_slice}
use Rattle.std.proofs.lemmas.Iterator.Search.{any_from_yields_List}
use Rattle.strm_run_input.specs.declared.script.Feed.{Feed}
use Rattle.strm_script_parse.proofs.StreamLemmas.{any_feed}
use Rattle.strm_script_parse.proofs.draft.has_feed.Goals as goal

pub returns : goal.returns
returns c =
    any_from_yields_List (λ (feed : Feed). feed.stream == c.args.number) _ _ _ c.any.ensures.ran (YieldsList-from_slice c.args.feeds.now cc) (λ x b q k. search (rules, tests))
    ∙ any_feed c.args.number c.args.feeds.now
