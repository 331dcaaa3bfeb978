use Rattle.strm_shared.proofs.FoundLemmas.{hands_back, shows}
use Rattle.strm_shared.proofs.shared.Shared.call_and_tell.Goals as goal

pub returns-clause-back : goal.returns-clause-back
returns-clause-back g c = hands_back g.M.Kind.Kinds.means g.A.ReplyForm.Agrees _ _ _ c.args.call c.call_with_news-called.result.0 _ c.call_with_news-called.ensures.log.calls

pub returns-clause-shown : goal.returns-clause-shown
returns-clause-shown g c = shows g.M.Kind.Kinds.means g.A.ReplyForm.Agrees _ _ c.args.call c.call_with_news-called.result.0 _ c.call_with_news-called.ensures.log.calls
