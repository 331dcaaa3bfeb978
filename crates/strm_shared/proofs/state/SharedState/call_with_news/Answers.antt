use Rattle.std.proofs.Common.{◌≡◌, ◌∙◌, ap, true}
use Rattle.strm_shared.specs.CallCounts.{SharedStateValue}
use Rattle.strm_shared.specs.Waiting.{HasNews}
use Rattle.strm_shared.proofs.NewsLemmas.{quiet_after}
use Rattle.strm_shared.proofs.state.SharedState.call_with_news.Goals as goal

-- with no news the stream is as it was
pub returns-clause-still : goal.returns-clause-still
returns-clause-still g c = λ has quiet.
    let told = c.take_news-is_news.ensures.news has in
    let none : HasNews c.count_entries-before.result c.call-called.new.self.log.kept → ⊥ = λ news. let is : c.take_news-is_news.result ≡ true = told.1 news in absurd cc in
    ap (λ (s : SharedStateValue _). s.log.image) c.take_news-is_news.ensures.same
    ∙ quiet_after g.M.Kind.Kinds.means g.A.ReplyForm.Agrees _ _ _ c.args.call c.call-called.result _ _ c.call-called.ensures.log (rw c.count_entries-before.ensures at none)
