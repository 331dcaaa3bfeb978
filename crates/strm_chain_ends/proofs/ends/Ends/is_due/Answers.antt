use Rattle.std.proofs.Common.{◌≤◌, sym, ◌∙◌, arith}
use Rattle.strm_msg.specs.declared.words.End.TheVariants.{A, B}
use Rattle.strm_chain_ends.specs.Image.{count_of}
use Rattle.strm_chain_ends.proofs.NextLemmas.{front_counted}
use Rattle.strm_chain_ends.proofs.DueLemmas.{due_holds}
use Rattle.strm_chain_ends.proofs.ends.Ends.is_due.Goals as goal

pub returns-clause-few : goal.returns-clause-few
returns-clause-few g c =
    let image = c.args.self.now.image in
    let a : count_of image A ≤ 8 = omega arith in
    let b : count_of image B ≤ 8 = omega arith in
    λ due. front_counted g.M.Kind.Kinds.means image c.args.place a b (due_holds g.M.Kind.Kinds.means image c.args.place (sym c.front_is_due.ensures ∙ due))
