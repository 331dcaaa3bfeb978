use Rattle.strm_head.specs.Effects.{out_of}
use Rattle.strm_head.proofs.KeptLemmas.{answered_kept}
use Rattle.strm_head.proofs.stream.Stream.call.Goals as goal

pub invariant_of-self : goal.invariant_of-self
invariant_of-self g c =
    let image = c.self.inside.chain.value.image in
    let means = g.M.Kind.Kinds.means in
    answered_kept means image c.args.end c.args.request c.answer.result.answer c.answer.result.moves (out_of means image c.args.end c.args.request c.answer.result.answer) c.answer.new.chain.image c.self.invariant (rw c.deref_mut.ensures.value at c.answer.ensures.answers)
