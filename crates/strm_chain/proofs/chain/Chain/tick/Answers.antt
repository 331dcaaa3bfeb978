use Rattle.std.proofs.Common.{◌≡◌, ◌+◌, ◌∙◌, length, refl, sym, arith}
use Rattle.strm_chain_ends.specs.Image.{end_of}
use Rattle.strm_chain_ends.proofs.LentLemmas.{same_there}
use Rattle.strm_chain_ends.proofs.TickLemmas.{ticked_next, ticked_all}
use Rattle.strm_chain.proofs.chain.Chain.tick.Goals as goal

pub loop-i-init : goal.loop-i-init
loop-i-init g c = record { image = sym (same_there c.args.self.now.image c.args.end); rooms = refl }

pub loop-i-preserved : goal.loop-i-preserved
loop-i-preserved g c =
    let was = c.loop-i.invariant in
    let i = c.loop-i.i in
    record {
      image = ticked_next g.M.Kind.Kinds.means c.args.self.now.image c.loop-i.self.image c.tick_at.new.self.image c.args.end i (i + 1) c.args.ticks refl was.image c.tick_at.ensures.image;
      rooms = c.tick_at.ensures.rooms ∙ was.rooms;
    }

pub returns-clause-image : goal.returns-clause-image
returns-clause-image g c =
    let old = c.args.self.now.image in
    let size : c.count-count.result ≡ length (end_of old c.args.end).modules = rw (← c.self.view_is) c.count-count.ensures.value in
    let all : c.loop-i.i ≡ length (end_of old c.args.end).modules = omega (arith, size) in
    c.loop-i.invariant.image ∙ ticked_all g.M.Kind.Kinds.means old c.args.end c.loop-i.i c.args.ticks all
