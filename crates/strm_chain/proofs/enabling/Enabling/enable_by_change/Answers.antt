use Rattle.std.proofs.Common.{◌<◌, ◌∙◌, sym, arith, length}
use Rattle.strm_chain_ends.specs.Held.{held_by}
use Rattle.strm_chain.proofs.EnablingLemmas.{ready_but, ready_more, ready_still_all}
use Rattle.strm_chain.proofs.enabling.Enabling.enable_by_change.Goals as goal

pub returns-then-after-before-clause-ready : goal.returns-then-after-before-clause-ready
returns-then-after-before-clause-ready g c =
    λ old before ready differs turns.
    ready_still_all g.M.Kind.Kinds.means old c.args.ends.now.image c.args.queue c.args.self.now differs turns (sym c.len-after.ensures ∙ c.if-after-before.true ∙ before) ready

pub returns-then-after-before-2-clause-ready : goal.returns-then-after-before-2-clause-ready
returns-then-after-before-2-clause-ready g c =
    λ old before ready differs turns.
    c.back_enable.ensures.ready (ready_but g.M.Kind.Kinds.means old c.args.ends.now.image c.args.queue c.args.self.now c.enable_own.new.self differs (λ p some out. turns p some (c.enable_own.ensures.kept p out)) c.enable_own.ensures.wanted c.enable_own.ensures.kept c.enable_own.ensures.own ready)

pub returns-else-after-before-2-clause-ready : goal.returns-else-after-before-2-clause-ready
returns-else-after-before-2-clause-ready g c =
    λ old before ready differs turns.
    let longer : length (held_by old c.args.queue) < length (held_by c.args.ends.now.image c.args.queue) = omega (arith, before, c.len-after.ensures, c.if-after-before.false, c.if-after-before-2.false) in
    ready_more g.M.Kind.Kinds.means old c.args.ends.now.image c.args.queue c.args.self.now c.enable_own.new.self differs (λ p some out. turns p some (c.enable_own.ensures.kept p out)) longer c.enable_own.ensures.wanted c.enable_own.ensures.kept c.enable_own.ensures.own ready
