use Rattle.std.proofs.Common.{◌≤◌, ◌+◌, arith, ◌≡◌, ◌∙◌, true, length, refl, sym, ap}
use Rattle.strm_chain_ends.proofs.TurnLemmas.{turns_serves, serves_steady}
use Rattle.strm_msg.specs.declared.words.Side.TheVariants.{Rd, Wr}
use Rattle.strm_chain_ends.specs.Held.{DiffersIn, module_place}
use Rattle.strm_chain_ends.proofs.NextLemmas.{ways_of_same}
use Rattle.strm_chain_ends.proofs.FrameLemmas.{serves_differs}
use Rattle.strm_chain.proofs.EnablingLemmas.{places_same}
use Rattle.strm_chain_end.specs.Modules.{HoldsCalm}
use Rattle.strm_chain_ends.specs.Image.{end_of}
use Rattle.strm_chain_ends.specs.declared.place.NextQueue.TheVariants.{Of}
use Rattle.strm_module.specs.Calm.{options_sent}
use Rattle.strm_chain_ends.specs.Count.{answers_options}
use Rattle.strm_chain.specs.Enabled.{ChainValue, is_enabled}
use Rattle.strm_chain.proofs.CountLemmas.{serves_one, serves_sets_less, count_take}
use Rattle.strm_chain.specs.Deliver.{ModuleStep}
use Rattle.strm_chain.proofs.HopLemmas.{serves_nowhere}
use Rattle.strm_chain_end.specs.End.{end_serves}
use Rattle.strm_chain_ends.specs.Image.{with_end}
use Rattle.strm_chain_ends.proofs.LentLemmas.{lent_as, lent_same}
use Rattle.strm_chain.proofs.chain.Chain.serve_at.Goals as goal

pub invariant_of-self : goal.invariant_of-self
invariant_of-self g c =
    let old = c.self.inside.ends.image in
    let lent = c.end_mut.result.now.state in
    let left = c.serve_at.new.self.state in
    let new = with_end old c.args.end left in
    let state = lent_as old c.args.end lent left (λ s. (end_serves g.M.Kind.Kinds.means s c.args.i c.args.side).state) c.end_mut.ensures.state c.in-Ok.ensures.state in
    let same = lent_same old c.args.end lent left c.end_mut.ensures.state c.serve_at.ensures.same in
    let differs : DiffersIn old new c.in-Some.queue =
    rw c.in-Some.ensures.some (serves_differs g.M.Kind.Kinds.means old c.args.end new c.args.i c.args.side same state) in (
      c.enable_by_change.ensures.ready old c.len-before.ensures (c.enable_by_turns.ensures.ready old c.self.invariant.0) differs
          (c.enable_by_turns.ensures.known old (sym c.turns-turns.ensures.wr) (sym c.turns-turns.ensures.rd) (turns_serves g.M.Kind.Kinds.means old new c.args.end c.args.i c.args.side state)),
      c.enable_by_change.ensures.places (c.enable_by_turns.ensures.places (places_same old new c.self.inside.enabling.run.items (ways_of_same old new differs.same) c.self.invariant.1)),
      c.self.invariant.2,
    )

pub returns-in-Ok-clause-moves : goal.returns-in-Ok-clause-moves
returns-in-Ok-clause-moves g c =
    let old = c.self.inside.ends.image in
    let lent = c.end_mut.result.now.state in
    let left = c.serve_at.new.self.state in
    let new = with_end old c.args.end left in
    let state = lent_as old c.args.end lent left (λ s. (end_serves g.M.Kind.Kinds.means s c.args.i c.args.side).state) c.end_mut.ensures.state c.in-Ok.ensures.state in
    let same = lent_same old c.args.end lent left c.end_mut.ensures.state c.serve_at.ensures.same in
    let queue = Of (module_place c.args.side c.args.end c.args.i) in
    let is = c.in-Some.ensures.some in
    let ordinary : HoldsCalm (end_of old c.args.end) = rw (ap (λ (v : ChainValue _). end_of v.image c.args.end) c.self.view_is) c.in-Some.ensures.ordinary in
    λ kinds enabled.
    let was : is_enabled c.self.inside.enabling.run (module_place c.args.side c.args.end c.args.i) ≡ true = ap (λ (v : ChainValue _). is_enabled v.run (module_place c.args.side c.args.end c.args.i)) c.self.view_is ∙ enabled in
    let still = ap length (c.enable_by_turns.ensures.steady (serves_steady g.M.Kind.Kinds.means kinds old new c.args.end c.args.i c.args.side Wr state ∙ sym c.turns-turns.ensures.wr) (serves_steady g.M.Kind.Kinds.means kinds old new c.args.end c.args.i c.args.side Rd state ∙ sym c.turns-turns.ensures.rd)) in
    let taken = c.enable_by_change.ensures.taken (module_place c.args.side c.args.end c.args.i) is (c.enable_by_turns.ensures.kept (module_place c.args.side c.args.end c.args.i) was) in
    let less : length c.enable_by_change.new.self.run.items ≤ length c.self.inside.enabling.run.items + 1 = omega (arith, taken, still) in
    let served = serves_one g.M.Kind.Kinds.means old new c.args.end c.args.i c.args.side kinds ordinary state in
    let b = answers_options old.driver in
    rw (← c.self.view_is) (count_take old new queue (length c.self.inside.enabling.run.items) (length c.enable_by_change.new.self.run.items) (options_sent b c.in-Ok.outs.items) (serves_differs g.M.Kind.Kinds.means old c.args.end new c.args.i c.args.side same state) served less (serves_sets_less g.M.Kind.Kinds.means b old new c.args.end c.args.i c.args.side c.in-Ok.outs.items kinds state (c.in-Ok.ensures.outs ∙ ap (λ s. (end_serves g.M.Kind.Kinds.means s c.args.i c.args.side).outs) c.end_mut.ensures.state)))

pub returns-in-Ok-clause-given : goal.returns-in-Ok-clause-given
returns-in-Ok-clause-given g c = rw (← c.self.view_is) (c.enable_by_change.ensures.given ∙ c.enable_by_turns.ensures.given)

pub returns-in-Err-clause-image : goal.returns-in-Err-clause-image
returns-in-Err-clause-image g c = tt

pub returns-in-Err-clause-outs : goal.returns-in-Err-clause-outs
returns-in-Err-clause-outs g c = tt

pub returns-in-Err-clause-moves : goal.returns-in-Err-clause-moves
returns-in-Err-clause-moves g c = tt

pub returns-in_default-clause-image : goal.returns-in_default-clause-image
returns-in_default-clause-image g c =
    sym (ap (λ (p : ModuleStep _). p.image) (serves_nowhere g.M.Kind.Kinds.means c.args.self.now.image c.args.end c.args.i c.args.side c.in_default.ensures.none))

pub returns-in_default-clause-outs : goal.returns-in_default-clause-outs
returns-in_default-clause-outs g c =
    rw c.new.ensures (sym (ap (λ (p : ModuleStep _). p.outs) (serves_nowhere g.M.Kind.Kinds.means c.args.self.now.image c.args.end c.args.i c.args.side c.in_default.ensures.none)))

pub returns-in_default-clause-given : goal.returns-in_default-clause-given
returns-in_default-clause-given g c = refl
