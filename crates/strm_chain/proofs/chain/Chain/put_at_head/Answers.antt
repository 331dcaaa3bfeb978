use Rattle.strm_chain_ends.specs.declared.place.Place.{Place}
use Rattle.strm_chain_ends.specs.Flow.{turn_of}
use Rattle.std.proofs.Common.{ap, ◌≡◌, ◌+◌, ◌≤◌, ◌∙◌, true, false, length, sym, arith}
use Rattle.strm_chain_ends.proofs.TurnLemmas.{turns_head}
use Rattle.strm_module.specs.Calm.{options_of}
use Rattle.strm_chain_ends.specs.Count.{answers_options}
use Rattle.strm_chain_ends.specs.declared.place.NextQueue.TheVariants.{Head}
use Rattle.strm_chain_ends.specs.Held.{held_by, DiffersIn, SetsMarks, sets_options}
use Rattle.strm_chain_ends.proofs.CalmLemmas.{sets_once}
use Rattle.strm_chain_ends.proofs.FrameLemmas.{head_differs, head_sets, same_differs, same_sets}
use Rattle.strm_chain_ends.proofs.NextLemmas.{ways_of_same}
use Rattle.strm_chain.proofs.CaseLemmas.{on_result, on_ok}
use Rattle.strm_chain.proofs.CountLemmas.{head_grows, head_sets_less, count_put, count_sets}
use Rattle.strm_chain.proofs.EnablingLemmas.{places_same, ready_marks}
use Rattle.strm_chain_end.specs.Head.{put_at_head}
use Rattle.strm_chain_ends.specs.Image.{with_end}
use Rattle.strm_chain_ends.proofs.LentLemmas.{lent_ok, lent_err, lent_same}
use Rattle.strm_chain.proofs.chain.Chain.put_at_head.Goals as goal

pub invariant_of-self : goal.invariant_of-self
invariant_of-self g c =
    let old = c.self.inside.ends.image in
    let lent = c.end_mut.result.now.state in
    let left = c.put_at_head-answer.new.self.state in
    let new = with_end old c.args.end left in
    let state = lent_ok c.put_at_head-answer.result old c.args.end lent left (λ s. (put_at_head s c.args.m).state) c.end_mut.ensures.state c.put_at_head-answer.ensures.state in
    let err = lent_err c.put_at_head-answer.result old c.args.end lent left c.end_mut.ensures.state c.put_at_head-answer.ensures.err in
    let same = lent_same old c.args.end lent left c.end_mut.ensures.state c.put_at_head-answer.ensures.same in
    let sets : sets_options c.args.m.kind ≡ true = rw (← c.deref.ensures, ← c.behind-m.view_is) (sym c.sets_options-sets.ensures ∙ c.if-sets.true) in
    let turns : (p : Place) → turn_of g.M.Kind.Kinds.means new p ≡ turn_of g.M.Kind.Kinds.means old p = on_result c.put_at_head-answer.result _ _ _ state err
    (λ e. turns_head g.M.Kind.Kinds.means old new c.args.end c.args.m e) (λ e p. ap (λ i. turn_of g.M.Kind.Kinds.means i p) e) in
    let differs : SetsMarks old new c.args.end =
    on_result c.put_at_head-answer.result _ _ _ state err
    (λ e. head_sets old c.args.end new c.args.m sets same e)
    (λ e. same_sets old new c.args.end e) in (
      c.back_enable.ensures.ready (ready_marks g.M.Kind.Kinds.means old new c.args.end c.self.inside.enabling differs turns c.self.invariant.0),
      c.back_enable.ensures.places (places_same old new c.self.inside.enabling.run.items (ways_of_same old new differs.same) c.self.invariant.1),
      c.self.invariant.2,
    )

pub invariant_of-self-2 : goal.invariant_of-self-2
invariant_of-self-2 g c =
    let old = c.self.inside.ends.image in
    let lent = c.end_mut.result.now.state in
    let left = c.put_at_head-answer.new.self.state in
    let new = with_end old c.args.end left in
    let state = lent_ok c.put_at_head-answer.result old c.args.end lent left (λ s. (put_at_head s c.args.m).state) c.end_mut.ensures.state c.put_at_head-answer.ensures.state in
    let err = lent_err c.put_at_head-answer.result old c.args.end lent left c.end_mut.ensures.state c.put_at_head-answer.ensures.err in
    let same = lent_same old c.args.end lent left c.end_mut.ensures.state c.put_at_head-answer.ensures.same in
    let none : sets_options c.args.m.kind ≡ false = rw (← c.deref.ensures, ← c.behind-m.view_is) (sym c.sets_options-sets.ensures ∙ c.if-sets.false) in
    let turns : (p : Place) → turn_of g.M.Kind.Kinds.means new p ≡ turn_of g.M.Kind.Kinds.means old p = on_result c.put_at_head-answer.result _ _ _ state err
    (λ e. turns_head g.M.Kind.Kinds.means old new c.args.end c.args.m e) (λ e p. ap (λ i. turn_of g.M.Kind.Kinds.means i p) e) in
    let differs : DiffersIn old new (Head c.args.end) =
    on_result c.put_at_head-answer.result _ _ _ state err
    (λ e. head_differs old c.args.end new c.args.m none same e)
    (λ e. same_differs old new (Head c.args.end) e) in (
      c.enable_by_change.ensures.ready old c.len-before.ensures c.self.invariant.0 differs (λ p _ _. turns p),
      c.enable_by_change.ensures.places (places_same old new c.self.inside.enabling.run.items (ways_of_same old new differs.same) c.self.invariant.1),
      c.self.invariant.2,
    )

pub returns-then-sets-clause-grows : goal.returns-then-sets-clause-grows
returns-then-sets-clause-grows g c =
    let old = c.self.inside.ends.image in
    let lent = c.end_mut.result.now.state in
    let left = c.put_at_head-answer.new.self.state in
    let new = with_end old c.args.end left in
    let state = lent_ok c.put_at_head-answer.result old c.args.end lent left (λ s. (put_at_head s c.args.m).state) c.end_mut.ensures.state c.put_at_head-answer.ensures.state in
    let err = lent_err c.put_at_head-answer.result old c.args.end lent left c.end_mut.ensures.state c.put_at_head-answer.ensures.err in
    let same = lent_same old c.args.end lent left c.end_mut.ensures.state c.put_at_head-answer.ensures.same in
    let sets : sets_options c.args.m.kind ≡ true = rw (← c.deref.ensures, ← c.behind-m.view_is) (sym c.sets_options-sets.ensures ∙ c.if-sets.true) in
    on_ok c.put_at_head-answer.result _ _ state
    (λ e calm.
    let b = answers_options old.driver in
    rw (← c.self.view_is) (count_sets old new c.args.end (length c.self.inside.enabling.run.items) (length c.back_enable.new.self.run.items) (options_of b c.args.m) (head_sets old c.args.end new c.args.m sets same e) (sets_once b c.args.m sets) c.back_enable.ensures.more))

pub returns-clause-grows : goal.returns-clause-grows
returns-clause-grows g c =
    let old = c.self.inside.ends.image in
    let lent = c.end_mut.result.now.state in
    let left = c.put_at_head-answer.new.self.state in
    let new = with_end old c.args.end left in
    let state = lent_ok c.put_at_head-answer.result old c.args.end lent left (λ s. (put_at_head s c.args.m).state) c.end_mut.ensures.state c.put_at_head-answer.ensures.state in
    let err = lent_err c.put_at_head-answer.result old c.args.end lent left c.end_mut.ensures.state c.put_at_head-answer.ensures.err in
    let same = lent_same old c.args.end lent left c.end_mut.ensures.state c.put_at_head-answer.ensures.same in
    let queue = Head c.args.end in
    let none : sets_options c.args.m.kind ≡ false = rw (← c.deref.ensures, ← c.behind-m.view_is) (sym c.sets_options-sets.ensures ∙ c.if-sets.false) in
    on_ok c.put_at_head-answer.result _ _ state
    (λ e calm.
    let b = answers_options old.driver in
    let grow = head_grows old new c.args.end c.args.m calm e in
    let was = c.len-before.ensures in
    let put = c.enable_by_change.ensures.put (omega (arith, was, grow)) in
    let less : length c.enable_by_change.new.self.run.items + length (held_by old queue) ≤ length c.self.inside.enabling.run.items + length (held_by new queue) = omega (arith, put, was) in
    rw (← c.self.view_is) (count_put old new queue (length c.self.inside.enabling.run.items) (length c.enable_by_change.new.self.run.items) (options_of b c.args.m) 0 (head_differs old c.args.end new c.args.m none same e) less (head_sets_less b old new c.args.end c.args.m calm e)))

pub returns-clause-same : goal.returns-clause-same
returns-clause-same g c =
    rw (← c.self.view_is) (lent_same c.self.inside.ends.image c.args.end c.end_mut.result.now.state c.put_at_head-answer.new.self.state c.end_mut.ensures.state c.put_at_head-answer.ensures.same)

pub returns-then-sets-clause-same : goal.returns-then-sets-clause-same
returns-then-sets-clause-same g c =
    rw (← c.self.view_is) (lent_same c.self.inside.ends.image c.args.end c.end_mut.result.now.state c.put_at_head-answer.new.self.state c.end_mut.ensures.state c.put_at_head-answer.ensures.same)
