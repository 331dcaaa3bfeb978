use Rattle.std.proofs.Common.{◌≡◌, ◌+◌, ◌-◌, ◌∙◌, ◌<◌, ◌≤◌, length, min, true, false, refl, sym, arith, rules}
use Rattle.std.proofs.lemmas.List.{length-map}
use Rattle.strm_msg.specs.declared.words.Side.TheVariants as Side
use Rattle.strm_chain_end.specs.Modules.{identities_of}
use Rattle.strm_chain_end.specs.Next.{has_queue}
use Rattle.strm_chain_end.proofs.NextLemmas.{has_queue_found, last_below-here, last_below-more, last_below-first, identity}
use Rattle.strm_chain_end.proofs.end.StreamEnd.next_above.Goals as goal

pub loop-at-init : goal.loop-at-init
loop-at-init g c =
    let xs = c.self.inside.pairs.items in
    let ids = identities_of xs in
    let count : c.len.result ≡ length xs = search rules in
    let least : c.min-at.result ≡ min (c.args.i - 1) (length ids) = rw (length-map xs identity, c.min-at.ensures, c.saturating_sub.ensures, count) refl in
    record {
      same = rw least (last_below-first Side.Rd ids c.args.i);
      within = search rules;
    }

pub returns-then-has_queue-clause-value : goal.returns-then-has_queue-clause-value
returns-then-has_queue-clause-value g c =
    let xs = c.self.inside.pairs.items in
    let f = has_queue Side.Rd (identities_of xs) in
    let to : c.loop-at.at ≤ length xs = c.loop-at.invariant.within in
    let from : 0 < c.loop-at.at = c.loop-at-test.true in
    let num : c.loop-at.at ≡ c.loop-at.at - 1 + 1 = omega arith in
    let there : f c.loop-at.at ≡ true = has_queue_found Side.Rd xs (c.loop-at.at - 1) c.loop-at.at c.index.result.now true num (omega arith) c.index.ensures (sym c.has_queue.ensures ∙ c.if-has_queue.true) in
    rw (← c.self.view_is) (sym (last_below-here f c.loop-at.at there) ∙ c.loop-at.invariant.same)

pub loop-at-preserved : goal.loop-at-preserved
loop-at-preserved g c =
    let xs = c.self.inside.pairs.items in
    let f = has_queue Side.Rd (identities_of xs) in
    let to : c.loop-at.at ≤ length xs = c.loop-at.invariant.within in
    let from : 0 < c.loop-at.at = c.loop-at-test.true in
    let num : c.loop-at.at ≡ c.loop-at.at - 1 + 1 = omega arith in
    let none : f c.loop-at.at ≡ false = has_queue_found Side.Rd xs (c.loop-at.at - 1) c.loop-at.at c.index.result.now false num (omega arith) c.index.ensures (sym c.has_queue.ensures ∙ c.if-has_queue.false) in
    record {
      same = last_below-more f c.loop-at.at from none ∙ c.loop-at.invariant.same;
      within = omega arith;
    }
