use Rattle.std.proofs.Common.{◌≡◌, ◌+◌, ◌∙◌, ◌<◌, length, true, false, refl, sym, rules}
use Rattle.std.proofs.lemmas.List.{length-map}
use Rattle.strm_msg.specs.declared.words.Side.TheVariants as Side
use Rattle.strm_chain_end.specs.Modules.{identities_of}
use Rattle.strm_chain_end.specs.Next.{has_queue}
use Rattle.strm_chain_end.proofs.NextLemmas.{has_queue_found, first_from-here, first_from-more, identity}
use Rattle.strm_chain_end.proofs.end.StreamEnd.next_below.Goals as goal

pub returns-then-has_queue-clause-value : goal.returns-then-has_queue-clause-value
returns-then-has_queue-clause-value g c =
    let xs = c.self.inside.pairs.items in
    let f = has_queue Side.Wr (identities_of xs) in
    let within : c.loop-at.at < length xs = search rules in
    let less : c.loop-at.at < length (identities_of xs) = rw (length-map xs identity) within in
    let there : f (c.loop-at.at + 1) ≡ true = has_queue_found Side.Wr xs c.loop-at.at (c.loop-at.at + 1) c.index.result.now true refl within c.index.ensures (sym c.has_queue.ensures ∙ c.if-has_queue.true) in
    rw (← c.self.view_is) (sym (first_from-here f c.loop-at.at (length (identities_of xs)) less there) ∙ c.loop-at.invariant)

pub loop-at-preserved : goal.loop-at-preserved
loop-at-preserved g c =
    let xs = c.self.inside.pairs.items in
    let f = has_queue Side.Wr (identities_of xs) in
    let within : c.loop-at.at < length xs = search rules in
    let less : c.loop-at.at < length (identities_of xs) = rw (length-map xs identity) within in
    let none : f (c.loop-at.at + 1) ≡ false = has_queue_found Side.Wr xs c.loop-at.at (c.loop-at.at + 1) c.index.result.now false refl within c.index.ensures (sym c.has_queue.ensures ∙ c.if-has_queue.false) in
    first_from-more f c.loop-at.at (length (identities_of xs)) less none ∙ c.loop-at.invariant
