use Rattle.std.proofs.Common.{◌≡◌, ◌+◌, ◌*◌, ◌≤◌, ◌==◌, false, List, length, sum_by, ap, sym, ◌∙◌, subst, arith}
use Rattle.std.proofs.lemmas.Bool.Decides.{nat_tests}
use Rattle.strm_msg.specs.Message.{Msg, weight_of}
use Rattle.strm_queue.specs.Queue.{held_of}
use Rattle.strm_queue.specs.Lanes.{messages_of_rank, messages_of}
use Rattle.strm_queue.proofs.StandLemmas.{held-zero, held-ordinary}
use Rattle.strm_queue.proofs.LanesLemmas.{lanes_filter, length-two}
use Rattle.strm_queue.proofs.queue.BandQueue.held.Goals as goal

ordinary : (c : goal.Else-band-eq0) → c.weight_at-ordinary.result ≡ sum_by weight_of (messages_of_rank c.args.band c.self.inside.lanes.items)
ordinary c = rw (← c.from.ensures, ← c.as_slice.ensures.value) c.weight_at-ordinary.ensures.value

low : (c : goal.After-weight_at) → c.weight_at-ordinary.result ≡ sum_by weight_of (messages_of_rank 0 c.self.inside.lanes.items)
low c = subst (λ rank. c.weight_at-ordinary.result ≡ sum_by weight_of (messages_of_rank rank c.self.inside.lanes.items)) (c.from.ensures ∙ c.if-band-eq0.true) (rw (← c.as_slice.ensures.value) c.weight_at-ordinary.ensures.value)

high : (c : goal.After-weight_at) → c.weight_at.result ≡ sum_by weight_of (messages_of_rank 256 c.self.inside.lanes.items)
high c = rw (← c.as_slice-then-band-eq0.ensures.value) c.weight_at.ensures.value

pub overflow_add-result : goal.overflow_add-result
overflow_add-result c =
    let lanes = c.self.inside.lanes.items in
    let both = length-two lanes c.self.invariant.laned in
    let below : c.weight_at-ordinary.result ≤ length (messages_of_rank 0 lanes) * 36893488147419103232 = subst (λ rank. c.weight_at-ordinary.result ≤ length (messages_of_rank rank lanes) * 36893488147419103232) (c.from.ensures ∙ c.if-band-eq0.true) (rw (← c.as_slice.ensures.value) c.weight_at-ordinary.ensures.most) in
    let above : c.weight_at.result ≤ length (messages_of_rank 256 lanes) * 36893488147419103232 = rw (← c.as_slice-then-band-eq0.ensures.value) c.weight_at.ensures.most in
    omega (arith, both, below, above, c.self.invariant.counted, c.self.invariant.most)

pub returns-then-band-eq0 : goal.returns-then-band-eq0
returns-then-band-eq0 c =
    let lanes = c.self.inside.lanes.items in
    let one : sum_by weight_of (messages_of_rank 0 lanes) ≡ _ = ap (λ (q : List Msg). sum_by weight_of q) (sym (lanes_filter 0 lanes c.self.invariant.laned)) in
    let two : sum_by weight_of (messages_of_rank 256 lanes) ≡ _ = ap (λ (q : List Msg). sum_by weight_of q) (sym (lanes_filter 256 lanes c.self.invariant.laned)) in
    let sum : c.weight_at-ordinary.result + c.weight_at.result ≡ held_of (messages_of lanes) 0 = omega (arith, low c, high c, one, two, held-zero (messages_of lanes)) in
    rw (← c.self.view_is) (subst (λ band. c.weight_at-ordinary.result + c.weight_at.result ≡ held_of (messages_of lanes) band) (sym c.if-band-eq0.true) sum)

pub returns-else-band-eq0 : goal.returns-else-band-eq0
returns-else-band-eq0 c =
    let lanes = c.self.inside.lanes.items in
    let other : (c.args.band == 0) ≡ false = grind (arith, nat_tests, c.if-band-eq0.false) in
    let one = ap (λ (q : List Msg). sum_by weight_of q) (sym (lanes_filter c.args.band lanes c.self.invariant.laned)) in
    rw (← c.self.view_is) (ordinary c ∙ one ∙ sym (held-ordinary c.args.band (messages_of lanes) other (omega arith)))
