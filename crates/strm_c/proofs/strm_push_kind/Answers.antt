use Rattle.std.proofs.Common.{subst, rules}
use Rattle.strm_c_calls.specs.Arguments as asks
use Rattle.strm_c_calls.specs.Returned.{Nothing}
use Rattle.strm_c_numbers.specs.Numbers.{end_of}
use Rattle.strm_c_calls.specs.declared.held.Held.{Held}
use Rattle.strm_c_calls.specs.Call.{Calls, CopiesAndCalls}
use Rattle.strm_c_calls.proofs.JudgedLemmas.{made_copies, push_is_plain}
use Rattle.strm_c.proofs.strm_push_kind.Goals as goal

pub returns-clause-call : goal.returns-clause-call
returns-clause-call c =
    let old = c.args.s.now.held.stream in
    let new = c.call.new.s.held.stream in
    let shape = c.shape_of-shape.result in
    let calls = subst (λ (held : Held). Calls held.stream c.args.end c.push_of-asked.result Nothing c.call.result new) c.push_of-asked.ensures.same c.call.ensures.call in
    let made : CopiesAndCalls old c.args.end (asks.push_of shape) Nothing c.call.result new = made_copies old new c.args.end (asks.push_of shape) c.push_of-asked.result Nothing c.call.result (push_is_plain old (end_of c.args.end) shape) c.push_of-asked.ensures.made calls in
    search (rules, made)
