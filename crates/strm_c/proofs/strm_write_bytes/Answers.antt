use Rattle.std.proofs.Common.{Ok, refl, subst, rules}
use Rattle.strm_head_calls.specs.declared.request.Request.TheVariants as Requests
use Rattle.strm_c_calls.specs.Returned.{IsValue}
use Rattle.strm_c_numbers.specs.Numbers.{end_of}
use Rattle.strm_c_calls.specs.declared.held.Held.{Held}
use Rattle.strm_c_calls.specs.Call.{Calls}
use Rattle.strm_c_calls.proofs.JudgedLemmas.{made_calls, write_is_plain}
use Rattle.strm_c.proofs.strm_write_bytes.Goals as goal

pub returns-clause-call : goal.returns-clause-call
returns-clause-call c =
    let old = c.args.s.now.held.stream in
    let new = c.call_for_value.new.s.held.stream in
    let asked = Ok (Requests.Write c.args.bytes.now) in
    let calls = subst (λ (held : Held). Calls held.stream c.args.end c.write_of-asked.result (IsValue c.args.written.now c.call_for_value.new.value) c.call_for_value.result new) c.write_of-asked.ensures.same c.call_for_value.ensures.call in
    let done : Calls old c.args.end asked (IsValue c.args.written.now c.call_for_value.new.value) c.call_for_value.result new = made_calls old new c.args.end asked c.write_of-asked.result (IsValue c.args.written.now c.call_for_value.new.value) c.call_for_value.result (write_is_plain old (end_of c.args.end) c.args.bytes.now) (refl, λ e. refl) c.write_of-asked.ensures.made calls in
    search (rules, done)
