use Rattle.std.proofs.Common.{refl, subst, rules}
use Rattle.strm_c_numbers.specs.Numbers.{end_of}
use Rattle.strm_c_calls.specs.Arguments.{part_argument}
use Rattle.strm_c_calls.specs.Call.{Calls}
use Rattle.strm_c_calls.specs.declared.held.Held.{Held}
use Rattle.strm_c_calls.proofs.JudgedLemmas.{made_calls}
use Rattle.strm_c_service.specs.Service as asks
use Rattle.strm_c_service.specs.Written.{IsId}
use Rattle.strm_c_service.proofs.SendingLemmas.{strput_is_plain}
use Rattle.strm_c_service.proofs.later.strput.Goals as goal

pub returns-clause-call : goal.returns-clause-call
returns-clause-call c =
    let old = c.args.s.now.held.stream in
    let new = c.call_for_id.new.s.held.stream in
    let asked = asks.strput_of c.args.cmd c.args.has_dat c.args.dat.now in
    let calls = subst (λ (held : Held). Calls held.stream c.args.end c.strput_of-asked.result (IsId c.args.id.now c.call_for_id.new.id) c.call_for_id.result new) c.strput_of-asked.ensures.same c.call_for_id.ensures.call in
    let done : Calls old c.args.end asked (IsId c.args.id.now c.call_for_id.new.id) c.call_for_id.result new = made_calls old new c.args.end asked c.strput_of-asked.result (IsId c.args.id.now c.call_for_id.new.id) c.call_for_id.result (strput_is_plain old (end_of c.args.end) c.args.cmd (part_argument c.args.has_dat c.args.dat.now)) (refl, λ e. refl) c.strput_of-asked.ensures.made calls in
    search (rules, done)
