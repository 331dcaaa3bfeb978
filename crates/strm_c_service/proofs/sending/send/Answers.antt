use Rattle.std.proofs.Common.{subst, rules}
use Rattle.strm_c_numbers.specs.Numbers.{end_of, side_of}
use Rattle.strm_c_calls.specs.declared.held.Held.{Held}
use Rattle.strm_c_calls.specs.Call.{Calls}
use Rattle.strm_c_calls.specs.Returned.{Nothing}
use Rattle.strm_c_calls.proofs.JudgedLemmas.{made_calls}
use Rattle.strm_c_service.specs.Service as asks
use Rattle.strm_c_service.proofs.SendingLemmas.{sent_is_plain, sent_lacks}
use Rattle.strm_c_service.proofs.sending.send.Goals as goal

pub returns-clause-call : goal.returns-clause-call
returns-clause-call c =
    let old = c.args.s.now.held.stream in
    let new = c.call.new.s.held.stream in
    let m = asks.message_argument c.args.whole.now c.args.has_ctl c.args.ctl.now c.args.has_dat c.args.dat.now in
    let side = side_of c.args.side in
    let name = asks.name_of c.args.name.now in
    let asked = asks.sent_of c.args.sending c.args.name.now c.args.side c.args.whole.now c.args.has_ctl c.args.ctl.now c.args.has_dat c.args.dat.now in
    let calls = subst (λ (held : Held). Calls held.stream c.args.end c.sent_of-asked.result Nothing c.call.result new) c.sent_of-asked.ensures.same c.call.ensures.call in
    let done : Calls old c.args.end asked Nothing c.call.result new = made_calls old new c.args.end asked c.sent_of-asked.result Nothing c.call.result (sent_is_plain old (end_of c.args.end) c.args.sending m side name) (sent_lacks old c.args.sending m side name) c.sent_of-asked.ensures.made calls in
    search (rules, done)
