use Rattle.std.proofs.Common.{subst, rules}
use Rattle.strm_c_calls.specs.Arguments as asks
use Rattle.strm_c_calls.specs.Returned.{Nothing}
use Rattle.strm_c_calls.specs.Codes.{priority_of}
use Rattle.strm_c_numbers.specs.Numbers.{end_of}
use Rattle.strm_c_calls.specs.declared.held.Held.{Held}
use Rattle.strm_c_calls.specs.Call.{Calls}
use Rattle.strm_c_calls.proofs.JudgedLemmas.{made_calls, putmsg_is_plain, putmsg_lacks}
use Rattle.strm_c.proofs.strm_putmsg_parts.Goals as goal

pub returns-clause-call : goal.returns-clause-call
returns-clause-call c =
    let old = c.args.s.now.held.stream in
    let new = c.call.new.s.held.stream in
    let asked = asks.putmsg_of c.args.has_ctl c.args.ctl.now c.args.has_dat c.args.dat.now c.args.flags in
    let calls = subst (λ (held : Held). Calls held.stream c.args.end c.putmsg_of-asked.result Nothing c.call.result new) c.putmsg_of-asked.ensures.same c.call.ensures.call in
    let done : Calls old c.args.end asked Nothing c.call.result new = made_calls old new c.args.end asked c.putmsg_of-asked.result Nothing c.call.result (putmsg_is_plain old (end_of c.args.end) c.args.has_ctl c.args.ctl.now c.args.has_dat c.args.dat.now (priority_of c.args.flags)) (putmsg_lacks old c.args.has_ctl c.args.ctl.now c.args.has_dat c.args.dat.now (priority_of c.args.flags)) c.putmsg_of-asked.ensures.made calls in
    search (rules, done)
