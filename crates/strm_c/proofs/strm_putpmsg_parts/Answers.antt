use Rattle.std.proofs.Common.{subst, rules}
use Rattle.strm_c_calls.specs.Arguments as asks
use Rattle.strm_c_calls.specs.Returned.{Nothing}
use Rattle.strm_c_calls.specs.Codes.{put_flag_of}
use Rattle.strm_c_numbers.specs.Numbers.{band_of, end_of}
use Rattle.strm_c_calls.specs.declared.held.Held.{Held}
use Rattle.strm_c_calls.specs.Call.{Calls}
use Rattle.strm_c_calls.proofs.JudgedLemmas.{made_calls, putpmsg_is_plain, putpmsg_lacks}
use Rattle.strm_c.proofs.strm_putpmsg_parts.Goals as goal

pub returns-clause-call : goal.returns-clause-call
returns-clause-call c =
    let old = c.args.s.now.held.stream in
    let new = c.call.new.s.held.stream in
    let asked = asks.putpmsg_of c.args.has_ctl c.args.ctl.now c.args.has_dat c.args.dat.now c.args.band c.args.flags in
    let calls = subst (λ (held : Held). Calls held.stream c.args.end c.putpmsg_of-asked.result Nothing c.call.result new) c.putpmsg_of-asked.ensures.same c.call.ensures.call in
    let done : Calls old c.args.end asked Nothing c.call.result new = made_calls old new c.args.end asked c.putpmsg_of-asked.result Nothing c.call.result (putpmsg_is_plain old (end_of c.args.end) c.args.has_ctl c.args.ctl.now c.args.has_dat c.args.dat.now (put_flag_of c.args.flags) (band_of c.args.band)) (putpmsg_lacks old c.args.has_ctl c.args.ctl.now c.args.has_dat c.args.dat.now (put_flag_of c.args.flags) (band_of c.args.band)) c.putpmsg_of-asked.ensures.made calls in
    search (rules, done)
