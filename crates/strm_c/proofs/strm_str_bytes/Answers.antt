use Rattle.std.proofs.Common.{Ok, [], refl, subst, arith, rules}
use Rattle.strm_c_calls.specs.Arguments as asks
use Rattle.strm_head_calls.specs.declared.request.Request.TheVariants as Requests
use Rattle.strm_c_calls.specs.Returned.{HasTaken}
use Rattle.strm_c_numbers.specs.Numbers.{end_of}
use Rattle.strm_c_calls.specs.declared.held.Held.{Held}
use Rattle.strm_c_calls.specs.Call.{Calls}
use Rattle.strm_c_calls.proofs.JudgedLemmas.{made_calls, str_is_plain}
use Rattle.strm_c.proofs.strm_str_bytes.Goals as goal

pub returns-clause-call : goal.returns-clause-call
returns-clause-call c =
    let old = c.args.s.now.held.stream in
    let new = c.call_taking.new.s.held.stream in
    let asked = Ok (Requests.Str c.args.cmd (asks.part_argument c.args.has_dat c.args.dat.now)) in
    let calls = subst (λ (held : Held). Calls held.stream c.args.end c.str_of-asked.result (HasTaken [] c.args.dat.now c.args.got.now c.call_taking.new.ctl c.call_taking.new.dat c.call_taking.new.got) c.call_taking.result new) c.str_of-asked.ensures.same c.call_taking.ensures.call in
    let done : Calls old c.args.end asked (HasTaken [] c.args.dat.now c.args.got.now c.call_taking.new.ctl c.call_taking.new.dat c.call_taking.new.got) c.call_taking.result new = made_calls old new c.args.end asked c.str_of-asked.result (HasTaken [] c.args.dat.now c.args.got.now c.call_taking.new.ctl c.call_taking.new.dat c.call_taking.new.got) c.call_taking.result (str_is_plain old (end_of c.args.end) c.args.cmd (asks.part_argument c.args.has_dat c.args.dat.now)) (refl, λ e. refl) c.str_of-asked.ensures.made calls in
    first_of (search (rules, done), grind (arith, done))
