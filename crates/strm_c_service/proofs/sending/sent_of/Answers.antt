use Rattle.std.proofs.Common.{◌≡◌, Some, None, inl, inr, sym, ◌∙◌, arith, rules}
use Rattle.strm_head_calls.specs.declared.request.Request.TheVariants as Requests
use Rattle.strm_module.specs.Builtin.{builtin}
use Rattle.strm_head.specs.Effects.{refusal_of}
use Rattle.strm_c_numbers.specs.Numbers.{side_of}
use Rattle.strm_c_service.specs.Service as asks
use Rattle.strm_c_service.proofs.SendingLemmas.{refused_without, is_message, sent_made}
use Rattle.strm_c_service.proofs.sending.sent_of.Goals as goal

pub returns-in_default-clause-made : goal.returns-in_default-clause-made
returns-in_default-clause-made c =
    let m = asks.message_argument c.args.whole.now c.args.has_ctl c.args.ctl.now c.args.has_dat c.args.dat.now in
    refused_without c.args.s.now.held.stream c.args.end c.args.sending m (side_of c.args.side) (asks.name_of c.args.name.now) (inl (sym c.bare_of.ensures ∙ c.in_default.is))

pub returns-in_default-side_of-clause-made : goal.returns-in_default-side_of-clause-made
returns-in_default-side_of-clause-made c =
    let m = asks.message_argument c.args.whole.now c.args.has_ctl c.args.ctl.now c.args.has_dat c.args.dat.now in
    refused_without c.args.s.now.held.stream c.args.end c.args.sending m (side_of c.args.side) (asks.name_of c.args.name.now) (inr (inl (sym c.side_of.ensures ∙ c.in_default-side_of.is)))

pub returns-in_default-name_of-clause-made : goal.returns-in_default-name_of-clause-made
returns-in_default-name_of-clause-made c =
    let m = asks.message_argument c.args.whole.now c.args.has_ctl c.args.ctl.now c.args.has_dat c.args.dat.now in
    refused_without c.args.s.now.held.stream c.args.end c.args.sending m (side_of c.args.side) (asks.name_of c.args.name.now) (inr (inr (sym c.name_of.ensures ∙ c.in_default-name_of.is)))

pub copied-requires : goal.copied-requires
copied-requires c =
    is_message (asks.message_argument c.args.whole.now c.args.has_ctl c.args.ctl.now c.args.has_dat c.args.dat.now) c.in-Some.bare (sym c.bare_of.ensures ∙ c.in-Some.is)

pub returns-in-Some-refusal-clause-made : goal.returns-in-Some-refusal-clause-made
returns-in-Some-refusal-clause-made c =
    let old = c.args.s.now.held.stream in
    let m = asks.message_argument c.args.whole.now c.args.has_ctl c.args.ctl.now c.args.has_dat c.args.dat.now in
    let judged = c.refusal-refusal.ensures in
    let first : refusal_of builtin old c.in-Some-end_of.end (Requests.Service c.in-Some-name_of.name c.in-Some-side_of.side (asks.call_of c.args.sending c.in-Some.bare)) ≡ Some c.in-Some-refusal.refusal = first_of (search (rules, judged), grind (arith, judged), cc) in
    sent_made old c.args.end c.in-Some-end_of.end c.args.sending m (side_of c.args.side) (asks.name_of c.args.name.now) c.in-Some.bare c.in-Some-side_of.side c.in-Some-name_of.name (Some c.in-Some-refusal.refusal) (sym c.end_of.ensures ∙ c.in-Some-end_of.is) (sym c.bare_of.ensures ∙ c.in-Some.is) (sym c.side_of.ensures ∙ c.in-Some-side_of.is) (sym c.name_of.ensures ∙ c.in-Some-name_of.is) first

pub returns-clause-made : goal.returns-clause-made
returns-clause-made c =
    let old = c.args.s.now.held.stream in
    let m = asks.message_argument c.args.whole.now c.args.has_ctl c.args.ctl.now c.args.has_dat c.args.dat.now in
    let judged = c.refusal-refusal.ensures in
    let first : refusal_of builtin old c.in-Some-end_of.end (Requests.Service c.in-Some-name_of.name c.in-Some-side_of.side (asks.call_of c.args.sending c.in-Some.bare)) ≡ None = first_of (search (rules, judged), grind (arith, judged), cc) in
    sent_made old c.args.end c.in-Some-end_of.end c.args.sending m (side_of c.args.side) (asks.name_of c.args.name.now) c.in-Some.bare c.in-Some-side_of.side c.in-Some-name_of.name None (sym c.end_of.ensures ∙ c.in-Some-end_of.is) (sym c.bare_of.ensures ∙ c.in-Some.is) (sym c.side_of.ensures ∙ c.in-Some-side_of.is) (sym c.name_of.ensures ∙ c.in-Some-name_of.is) first
