use Rattle.std.proofs.Common.{Bool, Option, ap₂, ◌∙◌}
use Rattle.strm_msg.specs.Message.{Part}
use Rattle.strm_head_calls.specs.declared.refusal.Refusal.{Refusal}
use Rattle.strm_head_calls.specs.declared.refusal.Refusal.TheVariants.{TooLong}
use Rattle.strm_head_calls.specs.declared.request.Request.TheVariants as Requests
use Rattle.strm_module.specs.Builtin.{builtin}
use Rattle.strm_head.specs.Effects.{refusal_of}
use Rattle.strm_c_calls.specs.Judged.{or_length}
use Rattle.strm_c_calls.proofs.LengthLemmas.{putmsg_looks}
use Rattle.strm_c_calls.proofs.judged.putmsg_refusal.Goals as goal

pub returns : goal.returns
returns c =
    let image = c.args.stream.now in
    let emptied = c.putmsg_refusal-refusal.ensures ∙ ap₂ (λ (ctl dat : Part). refusal_of builtin image c.args.end (Requests.Putmsg c.args.flag (record { ctl = ctl; dat = dat }))) c.emptied.ensures c.emptied-2.ensures in
    c.or_length.ensures ∙ ap₂ (λ (wrong : Bool) (found : Option Refusal). or_length wrong TooLong found) c.are_too_long-is_wrong.ensures emptied ∙ putmsg_looks image c.args.end c.args.flag c.args.has_ctl c.args.ctl.now c.args.has_dat c.args.dat.now
