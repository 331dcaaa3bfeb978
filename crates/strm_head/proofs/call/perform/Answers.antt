use Rattle.std.proofs.Common.{sym, ◌∙◌, arith}
use Rattle.strm_head_calls.specs.Effect.{effect_ioctl}
use Rattle.strm_head.proofs.BeginLemmas.{may_begin}
use Rattle.strm_head.proofs.RefusalLemmas.{own_none}
use Rattle.strm_head.proofs.CallLemmas.{quiet_answers, finished_answers, ioctl_answers, ioctl_whole, finished_back, refused_back, served_memory, ioctl_still, finished_still}
use Rattle.strm_head.proofs.NothingLemmas.{served_changes}
use Rattle.strm_head.proofs.call.perform.Goals as goal

pub begin-requires-after_bounds : goal.begin-requires-after_bounds
begin-requires-after_bounds g c κs within =
    (omega arith, (may_begin g.M.Kind.Kinds.means c.args.chain.now.image c.args.end c.args.request c.requires.kept c.requires.unrefused, (own_none g.M.Kind.Kinds.means c.args.chain.now.image c.args.end c.args.request c.requires.unrefused, c.requires.empty)))

pub finish_ioctl-requires-after_bounds : goal.finish_ioctl-requires-after_bounds
finish_ioctl-requires-after_bounds g c κs within =
    ioctl_whole g.M.Kind.Kinds.means c.args.chain.now.image c.args.end c.args.request c.begin.new.chain.image c.requires.unrefused (sym c.if-awaits.ensures) c.in-Ok-2.ensures.begins.image_is

pub returns-in-Ok-clause-answers : goal.returns-in-Ok-clause-answers
returns-in-Ok-clause-answers g c =
    quiet_answers g.M.Kind.Kinds.means c.args.chain.now.image c.args.end c.args.request (g.A.ReplyForm.says c.in-Ok.reply) c.done.result.answer c.done.result.moves c.begin.new.chain.image c.requires.kept
    c.requires.unrefused
    (sym c.if-is_quiet.ensures) c.in-Ok.ensures.begins.image_is c.in-Ok.ensures.begins.reply_is c.done.ensures.answer
    (c.done.ensures.moves ∙ c.none.ensures.moves)

pub returns-in-Ok-2-clause-answers : goal.returns-in-Ok-2-clause-answers
returns-in-Ok-2-clause-answers g c =
    ioctl_answers g.M.Kind.Kinds.means c.args.chain.now.image c.args.end c.args.request c.begin.new.chain.image c.finish_ioctl.result.answer c.finish_ioctl.result.moves c.finish_ioctl.new.chain.image
    c.requires.unrefused
    (served_changes c.args.chain.now.image c.args.end c.args.request (sym c.if-is_quiet.ensures))
    (sym c.if-awaits.ensures) c.in-Ok-2.ensures.begins.image_is c.finish_ioctl.ensures.finishes

pub returns-in-Ok-2-clause-back : goal.returns-in-Ok-2-clause-back
returns-in-Ok-2-clause-back g c =
    finished_back g.M.Kind.Kinds.means c.args.chain.now.image c.args.end c.args.request c.begin.new.back.items (effect_ioctl c.begin.new.chain.image) c.finish_ioctl.result.answer c.finish_ioctl.result.moves _ c.finish_ioctl.new.chain.image c.in-Ok-2.ensures.back c.finish_ioctl.ensures.finishes

pub returns-in-Ok-2-clause-memory : goal.returns-in-Ok-2-clause-memory
returns-in-Ok-2-clause-memory g c =
    served_memory g.M.Kind.Kinds.means c.args.chain.now.image c.args.end c.args.request c.finish_ioctl.result.answer (sym c.if-is_quiet.ensures)

pub returns-in-Ok-2-clause-still : goal.returns-in-Ok-2-clause-still
returns-in-Ok-2-clause-still g c =
    ioctl_still g.M.Kind.Kinds.means c.args.chain.now.image c.args.end c.args.request c.finish_ioctl.result.answer (sym c.if-awaits.ensures)

-- an ioctl's answer is awaited on a stream that is not broken, so the looks are those of the service
pub returns-in-Ok-2-clause-given : goal.returns-in-Ok-2-clause-given
returns-in-Ok-2-clause-given g c =
    let whole = ioctl_whole g.M.Kind.Kinds.means c.args.chain.now.image c.args.end c.args.request c.begin.new.chain.image c.requires.unrefused (sym c.if-awaits.ensures) c.in-Ok-2.ensures.begins.image_is in
    rw (← c.if-is_quiet.ensures, ← c.in-Ok-2.ensures.begins.image_is, whole) c.finish_ioctl.ensures.given

pub returns-in-Ok-3-clause-answers : goal.returns-in-Ok-3-clause-answers
returns-in-Ok-3-clause-answers g c =
    finished_answers g.M.Kind.Kinds.means c.args.chain.now.image c.args.end c.args.request c.begin.new.chain.image (g.A.ReplyForm.says c.in-Ok.reply) c.finish.result.answer c.finish.result.moves c.finish.new.chain.image
    c.requires.unrefused
    (served_changes c.args.chain.now.image c.args.end c.args.request (sym c.if-is_quiet.ensures))
    (sym c.if-awaits.ensures) c.in-Ok.ensures.begins.image_is c.in-Ok.ensures.begins.reply_is c.finish.ensures.broken c.finish.ensures.finishes

pub returns-in-Ok-3-clause-memory : goal.returns-in-Ok-3-clause-memory
returns-in-Ok-3-clause-memory g c =
    served_memory g.M.Kind.Kinds.means c.args.chain.now.image c.args.end c.args.request c.finish.result.answer (sym c.if-is_quiet.ensures)

pub returns-in-Ok-3-clause-still : goal.returns-in-Ok-3-clause-still
returns-in-Ok-3-clause-still g c =
    finished_still g.M.Kind.Kinds.means c.args.chain.now.image c.args.end c.args.request c.begin.new.chain.image c.finish.result.answer c.in-Ok.ensures.begins.image_is c.finish.ensures.still

pub returns-in-Err-NoMem-clause-back : goal.returns-in-Err-NoMem-clause-back
returns-in-Err-NoMem-clause-back g c =
    refused_back g.M.Kind.Kinds.means c.args.chain.now.image c.args.end c.args.request c.begin.new.back.items c.refused.result.answer _
    (c.in-Err-NoMem.ensures.begins.refused c.in-Err-NoMem.field-0-is) c.in-Err-NoMem.ensures.back c.refused.ensures.answer
