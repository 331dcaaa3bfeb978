use Rattle.std.proofs.Common.{◌≡◌, true, false, ◌∙◌}
use Rattle.strm_chain_ends.specs.Image.{end_of}
use Rattle.strm_head_ioctl.proofs.NameLemmas.{some_shapes}
use Rattle.strm_head_ioctl.proofs.CloseLemmas.{closed_as_of, broken_as_of, whole_before, hangs_up_before}
use Rattle.strm_head_ioctl.proofs.closing.close.Goals as goal

pub returns-in-Ok-clause-back : goal.returns-in-Ok-clause-back
returns-in-Ok-clause-back g c =
    c.dismantle.ensures.instances ∙ some_shapes (end_of c.args.chain.now.image c.args.end).modules

pub returns-in-Err-clause-back : goal.returns-in-Err-clause-back
returns-in-Err-clause-back g c =
    c.dismantle.ensures.instances ∙ some_shapes (end_of c.args.chain.now.image c.args.end).modules

pub returns-in-Ok-clause-image : goal.returns-in-Ok-clause-image
returns-in-Ok-clause-image g c =
    closed_as_of g.M.Kind.Kinds.means c.args.chain.now.image c.dismantle.new.self.image c.after_close.new.chain.image c.args.end c.dismantle.ensures.image c.in-Ok.ensures.image

pub returns-in-Err-clause-broken : goal.returns-in-Err-clause-broken
returns-in-Err-clause-broken g c =
    broken_as_of g.M.Kind.Kinds.means c.args.chain.now.image c.dismantle.new.self.image c.after_close.new.chain.image c.args.end c.dismantle.ensures.image c.in-Err.ensures.broken

pub returns-in-Err-clause-whole : goal.returns-in-Err-clause-whole
returns-in-Err-clause-whole g c =
    whole_before c.args.chain.now.image c.dismantle.new.self.image c.args.end c.dismantle.ensures.image c.in-Err.ensures.whole

pub returns-in-Err-clause-nothing : goal.returns-in-Err-clause-nothing
returns-in-Err-clause-nothing g c none =
    absurd (let no : false ≡ true = c.in-Err.ensures.nothing (hangs_up_before c.args.chain.now.image c.dismantle.new.self.image c.args.end c.dismantle.ensures.image none) in cc)
