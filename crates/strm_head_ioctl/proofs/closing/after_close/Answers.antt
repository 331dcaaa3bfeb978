use Rattle.std.proofs.Common.{◌≡◌, true, sym, subst, ap}
use Rattle.strm_chain_ends.specs.Image.{Image}
use Rattle.strm_chain.specs.Fault.{Fails}
use Rattle.strm_head_ioctl.specs.Close.{hung_up}
use Rattle.strm_head_ioctl.proofs.CloseLemmas.{broken_close}
use Rattle.strm_head_ioctl.proofs.closing.after_close.Goals as goal

pub returns-in-Err-NoMem-clause-broken : goal.returns-in-Err-NoMem-clause-broken
returns-in-Err-NoMem-clause-broken g c =
    let image = c.args.chain.now.image in
    let means = g.M.Kind.Kinds.means in
    let same : c.hang_up.new.chain.image ≡ image =
    subst (λ fault. Fails fault image (hung_up means image c.partner_of.result) c.hang_up.new.chain.image) c.in-Err-NoMem.field-0-is c.in-Err-NoMem.ensures.failed in
    let off : (i j : Image g.row.M-Kind.Denot) → i ≡ j → record i { broken = true } ≡ record j { broken = true } = λ i j e. ap (λ (k : Image g.row.M-Kind.Denot). record k { broken = true }) e in
    let value = c.break_off.ensures in
    broken_close means image c.break_off.new.self.image c.args.end (sym c.if-is_broken.ensures)
    (rw value (off c.hang_up.new.chain.image image same))
