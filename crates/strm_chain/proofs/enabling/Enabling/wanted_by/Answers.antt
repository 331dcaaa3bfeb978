use Rattle.std.proofs.Common.{◌≡◌, ◌<◌, ◌∙◌, None, Some, ap, sym, arith, length, slice_get, slice_index_or}
use Rattle.std.proofs.lemmas.Option.{slice_get-get_or}
use Rattle.strm_chain.specs.Enabled.{Enabled}
use Rattle.strm_chain.proofs.enabling.Enabling.wanted_by.Goals as goal

pub returns : goal.returns
returns c =
    let inside : c.number_of.result < length c.self.inside.wanted = omega (arith, c.self.invariant.1) in
    let read : slice_get c.self.inside.wanted c.number_of.result ≡ Some (slice_index_or c.self.inside.wanted c.number_of.result None) = slice_get-get_or c.self.inside.wanted c.number_of.result None inside in
    ap (slice_get c.args.self.now.wanted) (sym c.number_of.ensures) ∙ ap (λ (v : Enabled). slice_get v.wanted c.number_of.result) (sym c.self.view_is) ∙ read
