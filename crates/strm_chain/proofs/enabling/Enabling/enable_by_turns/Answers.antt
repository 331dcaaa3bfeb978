use Rattle.std.proofs.Common.{◌∙◌, sym}
use Rattle.strm_chain_ends.specs.declared.place.Place.TheVariants as Places
use Rattle.strm_chain.proofs.EnablingLemmas.{turns_known}
use Rattle.strm_chain.proofs.enabling.Enabling.enable_by_turns.Goals as goal

pub returns-clause-known : goal.returns-clause-known
returns-clause-known g c =
    λ old wr rd others.
    turns_known g.M.Kind.Kinds.means old c.args.ends.now.image c.enable_by_turn-2.new.self.run (Places.Wr c.args.end c.args.i) (Places.Rd c.args.end c.args.i) others
    (λ some out. c.enable_by_turn.ensures.own some (c.enable_by_turn-2.ensures.kept (Places.Wr c.args.end c.args.i) out) ∙ sym wr)
    (λ some out. c.enable_by_turn-2.ensures.own some out ∙ sym rd)
