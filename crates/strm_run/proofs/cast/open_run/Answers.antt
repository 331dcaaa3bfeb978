use Rattle.std.proofs.Common.{◌≡◌, ◌∙◌, rules, ap, length, sym, subst}
use Rattle.strm_run.specs.Inside.Table.{IsTransposed}
use Rattle.strm_run.proofs.OpeningLemmas.{columns_high, seated_after}
use Rattle.strm_run.proofs.LinkLemmas.{leads_within}
use Rattle.strm_run.proofs.ThereLemmas.{calls_there, feeds_there, kinds_fed}
use Rattle.strm_run.proofs.cast.open_run.Goals as goal

pub transposed-requires : goal.transposed-requires
transposed-requires g c k d below =
    let ok = c.args.scripts.ok in
    let many : length c.args.scripts.items ≡ c.len-callers.result = search rules in
    columns_high g.N.RunName.run c.in_ok-all.seats.items c.in_ok-all.ensures.seats_are k d below ∙ ap (λ l. length l) c.requires.scripts_are ∙ many

pub feeds_of-requires-clause-there : goal.feeds_of-requires-clause-there
feeds_of-requires-clause-there g c k d below =
    let ok = c.args.setups.ok in
    let under = feeds_there c.args.setups.items c.args.scripts.items c.args.feeds.items c.args.links.items c.requires.there k d below in
    search rules

pub feedings-requires-clause-kinds : goal.feedings-requires-clause-kinds
feedings-requires-clause-kinds g c = kinds_fed _ _ _ c.in_ok-feeds.ensures c.requires.kinds

pub seated-requires-clause-there : goal.seated-requires-clause-there
seated-requires-clause-there g c κs within k d below j e lower =
    let under = calls_there c.args.setups.items c.args.scripts.items c.args.feeds.items c.args.links.items c.requires.there k d below j e lower in
    rw c.requires.setups_are under

pub seated-requires-clause-seats : goal.seated-requires-clause-seats
seated-requires-clause-seats g c κs within =
    let ok = c.args.scripts.ok in
    let many : c.len-callers.result ≡ length c.args.scripts.items = search rules in
    seated_after g.N.RunName.run c.in_ok-all.seats.items c.in_ok-seats.seats.items c.in_ok-all.ensures.seats_are
    (subst (λ n. IsTransposed c.in_ok-all.seats.items n c.in_ok-seats.seats.items) (many ∙ ap (λ l. length l) (sym c.requires.scripts_are)) c.in_ok-seats.ensures)

pub joints-requires-clause-there : goal.joints-requires-clause-there
joints-requires-clause-there g c = rw c.requires.setups_are (leads_within c.args.setups.items (length c.args.scripts.items) c.args.feeds.items c.args.links.items c.requires.there.joined)
