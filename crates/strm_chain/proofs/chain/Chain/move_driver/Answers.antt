use Rattle.std.proofs.Common.{◌≡◌, ◌∙◌, false, OnOk, ap, subst, true, Some, [], slice_get, refl, arith}
use Rattle.strm_module.specs.Driver.{partner}
use Rattle.strm_module.specs.Calm.{is_calm, options_of}
use Rattle.strm_chain_ends.specs.Image.{Image, end_of}
use Rattle.strm_chain.specs.Service.{move}
use Rattle.strm_chain_ends.specs.declared.place.Place.TheVariants as Place
use Rattle.strm_chain.proofs.HopLemmas.{carries_up, driver_moves, driver_stays}
use Rattle.strm_chain_end.proofs.NextLemmas.{drv_calm}
use Rattle.strm_chain_ends.specs.Count.{answers_options}
use Rattle.strm_chain.specs.Count.{options_carried, are_calm_hops}
use Rattle.strm_chain.proofs.CaseLemmas.{on_ok}
use Rattle.strm_chain.proofs.CountLemmas.{one_calm, hop_adds}
use Rattle.strm_chain.proofs.QuietLemmas.{same_trans}
use Rattle.strm_chain.proofs.chain.Chain.move_driver.Goals as goal
use Rattle.strm_chain.specs.Hop.{deliver_all, up_hop}

pub returns-in-Some-clause-ok : goal.returns-in-Some-clause-ok
returns-in-Some-clause-ok g c =
    let means = g.M.Kind.Kinds.means in
    let old = c.args.self.now.image in
    let new = c.take_driver.new.self.image in
    let p = c.partner_of-partner.result in
    let n = c.count-ahead.result in
    let m = c.in-Some.m in
    let there = move means old (Place.Drv c.args.end) in
    let at : p ≡ partner old.driver c.args.end = c.partner_of-partner.ensures ∙ ap (λ d. partner d c.args.end) c.driver.ensures in
    let moved = driver_moves means c.args.end p n old new m (end_of new c.args.end).drv at c.count-ahead.ensures.value c.in-Some.ensures.some.0 c.in-Some.ensures.some.1 in
    let e : deliver_all means new c.push_front_reserved.new.self.items ≡ there =
    rw (c.push_front_reserved.ensures.items, c.up.ensures, c.requires.empty) (carries_up means new false p n m ∙ moved) in
    subst (λ (j : Image _). OnOk c.deliver_all.result (c.deliver_all.new.self.image ≡ j)) e c.deliver_all.ensures.ok

pub returns-in-None-clause-ok : goal.returns-in-None-clause-ok
returns-in-None-clause-ok g c =
    driver_stays g.M.Kind.Kinds.means c.args.end c.args.self.now.image c.take_driver.new.self.image c.in-None.ensures.none.0 c.in-None.ensures.none.1

pub returns-in-Some-clause-moves : goal.returns-in-Some-clause-moves
returns-in-Some-clause-moves g c =
    let old = c.args.self.now.image in
    let m = c.in-Some.m in
    let first : slice_get (end_of old c.args.end).drv 0 ≡ Some m = ap (λ q. slice_get q 0) c.in-Some.ensures.some.0 in
    let calm : is_calm m.kind ≡ true = drv_calm (end_of old c.args.end) m c.count.ensures.ordinary first in
    let hops : are_calm_hops c.push_front_reserved.new.self.items ≡ true =
    rw (c.push_front_reserved.ensures.items, c.up.ensures, c.requires.empty) (one_calm (up_hop false c.partner_of-partner.result c.count-ahead.result m) [] calm refl) in
    let mid = c.take_driver.new.self.image in
    let set = ap (options_carried mid) c.push_front_reserved.ensures.items ∙ hop_adds (answers_options mid.driver) c.up.result c.args.hops.now.items in
    let one : options_of (answers_options mid.driver) c.up.result.m ≡ options_of (answers_options old.driver) m = rw (c.up.ensures, c.take_driver.ensures.same.driver) refl in
    let none = ap (options_carried mid) c.requires.empty in
    on_ok c.deliver_all.result _ _ c.deliver_all.ensures.grows
    (λ grow kinds enabled. let taken = c.in-Some.ensures.moves enabled in let more = grow kinds hops in omega (arith, taken, more, set, one, none))

pub returns-in-Some-clause-same : goal.returns-in-Some-clause-same
returns-in-Some-clause-same g c =
    same_trans c.args.self.now.image c.take_driver.new.self.image c.deliver_all.new.self.image c.take_driver.ensures.same c.deliver_all.ensures.same

pub returns-in-Some-clause-given : goal.returns-in-Some-clause-given
returns-in-Some-clause-given g c = c.deliver_all.ensures.given ∙ c.take_driver.ensures.given

pub returns-in-None-clause-same : goal.returns-in-None-clause-same
returns-in-None-clause-same g c = c.take_driver.ensures.same

pub returns-in-None-clause-given : goal.returns-in-None-clause-given
returns-in-None-clause-given g c = c.take_driver.ensures.given

pub returns-in-None-clause-moves : goal.returns-in-None-clause-moves
returns-in-None-clause-moves g c = λ kinds enabled. c.in-None.ensures.rests enabled
