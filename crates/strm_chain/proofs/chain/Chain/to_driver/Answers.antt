use Rattle.std.proofs.Common.{◌≡◌, ◌≤◌, ◌<◌, ◌∷◌, ◌∙◌, ap, sym, arith, true, None, refl}
use Rattle.strm_module.specs.Calm.{is_calm, options_of}
use Rattle.strm_module.specs.Driver.{partner}
use Rattle.strm_chain_end.specs.declared.driver.DriverSends.TheVariants.{Reply, Across}
use Rattle.strm_chain_ends.specs.Count.{answers_options, options_driven}
use Rattle.strm_chain_ends.specs.Image.{end_of, put_at_driver}
use Rattle.strm_chain_ends.proofs.CalmLemmas.{sends_calm, driver_calm}
use Rattle.strm_chain.specs.Count.{options_carried}
use Rattle.strm_chain.proofs.CountLemmas.{one_calm, hop_adds}
use Rattle.strm_msg.specs.Message.{bare, ack_msg}
use Rattle.strm_msg.specs.declared.kind.MsgKind.TheVariants.{MSetopts}
use Rattle.strm_chain.specs.Hop.{deliver_all, up_hop, down_hop, rank}
use Rattle.strm_chain.proofs.HopLemmas.{carries_up, carries_two, driver_nothing, driver_reply, driver_across, driver_options}
use Rattle.strm_chain.proofs.CaseLemmas.{on_ok, always}
use Rattle.strm_chain.proofs.StillLemmas.{nothing_changed}
use Rattle.strm_chain.proofs.LoadLemmas.{none_falls, one_falls, two_fall}
use Rattle.strm_chain.proofs.chain.Chain.to_driver.Goals as goal

pub returns-in-Nothing-clause-image : goal.returns-in-Nothing-clause-image
returns-in-Nothing-clause-image g c =
    let means = g.M.Kind.Kinds.means in
    let old = c.args.self.now.image in
    let new = c.put_at_driver.new.self.image in
    ap (λ i. deliver_all means i c.args.hops.now.items)
    (driver_nothing means c.args.head_sent c.args.end old new c.args.m (sym c.in-Nothing.is ∙ c.in_ok-put_at_driver.ensures.sends) c.in_ok-put_at_driver.ensures.state)

pub returns-in-Reply-clause-image : goal.returns-in-Reply-clause-image
returns-in-Reply-clause-image g c =
    let means = g.M.Kind.Kinds.means in
    let old = c.args.self.now.image in
    let new = c.put_at_driver.new.self.image in
    let n = c.count-own.result in
    rw (c.push_front_reserved.ensures.items, c.up.ensures)
    (ap (λ i. deliver_all means i c.args.hops.now.items)
    (carries_up means new c.args.head_sent c.args.end n c.in-Reply.m ∙ driver_reply means c.args.head_sent c.args.end n old new c.args.m c.in-Reply.m c.count-own.ensures.value (sym c.in-Reply.is ∙ c.in_ok-put_at_driver.ensures.sends) c.in_ok-put_at_driver.ensures.state))

pub returns-in-Reply-clause-falls : goal.returns-in-Reply-clause-falls
returns-in-Reply-clause-falls g c =
    let n = c.count-own.result in
    let few : n ≤ 8 = c.count-own.ensures.few in
    let less : rank (up_hop c.args.head_sent c.args.end n c.in-Reply.m) < rank (down_hop c.args.head_sent c.args.end 0 c.args.m) = omega arith in
    rw (c.push_front_reserved.ensures.items, c.up.ensures)
    (one_falls (down_hop c.args.head_sent c.args.end 0 c.args.m) (up_hop c.args.head_sent c.args.end n c.in-Reply.m) c.args.hops.now.items less)

pub returns-in-Across-clause-image : goal.returns-in-Across-clause-image
returns-in-Across-clause-image g c =
    let means = g.M.Kind.Kinds.means in
    let old = c.args.self.now.image in
    let new = c.put_at_driver.new.self.image in
    let p = c.partner_of-partner.result in
    let n = c.count-across.result in
    let at : p ≡ partner old.driver c.args.end = c.partner_of-partner.ensures ∙ ap (λ d. partner d c.args.end) c.driver.ensures in
    rw (c.push_front_reserved-in-Across.ensures.items, c.up-in-Across.ensures)
    (ap (λ i. deliver_all means i c.args.hops.now.items)
    (carries_up means new c.args.head_sent p n c.in-Across.m ∙ driver_across means c.args.head_sent c.args.end p n old new c.args.m c.in-Across.m at c.count-across.ensures.value (sym c.in-Across.is ∙ c.in_ok-put_at_driver.ensures.sends) c.in_ok-put_at_driver.ensures.state))

pub returns-in-Across-clause-falls : goal.returns-in-Across-clause-falls
returns-in-Across-clause-falls g c =
    let p = c.partner_of-partner.result in
    let n = c.count-across.result in
    let few : n ≤ 8 = c.count-across.ensures.few in
    let less : rank (up_hop c.args.head_sent p n c.in-Across.m) < rank (down_hop c.args.head_sent c.args.end 0 c.args.m) = omega arith in
    rw (c.push_front_reserved-in-Across.ensures.items, c.up-in-Across.ensures)
    (one_falls (down_hop c.args.head_sent c.args.end 0 c.args.m) (up_hop c.args.head_sent p n c.in-Across.m) c.args.hops.now.items less)

pub returns-in-Nothing-clause-falls : goal.returns-in-Nothing-clause-falls
returns-in-Nothing-clause-falls g c =
    none_falls (down_hop c.args.head_sent c.args.end 0 c.args.m) c.args.hops.now.items

pub returns-clause-image : goal.returns-clause-image
returns-clause-image g c =
    let means = g.M.Kind.Kinds.means in
    let old = c.args.self.now.image in
    let new = c.put_at_driver.new.self.image in
    let n = c.count-own.result in
    let x = bare (MSetopts c.in-Options.mode c.in-Options.prot c.in-Options.marks) in
    let y = ack_msg c.in-Options.id 0 None in
    on_ok c.push_options.result _ _ c.push_options.ensures
    (λ pushed. rw (pushed, c.of_setopts-options.ensures, c.of_ack-ack.ensures)
    (ap (λ i. deliver_all means i c.args.hops.now.items)
    (carries_two means new c.args.head_sent c.args.end n x y ∙ driver_options means c.args.head_sent c.args.end n old new c.args.m c.in-Options.mode c.in-Options.prot c.in-Options.marks c.in-Options.id c.count-own.ensures.value (sym c.in-Options.is ∙ c.in_ok-put_at_driver.ensures.sends) c.in_ok-put_at_driver.ensures.state)))

pub returns-clause-falls : goal.returns-clause-falls
returns-clause-falls g c =
    let n = c.count-own.result in
    let few : n ≤ 8 = c.count-own.ensures.few in
    let x = up_hop c.args.head_sent c.args.end n (bare (MSetopts c.in-Options.mode c.in-Options.prot c.in-Options.marks)) in
    let y = up_hop c.args.head_sent c.args.end n (ack_msg c.in-Options.id 0 None) in
    let less_x : rank x < rank (down_hop c.args.head_sent c.args.end 0 c.args.m) = omega arith in
    let less_y : rank y < rank (down_hop c.args.head_sent c.args.end 0 c.args.m) = omega arith in
    on_ok c.push_options.result _ _ c.push_options.ensures
    (λ pushed. rw (pushed, c.of_setopts-options.ensures, c.of_ack-ack.ensures)
    (two_fall (down_hop c.args.head_sent c.args.end 0 c.args.m) x y c.args.hops.now.items less_x less_y))

pub returns-in-Reply-clause-grows : goal.returns-in-Reply-clause-grows
returns-in-Reply-clause-grows g c =
    let old = c.args.self.now.image in
    let e = end_of old c.args.end in
    let b = answers_options old.driver in
    let m = c.in-Reply.m in
    let sent : Reply m ≡ (put_at_driver old.driver c.args.end e c.args.m).sends = sym c.in-Reply.is ∙ c.in_ok-put_at_driver.ensures.sends in
    λ kinds calm rest.
    let still : is_calm m.kind ≡ true = ap sends_calm sent ∙ (driver_calm old.driver c.args.end e c.args.m calm).0 in
    let grow = c.in_ok-put_at_driver.ensures.grows calm in
    let by = ap (options_driven b) c.in-Reply.is in
    let set = ap (options_carried old) c.push_front_reserved.ensures.items ∙ hop_adds b c.up.result c.args.hops.now.items in
    let one : options_of b c.up.result.m ≡ options_of b m = rw c.up.ensures refl in (
      omega (arith, grow, by, set, one),
      rw (c.push_front_reserved.ensures.items, c.up.ensures) (one_calm (up_hop c.args.head_sent c.args.end c.count-own.result m) c.args.hops.now.items still rest),
    )

pub returns-in-Across-clause-grows : goal.returns-in-Across-clause-grows
returns-in-Across-clause-grows g c =
    let old = c.args.self.now.image in
    let e = end_of old c.args.end in
    let b = answers_options old.driver in
    let m = c.in-Across.m in
    let sent : Across m ≡ (put_at_driver old.driver c.args.end e c.args.m).sends = sym c.in-Across.is ∙ c.in_ok-put_at_driver.ensures.sends in
    λ kinds calm rest.
    let still : is_calm m.kind ≡ true = ap sends_calm sent ∙ (driver_calm old.driver c.args.end e c.args.m calm).0 in
    let grow = c.in_ok-put_at_driver.ensures.grows calm in
    let by = ap (options_driven b) c.in-Across.is in
    let set = ap (options_carried old) c.push_front_reserved-in-Across.ensures.items ∙ hop_adds b c.up-in-Across.result c.args.hops.now.items in
    let one : options_of b c.up-in-Across.result.m ≡ options_of b m = rw c.up-in-Across.ensures refl in (
      omega (arith, grow, by, set, one),
      rw (c.push_front_reserved-in-Across.ensures.items, c.up-in-Across.ensures) (one_calm (up_hop c.args.head_sent c.partner_of-partner.result c.count-across.result m) c.args.hops.now.items still rest),
    )

pub returns-clause-grows : goal.returns-clause-grows
returns-clause-grows g c =
    let old = c.args.self.now.image in
    let b = answers_options old.driver in
    let n = c.count-own.result in
    let rest = c.args.hops.now.items in
    let x = up_hop c.args.head_sent c.args.end n (bare (MSetopts c.in-Options.mode c.in-Options.prot c.in-Options.marks)) in
    let y = up_hop c.args.head_sent c.args.end n (ack_msg c.in-Options.id 0 None) in
    on_ok c.push_options.result _ _ c.push_options.ensures
    (λ pushed kinds calm calm_rest.
    let is : c.push_options.new.hops.items ≡ x ∷ (y ∷ rest) = rw (pushed, c.of_setopts-options.ensures, c.of_ack-ack.ensures) refl in
    let grow = c.in_ok-put_at_driver.ensures.grows calm in
    let by = ap (options_driven b) c.in-Options.is in
    let set = ap (options_carried old) is in
    let first = hop_adds b x (y ∷ rest) in
    let second = hop_adds b y rest in (
      omega (arith, grow, by, set, first, second),
      rw is (one_calm x (y ∷ rest) refl (one_calm y rest refl calm_rest)),
    ))

pub returns-in-Nothing-clause-err : goal.returns-in-Nothing-clause-err
returns-in-Nothing-clause-err g c = tt

pub returns-in-Nothing-clause-same : goal.returns-in-Nothing-clause-same
returns-in-Nothing-clause-same g c = c.put_at_driver.ensures.same

pub returns-in-Nothing-clause-given : goal.returns-in-Nothing-clause-given
returns-in-Nothing-clause-given g c = c.put_at_driver.ensures.given

pub returns-in-Reply-clause-err : goal.returns-in-Reply-clause-err
returns-in-Reply-clause-err g c = tt

pub returns-in-Reply-clause-same : goal.returns-in-Reply-clause-same
returns-in-Reply-clause-same g c = c.put_at_driver.ensures.same

pub returns-in-Reply-clause-given : goal.returns-in-Reply-clause-given
returns-in-Reply-clause-given g c = c.put_at_driver.ensures.given

pub returns-in-Across-clause-err : goal.returns-in-Across-clause-err
returns-in-Across-clause-err g c = tt

pub returns-in-Across-clause-same : goal.returns-in-Across-clause-same
returns-in-Across-clause-same g c = c.put_at_driver.ensures.same

pub returns-in-Across-clause-given : goal.returns-in-Across-clause-given
returns-in-Across-clause-given g c = c.put_at_driver.ensures.given

pub returns-clause-err : goal.returns-clause-err
returns-clause-err g c =
    always c.push_options.result _
    (nothing_changed c.in-Options.mode c.in-Options.prot c.in-Options.marks c.in-Options.id c.args.end c.args.self.now.image c.put_at_driver.new.self.image c.args.m (sym c.in-Options.is ∙ c.in_ok-put_at_driver.ensures.sends) c.in_ok-put_at_driver.ensures.state)

pub returns-clause-same : goal.returns-clause-same
returns-clause-same g c = c.put_at_driver.ensures.same

pub returns-clause-given : goal.returns-clause-given
returns-clause-given g c = c.put_at_driver.ensures.given

pub returns-in_err-put_at_driver-clause-same : goal.returns-in_err-put_at_driver-clause-same
returns-in_err-put_at_driver-clause-same g c = c.put_at_driver.ensures.same

pub returns-in_err-put_at_driver-clause-given : goal.returns-in_err-put_at_driver-clause-given
returns-in_err-put_at_driver-clause-given g c = c.put_at_driver.ensures.given
