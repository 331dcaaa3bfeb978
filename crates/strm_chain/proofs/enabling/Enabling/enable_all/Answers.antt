use Rattle.std.proofs.Common.{⊎_elim, ◌≡◌, ◌≤◌, ◌<◌, ◌∙◌, is_some, ap, sym, arith}
use Rattle.std.proofs.lemmas.Bool.{cases_eq}
use Rattle.strm_msg.specs.declared.words.End.TheVariants.{A, B}
use Rattle.strm_chain_ends.specs.declared.place.NextQueue.TheVariants.{Of}
use Rattle.strm_chain_ends.specs.Image.{count_of}
use Rattle.strm_chain_ends.specs.Flow.{offer_of}
use Rattle.strm_chain_ends.proofs.NextLemmas.{front_counted}
use Rattle.strm_chain.specs.Number.{place_number, place_of}
use Rattle.strm_chain.specs.Enabled.{is_enabled}
use Rattle.strm_chain.proofs.NumberLemmas.{counted_few, place_back}
use Rattle.strm_chain.proofs.EnablingLemmas.{ready_all, enabled_with}
use Rattle.strm_chain.proofs.enabling.Enabling.enable_all.Goals as goal

pub returns-clause-ready : goal.returns-clause-ready
returns-clause-ready g c =
    let image = c.args.ends.now.image in
    let a : count_of image A ≤ 8 = omega arith in
    let b : count_of image B ≤ 8 = omega arith in
    ready_all g.M.Kind.Kinds.means image c.loop-number.self
    (λ p some.
    let few = counted_few (Of p) (front_counted g.M.Kind.Kinds.means image p a b some) in
    let below : place_number p < c.loop-number.number = omega (arith, few) in
    let back = place_back p in
    ap (is_enabled c.loop-number.self.run) (sym back) ∙ c.loop-number.invariant.0 (place_number p) below (ap (λ k. is_some (offer_of g.M.Kind.Kinds.means image k)) back ∙ some))

pub loop-number-preserved : goal.loop-number-preserved
loop-number-preserved g c =
    let l = c.loop-number.invariant in
    let here = c.place_of.ensures in
    let image = c.args.ends.now.image in (
      λ n less some.
          ⊎_elim
          (λ (e : n ≡ c.loop-number.number).
          let is : c.place_of.result ≡ place_of n = here ∙ ap place_of (sym e) in
          let items = c.enable_if_filled.ensures.own (ap (λ p. is_some (offer_of g.M.Kind.Kinds.means image p)) is ∙ some) in
          rw (← is) (enabled_with c.enable_if_filled.new.self.run c.loop-number.self.run.items c.place_of.result items))
          (λ (ne : n ≡ c.loop-number.number → ⊥).
          c.enable_if_filled.ensures.kept (place_of n) (l.0 n (omega (arith, less, ne)) some))
          (cases_eq n c.loop-number.number),
      c.enable_if_filled.ensures.given ∙ l.1,
      c.enable_if_filled.ensures.places l.2,
    )
