-- Moves that take one from a rank and add only below it come to an end.
use Rattle.std.proofs.Common.{◌⊎◌, inl, inr, ◌≡◌, ◌==◌, ◌+◌, ◌<◌, ◌≤◌, ℕ, Bool, true, false, cond, List, [], ◌∷◌, length, refl, sym, ap, subst, arith, suc, zero}
use Rattle.std.proofs.lemmas.Bool.{eqb-true, eq-eqb}
use Rattle.std.proofs.lemmas.Bool.Decides.{eqb_tells}
use Rattle.strm_chain_ends.proofs.CalmLemmas.{le_same}
use Rattle.strm_msg.specs.declared.words.End.{End}
use Rattle.strm_msg.specs.declared.words.End.TheVariants.{A, B}
use Rattle.strm_msg.specs.declared.words.Side.{Side}
use Rattle.strm_msg.specs.declared.words.Side.TheVariants.{Rd, Wr}
use Rattle.strm_module.specs.Driver.{is_serviced}
use Rattle.strm_chain_end.specs.End.{EndState, served_at}
use Rattle.strm_chain_ends.specs.Image.{Image, end_of}
use Rattle.strm_chain.specs.Service.{move}
use Rattle.strm_chain_settling.specs.Ends.{Ends}
use Rattle.strm_chain_settling.specs.Ends.Ends.{rule}
use Rattle.strm_chain_settling.specs.Orderly.{IsOrderly}
use Rattle.strm_chain_settling.proofs.LexLemmas.{Falls, Descends, all_end}
use Rattle.strm_chain_settling.proofs.LexLemmas.Descends.{rule as descends}
use Rattle.strm_chain_settling.proofs.Ranks.{Ranking, modules_of, IsRanked}
use Rattle.strm_chain_settling.proofs.Below.{HasFrame, debt_at, EndBelow, Below, frame_after}
use Rattle.strm_chain_settling.proofs.DeliverLemmas.{Fell, move_fell}
use Rattle.strm_chain_settling.proofs.DeliverLemmas.Fell.{queue, own, drv}

-- n things of a rank, as rank r counts them
abbrev messages_of_rank : ℕ → ℕ → ℕ → ℕ
messages_of_rank r rank n = cond (rank == r) n 0

if_less : (b : Bool) (m n : ℕ) → (b ≡ true → m ≤ n) → cond b m 0 ≤ cond b n 0
if_less true m n h = h refl
if_less false m n h = le_same 0

at_less : (q r rank m n : ℕ) → q ≤ r → (q ≤ rank → m ≤ n) → messages_of_rank r rank m ≤ messages_of_rank r rank n
at_less q r rank m n low h =
    if_less (rank == r) m n (λ same. h (let e = eqb-true rank r same in omega (arith, e)))

at_falls : (r m n : ℕ) → m < n → messages_of_rank r r m < messages_of_rank r r n
at_falls r m n h = rw (eq-eqb r r refl) h

-- no rank is as great as this one
pub record IsBounded {K : Type 0} (w : Ranking K) (most : ℕ) : Type 0 where
  pub waits : (side : Side) (e : End) (i : ℕ) → i ≤ modules_of w e → w.waits side e i < most
  pub drives : (e : End) → w.drives e < most

same_or_less : (m n : ℕ) → m ≤ n → (m < n) ⊎ (m ≡ n)
same_or_less m n h =
    elim (eqb_tells m n) [
      | inl e ↦ inr e.1
      | inr e ↦ inl (let d = e.1 in omega (arith, d, h))
    ]

module _ {K : Type 0} (w : Ranking K) where
  -- what of a rank may still move of a module, of n modules and their driver's list, and of both ends
  abbrev side_held : ℕ → End → ℕ → Side → EndState K → ℕ
  side_held r e i side s =
      messages_of_rank r (w.waits side e i) (length (served_at s i side)) + messages_of_rank r (w.owes side e i) (debt_at w s i side)

  abbrev module_held : ℕ → End → ℕ → EndState K → ℕ
  module_held r e i s = side_held r e i Rd s + side_held r e i Wr s

  abbrev drv_held : ℕ → End → EndState K → ℕ
  drv_held r e s = messages_of_rank r (w.drives e) (cond (is_serviced w.driver e) (length s.drv) 0)

  abbrev end_held : ℕ → End → ℕ → EndState K → ℕ
  end_held r e zero s = drv_held r e s
  end_held r e (suc i) s = module_held r e (suc i) s + end_held r e i s

  abbrev held : ℕ → Image K → ℕ
  held r x = end_held r A (modules_of w A) x.a + end_held r B (modules_of w B) x.b

  -- no more from a rank on
  module _ (q r : ℕ) (low : q ≤ r) (e : End) (s t : EndState K) (below : EndBelow w q e s t) where
    side_less : (i : ℕ) (side : Side) → side_held r e i side t ≤ side_held r e i side s
    side_less i side =
        let p = at_less q r (w.waits side e i) (length (served_at t i side)) (length (served_at s i side)) low (below.lists side i) in
        let o = at_less q r (w.owes side e i) (debt_at w t i side) (debt_at w s i side) low (below.debts side i) in
        omega (arith, p, o)

    module_less : (i : ℕ) → module_held r e i t ≤ module_held r e i s
    module_less i = let u = side_less i Rd in let d = side_less i Wr in omega (arith, u, d)

    drv_less : drv_held r e t ≤ drv_held r e s
    drv_less =
        at_less q r (w.drives e) (cond (is_serviced w.driver e) (length t.drv) 0) (cond (is_serviced w.driver e) (length s.drv) 0) low
        (λ high. if_less (is_serviced w.driver e) (length t.drv) (length s.drv) (λ on. below.drv on high))

    end_less : (n : ℕ) → end_held r e n t ≤ end_held r e n s
    end_less zero = drv_less
    end_less (suc n) = let m = module_less (suc n) in let rest = end_less n in omega (arith, m, rest)

    -- and less, where a side holds less
    module_falls : (i : ℕ) (side : Side) → side_held r e i side t < side_held r e i side s → module_held r e i t < module_held r e i s
    module_falls i Rd h = let d = side_less i Wr in omega (arith, h, d)
    module_falls i Wr h = let u = side_less i Rd in omega (arith, h, u)

    end_falls : (n i : ℕ) (side : Side) → 1 ≤ i → i ≤ n → side_held r e i side t < side_held r e i side s → end_held r e n t < end_held r e n s
    end_falls zero i side first last h = absurd (omega arith)
    end_falls (suc n) i side first last h =
        elim (eqb_tells i (suc n)) [
          | inl same ↦ let here = module_falls (suc n) side (subst (λ k. side_held r e k side t < side_held r e k side s) same.1 h) in let rest = end_less n in omega (arith, here, rest)
          | inr other ↦ let apart = other.1 in let m = module_less (suc n) in let rest = end_falls n i side first (omega (arith, apart, last)) h in omega (arith, m, rest)
        ]

    drv_falls : (n : ℕ) → drv_held r e t < drv_held r e s → end_held r e n t < end_held r e n s
    drv_falls zero h = h
    drv_falls (suc n) h = let m = module_less (suc n) in let rest = drv_falls n h in omega (arith, m, rest)

  held_less : (q r : ℕ) (x y : Image K) → q ≤ r → Below w q x y → held r y ≤ held r x
  held_less q r x y low below =
      let a = end_less q r low A x.a y.a (below.ends A) (modules_of w A) in
      let b = end_less q r low B x.b y.b (below.ends B) (modules_of w B) in
      omega (arith, a, b)

  -- both ends, where one of them holds less
  held_falls : (r : ℕ) (e : End) (x y : Image K) → Below w r x y → end_held r e (modules_of w e) (end_of y e) < end_held r e (modules_of w e) (end_of x e) → held r y < held r x
  held_falls r A x y below h = let b = end_less r r (le_same r) B x.b y.b (below.ends B) (modules_of w B) in omega (arith, h, b)
  held_falls r B x y below h = let a = end_less r r (le_same r) A x.a y.a (below.ends A) (modules_of w A) in omega (arith, h, a)

  -- what may still move of each rank below r, the greatest first
  abbrev levels : ℕ → Image K → List ℕ
  levels zero x = []
  levels (suc r) x = held r x ∷ levels r x

  same_levels : (r : ℕ) (x y : Image K) → length (levels r y) ≡ length (levels r x)
  same_levels zero x y = refl
  same_levels (suc r) x y = ap suc (same_levels r x y)

  levels_fall : (most r : ℕ) (x y : Image K) → r < most → Below w r x y → held r y < held r x → Falls (levels most y) (levels most x)
  levels_fall zero r x y there below h = absurd (omega arith)
  levels_fall (suc most) r x y there below h =
      elim (eqb_tells r most) [
        | inl same ↦ inl (subst (λ k. held k y < held k x) same.1 h, same_levels most x y)
        | inr other ↦ let apart = other.1 in
            let lower : r < most = omega (arith, apart, there) in
            elim (same_or_less (held most y) (held most x) (held_less r most x y (omega (arith, lower)) below)) [
              | inl less ↦ inl (less, same_levels most x y)
              | inr same ↦ inr (same, levels_fall most r x y lower below h)
            ]
      ]

-- under a ranking of an orderly vocabulary all moves come to an end
module _ {K : Type 0} (w : Ranking K) (laws : IsOrderly w.means w.debt) (ranked : IsRanked w) (most : ℕ) (bounded : IsBounded w most) where
  abbrev FellBelow : Image K → Image K → Type 0
  FellBelow x y = Falls (levels w most y) (levels w most x)

  fell_falls : (x y : Image K) → Fell w laws ranked x y → FellBelow x y
  fell_falls x y (queue side e i first last below less) =
      let r = w.waits side e i in
      let there = bounded.waits side e i last in
      let q = at_falls r (length (served_at (end_of y e) i side)) (length (served_at (end_of x e) i side)) less in
      let o = at_less r r (w.owes side e i) (debt_at w (end_of y e) i side) (debt_at w (end_of x e) i side) (le_same r) ((below.ends e).debts side i) in
      let here : side_held w r e i side (end_of y e) < side_held w r e i side (end_of x e) = omega (arith, q, o) in
      levels_fall w most r x y there below
      (held_falls w r e x y below (end_falls w r r (le_same r) e (end_of x e) (end_of y e) (below.ends e) (modules_of w e) i side first last here))
  fell_falls x y (own side e i first last below less) =
      let r = w.owes side e i in
      let there = bounded.waits side e i last in
      let under = ranked.owed side e i in
      let o = at_falls r (debt_at w (end_of y e) i side) (debt_at w (end_of x e) i side) less in
      let q = at_less r r (w.waits side e i) (length (served_at (end_of y e) i side)) (length (served_at (end_of x e) i side)) (le_same r) ((below.ends e).lists side i) in
      let here : side_held w r e i side (end_of y e) < side_held w r e i side (end_of x e) = omega (arith, q, o) in
      levels_fall w most r x y (omega (arith, there, under)) below
      (held_falls w r e x y below (end_falls w r r (le_same r) e (end_of x e) (end_of y e) (below.ends e) (modules_of w e) i side first last here))
  fell_falls x y (drv e on below less) =
      let r = w.drives e in
      let d : drv_held w r e (end_of y e) < drv_held w r e (end_of x e) = rw on (at_falls r (length (end_of y e).drv) (length (end_of x e).drv) less) in
      levels_fall w most r x y (bounded.drives e) below
      (held_falls w r e x y below (drv_falls w r r (le_same r) e (end_of x e) (end_of y e) (below.ends e) (modules_of w e) d))

  fell_frame : (x y : Image K) → HasFrame w x → Fell w laws ranked x y → HasFrame w y
  fell_frame x y frame (queue side e i first last below less) = frame_after w (w.waits side e i) x y frame below
  fell_frame x y frame (own side e i first last below less) = frame_after w (w.owes side e i) x y frame below
  fell_frame x y frame (drv e on below less) = frame_after w (w.drives e) x y frame below

  ends_by : (image : Image K) (ns : List ℕ) → HasFrame w image → ns ≡ levels w most image → Descends ns → Ends w.means image
  ends_by image ns frame is (descends _ all) =
      rule image (λ place h.
      let fell = move_fell w laws ranked image place frame h in
      let y = move w.means image place in
      ends_by y (levels w most y) (fell_frame image y frame fell) refl
      (all (levels w most y) (subst (λ ms. Falls (levels w most y) ms) (sym is) (fell_falls image y fell))))

  pub ranked_ends : (image : Image K) → HasFrame w image → Ends w.means image
  ranked_ends image frame =
      ends_by image (levels w most image) frame refl (all_end (levels w most image))
