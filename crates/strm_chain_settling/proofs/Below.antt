-- Images of which one holds no more than the other from a rank on.
use Rattle.std.proofs.Common.{◌⊎◌, inl, inr, ◌≡◌, ◌∙◌, ◌<◌, ◌≤◌, ℕ, true, false, Option, Some, None, List, [], ◌∷◌, length, map, fold, refl, sym, ap, subst, arith, suc, zero}
use Rattle.std.proofs.lemmas.List.{length-map}
use Rattle.strm_chain_ends.proofs.CalmLemmas.{le_same}
use Rattle.strm_msg.specs.Kind.{is_high}
use Rattle.strm_msg.specs.Message.{Msg}
use Rattle.strm_msg.specs.declared.words.End.{End}
use Rattle.strm_msg.specs.declared.words.End.TheVariants.{A, B}
use Rattle.strm_msg.specs.declared.words.Side.{Side}
use Rattle.strm_msg.specs.declared.words.Side.TheVariants.{Rd, Wr}
use Rattle.strm_module.specs.Kinds.{OutList, Meaning}
use Rattle.strm_module.specs.Driver.{is_serviced}
use Rattle.strm_chain_end.specs.Pair.{QueuePair, served_on}
use Rattle.strm_chain_end.specs.End.{EndState, pair_at, set_pair, served_found, served_at}
use Rattle.strm_chain_ends.specs.Image.{Image, end_of, with_end, count_of}
use Rattle.strm_chain.specs.Deliver.{Sender, SenderPast}
use Rattle.strm_chain_settling.proofs.ListLemmas.{set_found, set_mapped}
use Rattle.strm_chain_settling.proofs.Ranks.{Role, role_at, Ranking, modules_of}

-- this holds of all that leaves
abbrev pub Each : (Side × Msg → Type 0) → OutList → Type 0
Each P [] = Unit {0}
Each P (out ∷ outs) = P out × Each P outs

-- what a module answers, and what those of an end do
abbrev pub role_of : {K : Type 0} → Meaning K → QueuePair K → Role
role_of means s = record { answers = means.answers s.shape.kind Rd; turns = means.answers s.shape.kind Wr }

abbrev pub roles_of : {K : Type 0} → Meaning K → EndState K → List Role
roles_of means e = map (role_of means) e.modules

module _ {K : Type 0} (w : Ranking K) where
  abbrev pub role : QueuePair K → Role
  role s = role_of w.means s

  abbrev pub roles_at : EndState K → List Role
  roles_at e = roles_of w.means e

  abbrev pub debt_found : Option (QueuePair K) → Side → ℕ
  debt_found None side = 0
  debt_found (Some s) side = w.debt s.shape.kind side

  abbrev pub debt_at : EndState K → ℕ → Side → ℕ
  debt_at e i side = debt_found (pair_at e.modules i) side

  -- the driver and the roles of an image
  pub record HasFrame (image : Image K) : Type 0 where
    pub driver : image.driver ≡ w.driver
    pub roles : (e : End) → roles_at (end_of image e) ≡ w.roles e

  pub counted : (image : Image K) (e : End) → HasFrame image → count_of image e ≡ modules_of w e
  counted image e frame = sym (length-map (end_of image e).modules role) ∙ ap length (frame.roles e)

  slice_role : (xs : List (QueuePair K)) (i : ℕ) (s : QueuePair K) (roles : List Role) → pair_at xs (suc i) ≡ Some s → map role xs ≡ roles → role_at roles (suc i) ≡ Some (role s)
  slice_role [] i s roles at is = cc
  slice_role (x ∷ xs) zero s roles at is = rw (← is) (ap (λ o. Some (role o)) (let e : x ≡ s = cc in e))
  slice_role (x ∷ xs) (suc i) s roles at is = rw (← is) (slice_role xs i s (map role xs) at refl)

  pub role_there : (image : Image K) (e : End) (i : ℕ) (s : QueuePair K) → HasFrame image → pair_at (end_of image e).modules i ≡ Some s → role_at (w.roles e) i ≡ Some (role s)
  role_there image e zero s frame at = cc
  role_there image e (suc i) s frame at = slice_role (end_of image e).modules i s (w.roles e) at (frame.roles e)

  -- a module, an end and an image that hold no more from a rank on, with the same roles
  pub record PairBelow (r : ℕ) (e : End) (i : ℕ) (s t : QueuePair K) : Type 0 where
    pub role_same : role t ≡ role s
    pub lists : (side : Side) → r ≤ w.waits side e i → length (served_on t side) ≤ length (served_on s side)
    pub debts : (side : Side) → r ≤ w.owes side e i → w.debt t.shape.kind side ≤ w.debt s.shape.kind side

  pub record EndBelow (r : ℕ) (e : End) (s t : EndState K) : Type 0 where
    pub roles : roles_at t ≡ roles_at s
    pub lists : (side : Side) (i : ℕ) → r ≤ w.waits side e i → length (served_at t i side) ≤ length (served_at s i side)
    pub debts : (side : Side) (i : ℕ) → r ≤ w.owes side e i → debt_at t i side ≤ debt_at s i side
    pub drv : is_serviced w.driver e ≡ true → r ≤ w.drives e → length t.drv ≤ length s.drv

  pub record Below (r : ℕ) (x y : Image K) : Type 0 where
    pub driver : y.driver ≡ x.driver
    pub ends : (e : End) → EndBelow r e (end_of x e) (end_of y e)

  -- an end whose modules and driver's list stay
  pub end_same : (r : ℕ) (e : End) (s t : EndState K) → t.modules ≡ s.modules → (is_serviced w.driver e ≡ true → r ≤ w.drives e → length t.drv ≤ length s.drv) → EndBelow r e s t
  end_same r e s t same less =
      record {
        roles = ap (λ l. map role l) same;
        lists = λ side i h. let n = ap (λ l. length (served_found (pair_at l i) side)) same in omega (arith, n);
        debts = λ side i h. let n = ap (λ l. debt_found (pair_at l i) side) same in omega (arith, n);
        drv = less;
      }

  pub below_same : (r : ℕ) (x : Image K) → Below r x x
  below_same r x =
      record { driver = refl; ends = λ e. end_same r e (end_of x e) (end_of x e) refl (λ on h. le_same (length (end_of x e).drv)) }

  pub below_trans : (r : ℕ) (x y z : Image K) → Below r x y → Below r y z → Below r x z
  below_trans r x y z a b =
      record {
        driver = b.driver ∙ a.driver;
        ends = λ e. record {
          roles = (b.ends e).roles ∙ (a.ends e).roles;
          lists = λ side i h. let p = (a.ends e).lists side i h in let q = (b.ends e).lists side i h in omega (arith, p, q);
          debts = λ side i h. let p = (a.ends e).debts side i h in let q = (b.ends e).debts side i h in omega (arith, p, q);
          drv = λ on h. let p = (a.ends e).drv on h in let q = (b.ends e).drv on h in omega (arith, p, q);
        };
      }

  pub frame_after : (r : ℕ) (x y : Image K) → HasFrame x → Below r x y → HasFrame y
  frame_after r x y frame b =
      record { driver = b.driver ∙ frame.driver; roles = λ e. (b.ends e).roles ∙ frame.roles e }

  -- one end changes, and the other stays
  ends_with : (r : ℕ) (x : Image K) (e : End) (s : EndState K) → EndBelow r e (end_of x e) s → (at : End) → EndBelow r at (end_of x at) (end_of (with_end x e s) at)
  ends_with r x A s h A = h
  ends_with r x A s h B = (below_same r x).ends B
  ends_with r x B s h A = (below_same r x).ends A
  ends_with r x B s h B = h

  with_driver : (x : Image K) (e : End) (s : EndState K) → (with_end x e s).driver ≡ x.driver
  with_driver x A s = refl
  with_driver x B s = refl

  pub below_with : (r : ℕ) (x : Image K) (e : End) (s : EndState K) → EndBelow r e (end_of x e) s → Below r x (with_end x e s)
  below_with r x e s h = record { driver = with_driver x e s; ends = ends_with r x e s h }

  -- one module changes, and the others stay
  lists_set : (r : ℕ) (e : End) (i : ℕ) (s t : QueuePair K) (o p : Option (QueuePair K)) (side : Side) (j : ℕ) → PairBelow r e i s t → ((j ≡ i) × (o ≡ Some s) × (p ≡ Some t)) ⊎ (p ≡ o) → r ≤ w.waits side e j → length (served_found p side) ≤ length (served_found o side)
  lists_set r e i s t o p side j b (inl h) less = rw (h.1, h.2) (b.lists side (subst (λ k. r ≤ w.waits side e k) h.0 less))
  lists_set r e i s t o p side j b (inr h) less = rw h (le_same (length (served_found o side)))

  debts_set : (r : ℕ) (e : End) (i : ℕ) (s t : QueuePair K) (o p : Option (QueuePair K)) (side : Side) (j : ℕ) → PairBelow r e i s t → ((j ≡ i) × (o ≡ Some s) × (p ≡ Some t)) ⊎ (p ≡ o) → r ≤ w.owes side e j → debt_found p side ≤ debt_found o side
  debts_set r e i s t o p side j b (inl h) less = rw (h.1, h.2) (b.debts side (subst (λ k. r ≤ w.owes side e k) h.0 less))
  debts_set r e i s t o p side j b (inr h) less = rw h (le_same (debt_found o side))

  pub end_set : (r : ℕ) (e : End) (i : ℕ) (x : EndState K) (s t : QueuePair K) → pair_at x.modules i ≡ Some s → PairBelow r e i s t → EndBelow r e x (record x { modules = set_pair x.modules i t })
  end_set r e i x s t at b =
      record {
        roles = set_mapped role x.modules i s t at b.role_same;
        lists = λ side j less. lists_set r e i s t (pair_at x.modules j) (pair_at (set_pair x.modules i t) j) side j b (set_found x.modules i j s t at) less;
        debts = λ side j less. debts_set r e i s t (pair_at x.modules j) (pair_at (set_pair x.modules i t) j) side j b (set_found x.modules i j s t at) less;
        drv = λ on less. le_same (length x.drv);
      }

  -- what becomes of a message that a head sends down, of any that comes to a head, and of one that goes up
  -- past n modules to a rank below r
  abbrev pub SendsBelow : Sender K → Type 0
  SendsBelow send = (r : ℕ) (e : End) (image : Image K) (m : Msg) → HasFrame image → is_high m.kind ≡ true → Below r image (send e image m)

  abbrev pub ComesBelow : Sender K → Type 0
  ComesBelow head = (r : ℕ) (e : End) (image : Image K) (m : Msg) → HasFrame image → Below r image (head e image m)

  abbrev pub RisesBelow : SenderPast K → Type 0
  RisesBelow up = (r : ℕ) (e : End) (n : ℕ) (image : Image K) (m : Msg) → HasFrame image → (is_high m.kind ≡ false → w.waits Rd e n < r) → Below r image (up e n image m)

  -- what leaves is carried on, one after another
  pub fold_below : (r : ℕ) (P : Side × Msg → Type 0) (on : Image K → Side × Msg → Image K) → ((j : Image K) (out : Side × Msg) → HasFrame j → P out → Below r j (on j out)) → (x : Image K) (outs : OutList) → HasFrame x → Each P outs → Below r x (fold on x outs)
  fold_below r P on each x [] frame all = below_same r x
  fold_below r P on each x (out ∷ outs) frame all =
      let first = each x out frame all.0 in
      below_trans r x (on x out) (fold on (on x out) outs) first (fold_below r P on each (on x out) outs (frame_after r x (on x out) frame first) all.1)
