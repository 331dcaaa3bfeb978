-- Ticks pass for the modules of an end, one after the other: no queue changes.
use Rattle.std.proofs.Common.{◌≡◌, ◌+◌, ◌∙◌, ℕ, Option, Some, None, List, [], ◌∷◌, length, map, slice_get, slice_set, refl, sym, ap, arith, suc, zero}
use Rattle.strm_msg.specs.declared.words.End.{End}
use Rattle.strm_msg.specs.declared.words.End.TheVariants.{A, B}
use Rattle.strm_msg.specs.declared.words.Side.{Side}
use Rattle.strm_msg.specs.declared.words.Side.TheVariants.{Rd, Wr}
use Rattle.strm_module.specs.Kinds.{Meaning}
use Rattle.strm_module.specs.Module.{expired}
use Rattle.strm_chain_end.specs.Pair.{QueuePair, expired_pair}
use Rattle.strm_chain_end.specs.Modules.{identity_of, identities_of}
use Rattle.strm_chain_end.specs.End.{EndState, pair_at, found_expired, expired_at, expired_end}
use Rattle.strm_chain_ends.specs.declared.place.NextQueue.TheVariants.{Of}
use Rattle.strm_chain_ends.specs.declared.place.Place.TheVariants as Places
use Rattle.strm_chain_ends.specs.Held.{DiffersIn, module_place, held_by}
use Rattle.strm_chain_ends.specs.Image.{Image, end_of, with_end}
use Rattle.strm_chain_ends.specs.Same.{SameModules}
use Rattle.strm_chain_ends.proofs.FrameLemmas.{QueueAlone, queue_stays, queue_changes, set_alone, pair_stays, with_end_keeps}

-- ---- the first of a list are mapped, and the others not yet
abbrev pub first_mapped : {X : Type 0} → (X → X) → ℕ → List X → List X
first_mapped f zero xs = xs
first_mapped f (suc n) [] = []
first_mapped f (suc n) (x ∷ xs) = f x ∷ first_mapped f n xs

all_mapped : {X : Type 0} (f : X → X) (xs : List X) → first_mapped f (length xs) xs ≡ map f xs
all_mapped f [] = refl
all_mapped f (x ∷ xs) = ap (λ ys. f x ∷ ys) (all_mapped f xs)

mapped_there : {X : Type 0} (f : X → X) (xs : List X) (n : ℕ) → slice_get (first_mapped f n xs) n ≡ slice_get xs n
mapped_there f xs zero = refl
mapped_there f [] (suc n) = refl
mapped_there f (x ∷ xs) (suc n) = mapped_there f xs n

mapped_next : {X : Type 0} (f : X → X) (xs : List X) (n : ℕ) (x : X) → slice_get xs n ≡ Some x → slice_set (first_mapped f n xs) n (f x) ≡ first_mapped f (suc n) xs
mapped_next f [] n x at = cc
mapped_next f (y ∷ xs) zero x at =
    let same : y ≡ x = cc in
    ap (λ z. f z ∷ xs) (sym same)
mapped_next f (y ∷ xs) (suc n) x at = ap (λ ys. f y ∷ ys) (mapped_next f xs n x at)

-- past the last there is nothing to map
mapped_past : {X : Type 0} (f : X → X) (xs : List X) (n : ℕ) → slice_get xs n ≡ None → first_mapped f n xs ≡ first_mapped f (suc n) xs
mapped_past f [] zero at = refl
mapped_past f [] (suc n) at = refl
mapped_past f (y ∷ xs) zero at = cc
mapped_past f (y ∷ xs) (suc n) at = ap (λ ys. f y ∷ ys) (mapped_past f xs n at)

-- for kinds of any meaning
module _ {K : Type 0} (means : Meaning K) where
  -- the ticks have passed for the first modules of an end
  abbrev pub expired_first : EndState K → ℕ → ℕ → EndState K
  expired_first e n ticks = record e { modules = first_mapped (λ s. expired_pair means s ticks) n e.modules }

  -- and they pass for the next
  expired_next : (e : EndState K) (n ticks : ℕ) → expired_at means (expired_first e n ticks) (suc n) ticks ≡ expired_first e (suc n) ticks
  expired_next e n ticks =
      let f = λ (s : QueuePair K). expired_pair means s ticks in
      let first = expired_first e n ticks in
      let there = ap (λ o. found_expired means first (suc n) o ticks) (mapped_there f e.modules n) in
      elim (slice_get e.modules n) as (λ o. slice_get e.modules n ≡ o → expired_at means first (suc n) ticks ≡ expired_first e (suc n) ticks) [
        | None ↦ λ at. there ∙ ap (λ o. found_expired means first (suc n) o ticks) at ∙ ap (λ ms. record e { modules = ms }) (mapped_past f e.modules n at)
        | Some s ↦ λ at. there ∙ ap (λ o. found_expired means first (suc n) o ticks) at ∙ ap (λ ms. record e { modules = ms }) (mapped_next f e.modules n s at)
      ] refl

  -- the same of the ends of a stream
  next_there : (image now new : Image K) (e : End) (n ticks : ℕ) → now ≡ with_end image e (expired_first (end_of image e) n ticks) → new ≡ with_end now e (expired_at means (end_of now e) (suc n) ticks) → new ≡ with_end image e (expired_first (end_of image e) (suc n) ticks)
  next_there image now new A n ticks was is =
      is ∙ ap (λ (i : Image K). with_end i A (expired_at means (end_of i A) (suc n) ticks)) was ∙ ap (λ s. with_end image A s) (expired_next image.a n ticks)
  next_there image now new B n ticks was is =
      is ∙ ap (λ (i : Image K). with_end i B (expired_at means (end_of i B) (suc n) ticks)) was ∙ ap (λ s. with_end image B s) (expired_next image.b n ticks)

  pub ticked_next : (image now new : Image K) (e : End) (n i ticks : ℕ) → i ≡ n + 1 → now ≡ with_end image e (expired_first (end_of image e) n ticks) → new ≡ with_end now e (expired_at means (end_of now e) i ticks) → new ≡ with_end image e (expired_first (end_of image e) (n + 1) ticks)
  ticked_next image now new e n i ticks at was is =
      let one : n + 1 ≡ suc n = omega arith in
      let after : new ≡ with_end now e (expired_at means (end_of now e) (suc n) ticks) = is ∙ ap (λ k. with_end now e (expired_at means (end_of now e) k ticks)) (at ∙ one) in
      next_there image now new e n ticks was after ∙ ap (λ k. with_end image e (expired_first (end_of image e) k ticks)) (sym one)

  pub ticked_all : (image : Image K) (e : End) (n ticks : ℕ) → n ≡ length (end_of image e).modules → with_end image e (expired_first (end_of image e) n ticks) ≡ with_end image e (expired_end means (end_of image e) ticks)
  ticked_all image e n ticks all =
      let s = end_of image e in
      ap (λ k. with_end image e (expired_first s k ticks)) all ∙ ap (λ ms. with_end image e (record s { modules = ms })) (all_mapped (λ p. expired_pair means p ticks) s.modules)

  -- ---- the same modules stand there
  expired_identities : (ticks : ℕ) (xs : List (QueuePair K)) → identities_of (map (λ s. expired_pair means s ticks) xs) ≡ identities_of xs
  expired_identities ticks [] = refl
  expired_identities ticks (s ∷ xs) = ap (λ is. identity_of s.shape ∷ is) (expired_identities ticks xs)

  pub ticked_keeps : (image : Image K) (e : End) (ticks : ℕ) → SameModules image (with_end image e (expired_end means (end_of image e) ticks))
  ticked_keeps image e ticks =
      let s = end_of image e in
      with_end_keeps image e (expired_end means s ticks)
      (record {
        is_open = refl;
        drv_marks = refl;
        modules = expired_identities ticks s.modules;
        ids = record { next = refl; pending = refl; kept = λ none. refl; asked = refl; answer = λ none. refl };
      })

  -- ---- kinds that ask for no ticks stay as they are
  module _ (none : (kind : K) (ticks : ℕ) → means.expire kind ticks ≡ kind) where
    same_modules : (ticks : ℕ) (xs : List (QueuePair K)) → map (λ s. expired_pair means s ticks) xs ≡ xs
    same_modules ticks [] = refl
    same_modules ticks (s ∷ xs) =
        ap (λ kind. record s { shape = record s.shape { kind = kind } } ∷ map (λ p. expired_pair means p ticks) xs) (none s.shape.kind ticks)
        ∙ ap (λ ys. s ∷ ys) (same_modules ticks xs)

    pub ticks_change_nothing : (image : Image K) (e : End) (ticks : ℕ) → with_end image e (expired_end means (end_of image e) ticks) ≡ image
    ticks_change_nothing image A ticks = ap (λ ms. record image { a = record image.a { modules = ms } }) (same_modules ticks image.a.modules)
    ticks_change_nothing image B ticks = ap (λ ms. record image { b = record image.b { modules = ms } }) (same_modules ticks image.b.modules)

  -- ---- no queue changes
  found_alone : (e : EndState K) (i : ℕ) (o : Option (QueuePair K)) (side : Side) (ticks : ℕ) → pair_at e.modules i ≡ o → QueueAlone e (found_expired means e i o ticks) i side
  found_alone e i None side ticks at = queue_stays e i side
  found_alone e i (Some s) side ticks at =
      set_alone e i side s (expired_pair means s ticks) at (pair_stays s (expired means s.shape ticks) side)

  pub expired_differs : (image new : Image K) (e : End) (i : ℕ) (side : Side) (ticks : ℕ) → SameModules image new → new ≡ with_end image e (expired_at means (end_of image e) i ticks) → DiffersIn image new (Of (module_place side e i))
  expired_differs image new e i side ticks same is =
      let s = end_of image e in
      queue_changes image e (expired_at means s i ticks) i side new same is (found_alone s i (pair_at s.modules i) side ticks refl)

  -- of two queues neither is the one that differs
  pub expired_held : (image new : Image K) (e : End) (i ticks : ℕ) → SameModules image new → new ≡ with_end image e (expired_at means (end_of image e) i ticks) → held_by new (Of (Places.Wr e i)) ≡ held_by image (Of (Places.Wr e i))
  expired_held image new e i ticks same is =
      (expired_differs image new e i Rd ticks same is).others (Of (Places.Wr e i)) (λ h. cc)
