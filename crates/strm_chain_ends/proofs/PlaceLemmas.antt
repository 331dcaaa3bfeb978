-- The places that are there, and how many of them there are.
use Rattle.std.proofs.Common.{◌⊎◌, inl, inr, ◌≡◌, ◌+◌, ℕ, Bool, true, false, cond, List, [], ◌∷◌, ◌++◌, is_some, refl, ap, suc, zero, arith}
use Rattle.strm_msg.specs.declared.words.End.{End}
use Rattle.strm_msg.specs.declared.words.End.TheVariants.{A, B}
use Rattle.strm_msg.specs.declared.words.Side.{Side}
use Rattle.strm_msg.specs.declared.words.Side.TheVariants.{Rd, Wr}
use Rattle.strm_module.specs.Driver.{is_serviced}
use Rattle.strm_chain_end.specs.Modules.{Identity}
use Rattle.strm_chain_end.specs.Next.{has_queue}
use Rattle.strm_chain_ends.specs.declared.place.Place.{Place}
use Rattle.strm_chain_ends.specs.declared.place.Place.TheVariants as Places
use Rattle.strm_chain_ends.specs.Held.{module_place}
use Rattle.strm_chain_ends.specs.Next.{modules_at, SameWays}
use Rattle.strm_chain_ends.specs.Count.{is_place, places_in, places_at, places_of}
use Rattle.strm_chain_ends.specs.Image.{Image}

-- a place is in a list if it is one of its elements
abbrev pub IsIn : Place → List Place → Type 0
IsIn p [] = ⊥
IsIn p (x ∷ xs) = (p ≡ x) ⊎ IsIn p xs

pub in_left : (p : Place) (xs ys : List Place) → IsIn p xs → IsIn p (xs ++ ys)
in_left p [] ys h = absurd h
in_left p (x ∷ xs) ys (inl e) = inl e
in_left p (x ∷ xs) ys (inr h) = inr (in_left p xs ys h)

pub in_right : (p : Place) (xs ys : List Place) → IsIn p ys → IsIn p (xs ++ ys)
in_right p [] ys h = h
in_right p (x ∷ xs) ys h = inr (in_right p xs ys h)

in_if : (p : Place) (b : Bool) → b ≡ true → IsIn p (cond b (p ∷ []) [])
in_if p true h = inl refl
in_if p false h = cc

-- a queue that a module has is one of the places
in_modules : (side : Side) (e : End) (first k n : ℕ) (ids : List Identity) → has_queue side ids (suc k) ≡ true → n ≡ first + k → IsIn (module_place side e n) (places_in e first ids)
in_modules side e first k n [] h is = cc
in_modules Wr e first zero n (m ∷ rest) h is =
    let same : n ≡ first = omega arith in
    rw same (in_left (Places.Wr e first) (cond (is_some m.wr) (Places.Wr e first ∷ []) []) (cond (is_some m.rd) (Places.Rd e first ∷ []) [] ++ places_in e (first + 1) rest) (in_if (Places.Wr e first) (is_some m.wr) h))
in_modules Rd e first zero n (m ∷ rest) h is =
    let same : n ≡ first = omega arith in
    rw same (in_right (Places.Rd e first) (cond (is_some m.wr) (Places.Wr e first ∷ []) []) (cond (is_some m.rd) (Places.Rd e first ∷ []) [] ++ places_in e (first + 1) rest)
    (in_left (Places.Rd e first) (cond (is_some m.rd) (Places.Rd e first ∷ []) []) (places_in e (first + 1) rest) (in_if (Places.Rd e first) (is_some m.rd) h)))
in_modules side e first (suc k) n (m ∷ rest) h is =
    in_right (module_place side e n) (cond (is_some m.wr) (Places.Wr e first ∷ []) []) (cond (is_some m.rd) (Places.Rd e first ∷ []) [] ++ places_in e (first + 1) rest)
    (in_right (module_place side e n) (cond (is_some m.rd) (Places.Rd e first ∷ []) []) (places_in e (first + 1) rest) (in_modules side e (first + 1) k n rest h (omega arith)))

in_end : {K : Type 0} (image : Image K) (e : End) (side : Side) (i : ℕ) → has_queue side (modules_at image e) i ≡ true → IsIn (module_place side e i) (places_at image e)
in_end image e side zero h = cc
in_end image e side (suc k) h =
    in_right (module_place side e (suc k)) (cond (is_serviced image.driver e) (Places.Drv e ∷ []) []) (places_in e 1 (modules_at image e)) (in_modules side e 1 k (suc k) (modules_at image e) h (omega arith))

in_image : {K : Type 0} (image : Image K) (p : Place) (e : End) → IsIn p (places_at image e) → IsIn p (places_of image)
in_image image p A h = in_left p (places_at image A) (places_at image B) h
in_image image p B h = in_right p (places_at image A) (places_at image B) h

-- a place that is there is one of the places
pub place_in : {K : Type 0} (image : Image K) (p : Place) → is_place image p ≡ true → IsIn p (places_of image)
place_in image (Place.Wr e i) h = in_image image (Places.Wr e i) e (in_end image e Wr i h)
place_in image (Place.Rd e i) h = in_image image (Places.Rd e i) e (in_end image e Rd i h)
place_in image (Place.Drv e) h =
    in_image image (Places.Drv e) e (in_left (Places.Drv e) (cond (is_serviced image.driver e) (Places.Drv e ∷ []) []) (places_in e 1 (modules_at image e)) (in_if (Places.Drv e) (is_serviced image.driver e) h))

-- no message changes which places are there
pub place_same : {K : Type 0} (x y : Image K) (p : Place) → SameWays x y → is_place y p ≡ is_place x p
place_same x y (Place.Wr e i) s = ap (λ ids. has_queue Wr ids i) (s.modules e)
place_same x y (Place.Rd e i) s = ap (λ ids. has_queue Rd ids i) (s.modules e)
place_same x y (Place.Drv e) s = ap (λ d. is_serviced d e) s.driver
