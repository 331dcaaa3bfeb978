-- Where a place may not move, it must not: a low mark is below its high one.
use Rattle.std.proofs.Common.{◌≡◌, ℕ, ◌+◌, ◌-◌, ◌<◌, ◌||◌, not, Bool, true, false, Option, Some, None, List, [], ◌∷◌, take, drop, reverse, refl, sym, ◌∙◌, arith, suc, zero, if◌then◌else◌, option_map, is_some}
use Rattle.std.proofs.lemmas.List.{reverse-append}
use Rattle.std.proofs.lemmas.List.Folds.{list_all-map, list_all-append}
use Rattle.std.proofs.lemmas.Bool.Decides.{nat_tests}
use Rattle.std.specs.List.{list_all}
use Rattle.std.proofs.lemmas.Bool.{and_from, and_parts}
use Rattle.strm_msg.specs.Message.{Msg}
use Rattle.strm_msg.specs.declared.words.End.{End}
use Rattle.strm_msg.specs.declared.words.End.TheVariants.{A, B}
use Rattle.strm_msg.specs.declared.words.Side.{Side}
use Rattle.strm_msg.specs.declared.words.Side.TheVariants.{Rd, Wr}
use Rattle.strm_msg.specs.Marks.{WaterMarks}
use Rattle.strm_module.specs.Kinds.{Meaning}
use Rattle.strm_chain_end.specs.declared.offer.Offer.{Offer}
use Rattle.strm_module.specs.declared.driver.Driver.{Driver}
use Rattle.strm_module.specs.declared.driver.Driver.TheVariants.{Echo, Loop, Line, Wire}
use Rattle.strm_module.specs.Driver.{partner}
use Rattle.strm_chain_end.specs.Pair.{QueuePair}
use Rattle.strm_chain_end.specs.End.{EndState}
use Rattle.strm_chain_end.specs.Modules.{identity_of, is_fit, is_fit_module, are_fit, IsFitEnd}
use Rattle.strm_chain_end.specs.Canput.{Fill, fill_with, fill_on, or_else, first_fill, after_writes, head_fill, driver_fill, above, below, full_in, slack_in}
use Rattle.strm_chain_ends.specs.declared.place.Place.{Place}
use Rattle.strm_chain_ends.specs.Path.{ahead}
use Rattle.strm_chain_ends.specs.Flow.{offer_of, may, may_front, due_front, is_due}
use Rattle.strm_chain_ends.specs.Image.{Image, end_of, count_of}

-- the low mark of a queue is below its high one
abbrev IsFitFill : Option Fill → Type 0
IsFitFill None = Unit {0}
IsFitFill (Some q) = q.marks.lo < q.marks.hi

abbrev fits : {K : Type 0} → QueuePair K → Bool
fits s = is_fit_module (identity_of s.shape)

-- whether the marks of these modules are fit, one by one
abbrev all_fit : {K : Type 0} → List (QueuePair K) → Bool
all_fit modules = list_all fits modules

all-take : {K : Type 0} (n : ℕ) (modules : List (QueuePair K)) → all_fit modules ≡ true → all_fit (take n modules) ≡ true
all-take zero modules h = refl
all-take (suc n) [] h = refl
all-take (suc n) (s ∷ rest) h = and_from (fits s) (all_fit (take n rest)) ((and_parts (fits s) (all_fit rest) h).0) (all-take n rest ((and_parts (fits s) (all_fit rest) h).1))

all-drop : {K : Type 0} (n : ℕ) (modules : List (QueuePair K)) → all_fit modules ≡ true → all_fit (drop n modules) ≡ true
all-drop zero modules h = h
all-drop (suc n) [] h = refl
all-drop (suc n) (s ∷ rest) h = all-drop n rest ((and_parts (fits s) (all_fit rest) h).1)

all-reverse : {K : Type 0} (modules : List (QueuePair K)) → all_fit modules ≡ true → all_fit (reverse modules) ≡ true
all-reverse [] h = refl
all-reverse (s ∷ rest) h =
    let last : all_fit (s ∷ []) ≡ true = and_from (fits s) true ((and_parts (fits s) (all_fit rest) h).0) refl in
    rw (reverse-append (s ∷ []) rest, list_all-append fits (reverse rest) (s ∷ []))
    (and_from (all_fit (reverse rest)) (all_fit (s ∷ [])) (all-reverse rest ((and_parts (fits s) (all_fit rest) h).1)) last)

fit_modules : {K : Type 0} (modules : List (QueuePair K)) → are_fit modules ≡ true → all_fit modules ≡ true
fit_modules {K = K} modules h = sym (list_all-map is_fit_module (λ (s : QueuePair K). identity_of s.shape) modules) ∙ h

fit_with : (marks : Option WaterMarks) (q : List Msg) → is_fit marks ≡ true → IsFitFill (fill_with marks q)
fit_with None q h = tt
fit_with (Some marks) q h = grind (arith, nat_tests)

fit_on : {K : Type 0} (side : Side) (s : QueuePair K) → fits s ≡ true → IsFitFill (fill_on side s)
fit_on Rd s h = fit_with s.shape.rd s.rd ((and_parts (is_fit s.shape.rd) (is_fit s.shape.wr) h).0)
fit_on Wr s h = fit_with s.shape.wr s.wr ((and_parts (is_fit s.shape.rd) (is_fit s.shape.wr) h).1)

fit_or : (x y : Option Fill) → IsFitFill x → IsFitFill y → IsFitFill (or_else x y)
fit_or None y hx hy = hy
fit_or (Some x) y hx hy = hx

fit_first : {K : Type 0} (side : Side) (modules : List (QueuePair K)) (after : Option Fill) → all_fit modules ≡ true → IsFitFill after → IsFitFill (first_fill side modules after)
fit_first side [] after h ha = ha
fit_first side (s ∷ rest) after h ha =
    fit_or (fill_on side s) (first_fill side rest after) (fit_on side s ((and_parts (fits s) (all_fit rest) h).0)) (fit_first side rest after ((and_parts (fits s) (all_fit rest) h).1) ha)

fit_head : (is_open : Bool) (q : Fill) → q.marks.lo < q.marks.hi → IsFitFill (if is_open then Some q else None)
fit_head true q h = h
fit_head false q h = tt

fit_after_writes : (d : Driver) (q : Fill) → q.marks.lo < q.marks.hi → IsFitFill (after_writes d q)
fit_after_writes Echo q h = h
fit_after_writes Loop q h = h
fit_after_writes Wire q h = h
fit_after_writes Line q h = tt

fit_above : {K : Type 0} (e : EndState K) (i : ℕ) → IsFitEnd e → IsFitFill (above e i)
fit_above e i f =
    fit_first Rd (reverse (take (i - 1) e.modules)) (head_fill e)
    (all-reverse (take (i - 1) e.modules) (all-take (i - 1) e.modules (fit_modules e.modules f.modules)))
    (fit_head e.is_open (record { marks = e.head_marks; messages = e.head }) f.head)

fit_below : {K : Type 0} (d : Driver) (e : EndState K) (i : ℕ) → IsFitEnd e → IsFitFill (below d e i)
fit_below d e i f =
    fit_first Wr (drop i e.modules) (driver_fill d e)
    (all-drop i e.modules (fit_modules e.modules f.modules))
    (fit_after_writes d (record { marks = e.drv_marks; messages = e.drv }) f.drv)

fit_end : {K : Type 0} (image : Image K) → IsFitEnd image.a → IsFitEnd image.b → (e : End) → IsFitEnd (end_of image e)
fit_end image a b A = a
fit_end image a b B = b

fit_ahead : {K : Type 0} (image : Image K) → IsFitEnd image.a → IsFitEnd image.b → (place : Place) → IsFitFill (ahead image place)
fit_ahead image a b (Place.Wr e i) = fit_below image.driver (end_of image e) i (fit_end image a b e)
fit_ahead image a b (Place.Drv e) =
    let p = partner image.driver e in fit_above (end_of image p) (count_of image p + 1) (fit_end image a b p)
fit_ahead image a b (Place.Rd e i) = fit_above (end_of image e) i (fit_end image a b e)

full_not_slack : (o : Option Fill) (b : ℕ) → IsFitFill o → full_in o b ≡ true → slack_in o b ≡ false
full_not_slack None b f h = cc
full_not_slack (Some q) b f h = grind (arith, nat_tests)

or_rest : (h f s : Bool) → (f ≡ true → s ≡ false) → (h || not f) ≡ false → (h || s) ≡ false
or_rest true f s i e = e
or_rest false true s i e = i refl
or_rest false false s i e = cc

due_stays : {K : Type 0} (image : Image K) (place : Place) (front : Option Offer) → IsFitFill (ahead image place) → may_front image place front ≡ false → due_front image place front ≡ false
due_stays image place None f h = refl
due_stays image place (Some m) f h =
    or_rest m.is_high (full_in (ahead image place) m.band) (slack_in (ahead image place) m.band) (full_not_slack (ahead image place) m.band f) h

-- a place that may not move must not
pub rests_if_still : {K : Type 0} (means : Meaning K) (image : Image K) (place : Place) → IsFitEnd image.a → IsFitEnd image.b → may means image place ≡ false → is_due means image place ≡ false
rests_if_still means image place a b h = due_stays image place (offer_of means image place) (fit_ahead image a b place) h

-- what is told of a message, if there is one
pub told_of : {X : Type 0} (o : Option X) (b : Bool) → option_map (λ _. b) o ≡ Some false → b ≡ false
told_of None b h = cc
told_of (Some x) b h = cc

pub told_there : {X : Type 0} (o : Option X) (b told : Bool) → option_map (λ _. b) o ≡ Some told → is_some o ≡ true
told_there None b told h = cc
told_there (Some x) b told h = refl

pub untold : {X : Type 0} (o : Option X) (b : Bool) → option_map (λ _. b) o ≡ None → is_some o ≡ false
untold None b h = refl
untold (Some x) b h = cc
