-- What keeps messages from going round: the modules that answer stand as they did, a module is pushed that
-- closes no circle, or modules are taken out.
use Rattle.std.proofs.Common.{◌≡◌, ◌∙◌, ◌&&◌, ◌||◌, ℕ, Bool, true, false, List, [], ◌∷◌, drop, map, refl, sym, ap, subst}
use Rattle.std.specs.List.{list_any}
use Rattle.std.proofs.lemmas.Bool.{or_parts, or_from}
use Rattle.strm_msg.specs.declared.words.End.{End}
use Rattle.strm_msg.specs.declared.words.End.TheVariants.{A, B}
use Rattle.strm_msg.specs.declared.words.Side.TheVariants.{Rd, Wr}
use Rattle.strm_msg.specs.Marks.{WaterMarks}
use Rattle.strm_module.specs.Kinds.{Meaning, AnswersStay}
use Rattle.strm_module.specs.declared.driver.Driver.{Driver}
use Rattle.strm_module.specs.declared.driver.Driver.TheVariants.{Echo}
use Rattle.strm_module.specs.declared.shape.Shape.{Shape}
use Rattle.strm_chain_end.specs.Pair.{QueuePair, expired_pair}
use Rattle.strm_chain_end.specs.End.{EndState, expired_end}
use Rattle.strm_chain_end.specs.Change.{inserted, removed, closed}
use Rattle.strm_chain_end.specs.Order.{some_answers, stands_over}
use Rattle.strm_chain_ends.specs.Image.{Image, end_of, with_end, fresh}
use Rattle.strm_chain_ends.specs.Order.{comes_back, goes_round, IsOrdered}

-- ---- tests
-- fewer hold
less_and : (a b x y : Bool) → (a ≡ false → x ≡ false) → (b ≡ false → y ≡ false) → (a && b) ≡ false → (x && y) ≡ false
less_and true b true y p q h = q h
less_and true b false y p q h = refl
less_and false b true y p q h = let no = p refl in cc
less_and false b false y p q h = refl

-- what holds of one of two and of a third does of neither
either_and : (one two third : Bool) → (one && third) ≡ false → (two && third) ≡ false → ((one || two) && third) ≡ false
either_and true two third p q = p
either_and false two third p q = q

and_either : (one two third : Bool) → (one && third) ≡ false → (third && two) ≡ false → (third && (one || two)) ≡ false
and_either true two true p q = p
and_either false two true p q = q
and_either one two false p q = refl

first_of_or : (one a b : Bool) → (one && (a || b)) ≡ false → (one && a) ≡ false
first_of_or true a b h = (or_parts a b h).0
first_of_or false a b h = refl

next_of_or : (one a b : Bool) → (one && (a || b)) ≡ false → (one && b) ≡ false
next_of_or true a b h = (or_parts a b h).1
next_of_or false a b h = refl

-- ---- modules by the sides on which they answer
module _ {K : Type 0} (means : Meaning K) where
  abbrev answers_up : K → Bool
  answers_up kind = means.answers kind Rd

  abbrev answers_down : K → Bool
  answers_down kind = means.answers kind Wr

  -- on which sides a module answers
  abbrev pub ways : QueuePair K → Bool × Bool
  ways s = (means.answers s.shape.kind Rd, means.answers s.shape.kind Wr)

  abbrev pub ways_of : List (QueuePair K) → List (Bool × Bool)
  ways_of modules = map ways modules

  abbrev over_by : List (Bool × Bool) → Bool
  over_by [] = false
  over_by (w ∷ below) = (w.0 && list_any (λ x. x.1) below) || over_by below

  up_by : (xs : List (QueuePair K)) → some_answers means Rd xs ≡ list_any (λ (w : Bool × Bool). w.0) (ways_of xs)
  up_by [] = refl
  up_by (s ∷ xs) = ap (λ b. means.answers s.shape.kind Rd || b) (up_by xs)

  down_by : (xs : List (QueuePair K)) → some_answers means Wr xs ≡ list_any (λ (w : Bool × Bool). w.1) (ways_of xs)
  down_by [] = refl
  down_by (s ∷ xs) = ap (λ b. means.answers s.shape.kind Wr || b) (down_by xs)

  over_is : (xs : List (QueuePair K)) → stands_over answers_up answers_down xs ≡ over_by (ways_of xs)
  over_is [] = refl
  over_is (s ∷ xs) =
      ap (λ b. (means.answers s.shape.kind Rd && b) || stands_over answers_up answers_down xs) (down_by xs)
      ∙ ap (λ b. (means.answers s.shape.kind Rd && list_any (λ (w : Bool × Bool). w.1) (ways_of xs)) || b) (over_is xs)

  up_same : (xs ys : List (QueuePair K)) → ways_of ys ≡ ways_of xs → some_answers means Rd ys ≡ some_answers means Rd xs
  up_same xs ys same = up_by ys ∙ ap (list_any (λ (w : Bool × Bool). w.0)) same ∙ sym (up_by xs)

  over_same : (xs ys : List (QueuePair K)) → ways_of ys ≡ ways_of xs → stands_over answers_up answers_down ys ≡ stands_over answers_up answers_down xs
  over_same xs ys same = over_is ys ∙ ap over_by same ∙ sym (over_is xs)

  -- over the same driver, modules that answer as those that stood there keep the order
  pub ordered_by : (old new : Image K) → new.driver ≡ old.driver → ways_of new.a.modules ≡ ways_of old.a.modules → ways_of new.b.modules ≡ ways_of old.b.modules → IsOrdered means old → IsOrdered means new
  ordered_by old new driver a b ordered =
      let up_a = up_same old.a.modules new.a.modules a in
      let up_b = up_same old.b.modules new.b.modules b in
      record {
        on_a = over_same old.a.modules new.a.modules a ∙ ordered.on_a;
        on_b = over_same old.b.modules new.b.modules b ∙ ordered.on_b;
        echo = λ is. up_a ∙ ordered.echo (sym driver ∙ is);
        loops = λ is. ap (λ x. x && some_answers means Rd new.b.modules) up_a ∙ ap (λ x. some_answers means Rd old.a.modules && x) up_b ∙ ordered.loops (sym driver ∙ is);
      }

  -- and so does a change of one end that leaves its modules, or lets them answer as before
  pub end_ordered : (image : Image K) (e : End) (new : EndState K) → ways_of new.modules ≡ ways_of (end_of image e).modules → IsOrdered means image → IsOrdered means (with_end image e new)
  end_ordered image A new same = ordered_by image (with_end image A new) refl same refl
  end_ordered image B new same = ordered_by image (with_end image B new) refl refl same

  -- ---- a push
  and_true : (b : Bool) → (b && true) ≡ false → b ≡ false
  and_true true h = h
  and_true false h = refl

  -- over an echo only a module that does not answer what comes up closes no circle
  echo_none : (up : Bool) (image : Image K) (e : End) → image.driver ≡ Echo → (up && comes_back means image.driver image e) ≡ false → up ≡ false
  echo_none up image e is back = and_true up (subst (λ d. (up && comes_back means d image e) ≡ false) is back)

  pub pushed_ordered : (image : Image K) (e : End) (shape : Shape K) → goes_round means image e shape ≡ false → IsOrdered means image → IsOrdered means (with_end image e (inserted (end_of image e) shape))
  pushed_ordered image A shape none ordered =
      let up = means.answers shape.kind Rd in
      let below = some_answers means Wr image.a.modules in
      let back : (up && comes_back means image.driver image A) ≡ false = first_of_or up (comes_back means image.driver image A) below none in
      record {
        on_a = or_from (up && below) (stands_over answers_up answers_down image.a.modules) (next_of_or up (comes_back means image.driver image A) below none) ordered.on_a;
        on_b = ordered.on_b;
        echo = λ is. or_from up (some_answers means Rd image.a.modules) (echo_none up image A is back) (ordered.echo is);
        loops = λ is. either_and up (some_answers means Rd image.a.modules) (some_answers means Rd image.b.modules) (subst (λ d. (up && comes_back means d image A) ≡ false) is back) (ordered.loops is);
      }
  pushed_ordered image B shape none ordered =
      let up = means.answers shape.kind Rd in
      let below = some_answers means Wr image.b.modules in
      let back : (up && comes_back means image.driver image B) ≡ false = first_of_or up (comes_back means image.driver image B) below none in
      record {
        on_a = ordered.on_a;
        on_b = or_from (up && below) (stands_over answers_up answers_down image.b.modules) (next_of_or up (comes_back means image.driver image B) below none) ordered.on_b;
        echo = ordered.echo;
        loops = λ is. and_either up (some_answers means Rd image.b.modules) (some_answers means Rd image.a.modules) (subst (λ d. (up && comes_back means d image B) ≡ false) is back) (ordered.loops is);
      }

  -- ---- modules are taken out
  up_less : (xs : List (QueuePair K)) → some_answers means Rd xs ≡ false → some_answers means Rd (drop 1 xs) ≡ false
  up_less [] h = h
  up_less (s ∷ xs) h = (or_parts (means.answers s.shape.kind Rd) (some_answers means Rd xs) h).1

  over_less : (xs : List (QueuePair K)) → stands_over answers_up answers_down xs ≡ false → stands_over answers_up answers_down (drop 1 xs) ≡ false
  over_less [] h = h
  over_less (s ∷ xs) h = (or_parts (answers_up s.shape.kind && some_answers means Wr xs) (stands_over answers_up answers_down xs) h).1

  stay : (b : Bool) → b ≡ false → b ≡ false
  stay b h = h

  pub popped_ordered : (image : Image K) (e : End) → IsOrdered means image → IsOrdered means (with_end image e (removed (end_of image e)))
  popped_ordered image A ordered =
      record {
        on_a = over_less image.a.modules ordered.on_a;
        on_b = ordered.on_b;
        echo = λ is. up_less image.a.modules (ordered.echo is);
        loops = λ is. less_and _ _ _ _ (up_less image.a.modules) (stay (some_answers means Rd image.b.modules)) (ordered.loops is);
      }
  popped_ordered image B ordered =
      record {
        on_a = ordered.on_a;
        on_b = over_less image.b.modules ordered.on_b;
        echo = ordered.echo;
        loops = λ is. less_and _ _ _ _ (stay (some_answers means Rd image.a.modules)) (up_less image.b.modules) (ordered.loops is);
      }

  and_none : (b : Bool) → (b && false) ≡ false
  and_none true = refl
  and_none false = refl

  pub closed_ordered : (image : Image K) (e : End) → IsOrdered means image → IsOrdered means (with_end image e (closed (end_of image e)))
  closed_ordered image A ordered = record { on_a = refl; on_b = ordered.on_b; echo = λ is. refl; loops = λ is. refl }
  closed_ordered image B ordered =
      record { on_a = ordered.on_a; on_b = refl; echo = ordered.echo; loops = λ is. and_none (some_answers means Rd image.a.modules) }

  -- ---- ticks pass
  expired_ways : AnswersStay means → (ticks : ℕ) (xs : List (QueuePair K)) → ways_of (map (λ s. expired_pair means s ticks) xs) ≡ ways_of xs
  expired_ways stay ticks [] = refl
  expired_ways stay ticks (s ∷ xs) =
      let new = means.expire s.shape.kind ticks in
      let rest = ways_of (map (λ s. expired_pair means s ticks) xs) in
      let down = means.answers s.shape.kind Wr in
      ap (λ (b : Bool). (b, means.answers new Wr) ∷ rest) (stay.expire s.shape.kind ticks Rd)
      ∙ ap (λ (b : Bool). (means.answers s.shape.kind Rd, b) ∷ rest) (stay.expire s.shape.kind ticks Wr)
      ∙ ap (λ (ws : List (Bool × Bool)). (means.answers s.shape.kind Rd, down) ∷ ws) (expired_ways stay ticks xs)

  pub expired_ordered : AnswersStay means → (image : Image K) (e : End) (ticks : ℕ) → IsOrdered means image → IsOrdered means (with_end image e (expired_end means (end_of image e) ticks))
  expired_ordered stay image e ticks =
      end_ordered image e (expired_end means (end_of image e) ticks) (expired_ways stay ticks (end_of image e).modules)

  -- a new stream has no modules
  pub fresh_ordered : (d : Driver) (head drv : WaterMarks) → IsOrdered means (fresh d head drv)
  fresh_ordered d head drv = record { on_a = refl; on_b = refl; echo = λ is. refl; loops = λ is. refl }
