-- Small streams, and which pushes on them would close a circle.
use Rattle.std.proofs.Common.{◌≡◌, ◌==◌, ℕ, Bool, true, false, cond, None, List, [], ◌∷◌, map, refl}
use Rattle.strm_msg.specs.declared.words.End.TheVariants.{A}
use Rattle.strm_msg.specs.Marks.{WaterMarks}
use Rattle.strm_module.specs.Kinds.{Meaning, serving, passed_on, is_up}
use Rattle.strm_module.specs.Shape.{new_shape}
use Rattle.strm_module.specs.declared.driver.Driver.{Driver}
use Rattle.strm_module.specs.declared.driver.Driver.TheVariants.{Echo, Loop, Line, Wire}
use Rattle.strm_module.specs.declared.shape.Shape.{Shape}
use Rattle.strm_chain_end.specs.Pair.{QueuePair, fresh_pair}
use Rattle.strm_chain_ends.specs.Image.{Image, fresh}
use Rattle.strm_chain_ends.specs.Order.{goes_round}

-- kinds that answer nothing, 0, what comes up, 1, and what goes down, 2
abbrev answering : Meaning ℕ
answering = serving (λ kind side m. passed_on kind side m) (λ kind side. kind == cond (is_up side) 1 2)

abbrev shape_of : ℕ → Shape ℕ
shape_of kind = new_shape 1 (109 ∷ []) None None kind

abbrev standing : List ℕ → List (QueuePair ℕ)
standing kinds = map (λ kind. fresh_pair (shape_of kind)) kinds

abbrev marks : WaterMarks
marks = record { hi = 16; lo = 4 }

-- a stream with modules of these kinds on both ends, topmost first
abbrev over : Driver → List ℕ → List ℕ → Image ℕ
over d a b =
    let new = fresh d marks marks in
    record new { a = record new.a { modules = standing a }; b = record new.b { modules = standing b } }

-- whether messages could go round with another of a kind at end A
abbrev closes : Driver → List ℕ → List ℕ → ℕ → Bool
closes d a b kind = goes_round answering (over d a b) A (shape_of kind)

echo_is_answered : closes Echo [] [] 1 ≡ true
echo_is_answered = refl

echo_takes_what_answers_nothing_that_comes_up : closes Echo [] [] 2 ≡ false
echo_takes_what_answers_nothing_that_comes_up = refl

answers_above_a_tee : closes Line (0 ∷ (2 ∷ [])) [] 1 ≡ true
answers_above_a_tee = refl

tee_above_what_answers : closes Line (1 ∷ []) [] 2 ≡ false
tee_above_what_answers = refl

answers_over_a_line : closes Line (1 ∷ []) [] 1 ≡ false
answers_over_a_line = refl

answers_over_a_wire : closes Wire [] [] 1 ≡ false
answers_over_a_wire = refl

-- on a loop what the other end answers counts, and not what goes down there
answers_at_both_ends : closes Loop [] (0 ∷ (1 ∷ [])) 1 ≡ true
answers_at_both_ends = refl

answers_at_one_end : closes Loop (1 ∷ []) (2 ∷ []) 1 ≡ false
answers_at_one_end = refl
