-- Orders and tallies, computed: who goes next of three that take one step each, the orders of a process that
-- awaits a feed, and what four runs gave.
use Rattle.std.proofs.Common.{◌≡◌, ℕ, ◌%◌, Bool, true, false, List, [], ◌∷◌, Some, None, codes, refl}
use Rattle.rand_pcg.specs.Pcg.{pcg32}
use Rattle.strm_script_orders.specs.declared.listed.Choice.{Choice}
use Rattle.strm_script_orders.specs.Choices.{successor}
use Rattle.strm_script_orders.specs.Counting.{orders_of}
use Rattle.strm_script_orders.specs.Lanes.{LaneValue, goers, order_text, steps_left}
use Rattle.strm_script_orders.specs.Drawn.{generator_of}
use Rattle.strm_script_orders.specs.Tally.{GivenValue, Run, tally_of}
use Rattle.strm_script_orders.specs.Difference.{difference, lines_of}

-- ---- orders

-- the first two choices that a seed draws, of three and then of two
abbrev choices : ℕ → List ℕ
choices seed =
    (pcg32 (generator_of seed)).0 % 3 ∷ (pcg32 (pcg32 (generator_of seed)).1).0 % 2 ∷ []

third_then_second : choices 0 ≡ 2 ∷ 1 ∷ []
third_then_second = refl

second_then_first : choices 1 ≡ 1 ∷ 0 ∷ []
second_then_first = refl

first_then_third : choices 2 ≡ 0 ∷ 1 ∷ []
first_then_third = refl

third_then_first : choices 3 ≡ 2 ∷ 0 ∷ []
third_then_first = refl

-- the next choices in lexicographic order
abbrev choice : ℕ → ℕ → Choice
choice one many = record { one = one; many = many }

the_second_goes_first : successor (choice 0 2 ∷ choice 1 2 ∷ choice 0 1 ∷ []) ≡ Some (choice 1 2 ∷ [])
the_second_goes_first = refl

nobody_else_goes : successor (choice 1 2 ∷ choice 0 1 ∷ []) ≡ None
nobody_else_goes = refl

-- a process that awaits the messages of a feed before its second call, and that feed
abbrev lanes : List LaneValue
lanes =
    record { name = codes "p"; feeds = None; steps = 2; taken = 0; awaits = record { call = 1; stream = 3 } ∷ [] }
    ∷ record { name = codes "n"; feeds = Some 3; steps = 1; taken = 0; awaits = [] }
    ∷ []

two_orders : orders_of lanes ≡ 2
unfolding orders_of steps_left goers
two_orders = refl

their_spelling : order_text lanes (0 ∷ 0 ∷ 0 ∷ []) ≡ codes "p,feed:n,p"
unfolding goers
their_spelling = refl

-- ---- tallies

abbrev whole : List ℕ
whole = codes "stream s\nopen a\nstream t\np close t:a : 0\nclosed a\n"

abbrev other : List ℕ
other = codes "stream s\nopen a\nstream t\nopen a\n"

abbrev beginning : List ℕ
beginning = codes "stream s\n"

abbrev run : List ℕ → List ℕ → Bool → Run
run label text is_unmet = record { label = label; text = text; is_unmet = is_unmet }

abbrev given : List ℕ → List ℕ → ℕ → GivenValue
given label text plays = record { label = label; text = text; plays = plays }

-- four runs, of which the third gives what the first gave
four_runs : tally_of (run (codes "0") whole false ∷ run (codes "1") other true ∷ run (codes "2") whole true ∷ run (codes "3") beginning false ∷ []) ≡ record { orders = 4; kept = given (codes "0") whole 2 ∷ given (codes "1") other 1 ∷ given (codes "3") beginning 1 ∷ []; others = 0; unmet = 2; first_unmet = Some (codes "1") }
unfolding tally_of
four_runs = refl

a_line_of_the_second_stream : difference [] (lines_of whole) (lines_of other) ≡ (codes "t", codes "open a")
a_line_of_the_second_stream = refl

a_text_that_ends : difference [] (lines_of whole) (lines_of beginning) ≡ (codes "s", [])
a_text_that_ends = refl

a_text_that_goes_on : difference [] (lines_of beginning) (lines_of whole) ≡ (codes "s", codes "open a")
a_text_that_goes_on = refl
