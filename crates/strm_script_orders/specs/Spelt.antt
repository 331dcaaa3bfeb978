-- Orders that are spelt, word by word.
use Rattle.std.specs.Prelude.{ℕ, ◌+◌, nat_eq, List, [], ◌∷◌, ◌++◌, length, slice_get, Option, Some, None, Result, Ok, Err, if◌then◌else◌}
use Rattle.std.specs.List.{position_from, slice_split}
use Rattle.std.specs.Str.{bytes_eq}
use Rattle.strm_script_orders.specs.declared.fault.OrderCause.{OrderCause}
use Rattle.strm_script_orders.specs.declared.fault.OrderCause.TheVariants.{Unknown, NoneLeft, Waits, Ended}
use Rattle.strm_script_orders.specs.declared.fault.OrderFault.{OrderFault}
use Rattle.strm_script_orders.specs.declared.listed.Choice.{Choice}
use Rattle.strm_script_orders.specs.Counting.{after}
use Rattle.strm_script_orders.specs.Lanes.{LaneValue, goers, has_left, word_of}

-- the words of a text: what stands between commas; an empty text has none
abbrev pub words_in : List ℕ → List (List ℕ)
words_in [] = []
words_in (byte ∷ bytes) = slice_split (λ b. nat_eq b 44) (byte ∷ bytes)

-- ---- one word

-- the number of the one that a word names
abbrev pub named : List LaneValue → List ℕ → Option ℕ
named lanes word = position_from (λ lane. bytes_eq (word_of lane) word) 0 lanes

-- its number among those that may go
abbrev pub rank_of : List LaneValue → ℕ → Option ℕ
rank_of lanes number = position_from (λ other. nat_eq other number) 0 (goers lanes)

-- why the one of a number may not go
abbrev pub stuck_cause : Option LaneValue → OrderCause
stuck_cause None = Unknown
stuck_cause (Some lane) = if has_left lane then Waits else NoneLeft

abbrev pub choice_at : List LaneValue → ℕ → Option ℕ → Result Choice OrderCause
choice_at lanes number None = Err (stuck_cause (slice_get lanes number))
choice_at lanes number (Some one) = Ok (record { one = one; many = length (goers lanes) })

abbrev pub choice_named : List LaneValue → Option ℕ → Result Choice OrderCause
choice_named lanes None = Err Unknown
choice_named lanes (Some number) = choice_at lanes number (rank_of lanes number)

-- the choice by which the one goes that a word names
abbrev pub choice_by : List LaneValue → List ℕ → Result Choice OrderCause
choice_by lanes word = choice_named lanes (named lanes word)

-- ---- all words

-- the choice of a step of this number
abbrev pub choice_of_step : ℕ → Result Choice OrderCause → Result Choice OrderFault
choice_of_step step (Ok choice) = Ok choice
choice_of_step step (Err cause) = Err (record { step = step; cause = cause })

-- choices behind others
abbrev pub behind : List Choice → Result (List Choice) OrderFault → Result (List Choice) OrderFault
behind choices (Ok others) = Ok (choices ++ others)
behind choices (Err fault) = Err fault

-- a choice, and what follows it
abbrev pub followed : Result Choice OrderFault → (Choice → Result (List Choice) OrderFault) → Result (List Choice) OrderFault
followed (Ok choice) rest = behind (choice ∷ []) (rest choice)
followed (Err fault) rest = Err fault

-- the choices by these words, of the steps from this one on: all steps that are left
abbrev pub choices_by : ℕ → List LaneValue → List (List ℕ) → Result (List Choice) OrderFault
choices_by step lanes [] =
    if nat_eq (length (goers lanes)) 0 then Ok [] else Err (record { step = step; cause = Ended })
choices_by step lanes (word ∷ words) =
    followed (choice_of_step step (choice_by lanes word)) (λ choice. choices_by (step + 1) (after choice lanes) words)

-- the choices of the order that a text spells, from the start on
unfoldable pub choices_of : List LaneValue → List ℕ → Result (List Choice) OrderFault
choices_of lanes text = choices_by 1 lanes (words_in text)
