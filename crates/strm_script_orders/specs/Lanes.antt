-- Who may go next: the processes with their calls, and the feeds with their messages.
use Rattle.std.specs.Prelude.{ℕ, zero, suc, ◌+◌, ◌-◌, ◌<◌, ◌&&◌, nat_eq, nat_lt, not, Bool, false, List, [], ◌∷◌, ◌++◌, get_or, length, map, sum_by, Option, Some, None, codes, slice_get, if◌then◌else◌}
use Rattle.std.specs.Option.{option_map_or}
use Rattle.std.specs.List.{list_any}
use Rattle.strm_run_input.specs.declared.script.Await.{Await}

-- a process, or the feed of this stream: its name, how many steps it takes, and how many of them it has
-- taken; the feeds that a process awaits
pub record LaneValue : Type 0 where
  pub name : List ℕ
  pub feeds : Option ℕ
  pub steps : ℕ
  pub taken : ℕ
  pub awaits : List Await

-- ---- who may go

abbrev pub has_left : LaneValue → Bool
has_left lane = nat_lt lane.taken lane.steps

abbrev pub is_stream : ℕ → Option ℕ → Bool
is_stream stream None = false
is_stream stream (Some own) = nat_eq own stream

-- a feed of this stream has a message left
abbrev pub is_fed : List LaneValue → ℕ → Bool
is_fed lanes stream = list_any (λ lane. is_stream stream lane.feeds && has_left lane) lanes

-- the next call awaits a feed that has a message left
abbrev pub waits : List LaneValue → LaneValue → Bool
waits lanes lane = list_any (λ await. nat_eq await.call lane.taken && is_fed lanes await.stream) lane.awaits

abbrev pub may_go : List LaneValue → LaneValue → Bool
may_go lanes lane = has_left lane && not (waits lanes lane)

-- the numbers of those that may go, of these from this number on
abbrev pub goers_from : List LaneValue → ℕ → List LaneValue → List ℕ
goers_from lanes number [] = []
goers_from lanes number (lane ∷ rest) =
    if may_go lanes lane then number ∷ goers_from lanes (number + 1) rest else goers_from lanes (number + 1) rest

-- the numbers of those that may go, in order
unfoldable pub goers : List LaneValue → List ℕ
goers lanes = goers_from lanes 0 lanes

-- ---- steps

abbrev pub with_step : LaneValue → LaneValue
with_step lane = record lane { taken = lane.taken + 1 }

-- the one of this number takes a step
abbrev pub stepped : ℕ → List LaneValue → List LaneValue
stepped number [] = []
stepped zero (lane ∷ rest) = with_step lane ∷ rest
stepped (suc number) (lane ∷ rest) = lane ∷ stepped number rest

-- the one of this number takes a step, if there is one
abbrev pub stepped_by : Option ℕ → List LaneValue → List LaneValue
stepped_by None lanes = lanes
stepped_by (Some number) lanes = stepped number lanes

abbrev pub as_before : LaneValue → LaneValue
as_before lane = record lane { taken = 0 }

-- nobody has taken a step
abbrev pub at_start : List LaneValue → List LaneValue
at_start lanes = map as_before lanes

-- how many steps are left
abbrev pub left_of : LaneValue → ℕ
left_of lane = lane.steps - lane.taken

unfoldable pub steps_left : List LaneValue → ℕ
steps_left lanes = sum_by left_of lanes

-- ---- the spelling of an order

-- a process is spelt by its name, a message of a feed as `feed:NAME`
abbrev pub word_by : Option ℕ → List ℕ → List ℕ
word_by None name = name
word_by (Some stream) name = codes "feed:" ++ name

abbrev pub word_of : LaneValue → List ℕ
word_of lane = word_by lane.feeds lane.name

-- the word of the one of this number
abbrev pub word_at : List LaneValue → ℕ → List ℕ
word_at lanes number = option_map_or word_of (slice_get lanes number) []

-- the words of those who go by these choices, as far as there are so many who may
abbrev pub words_of : List LaneValue → List ℕ → List (List ℕ)
words_of lanes [] = []
words_of lanes (choice ∷ choices) =
    option_map_or (λ number. word_at lanes number ∷ words_of (stepped number lanes) choices) (slice_get (goers lanes) choice) []

-- words with a comma between two, behind this text
abbrev pub listed : List ℕ → List (List ℕ) → List ℕ
listed before [] = []
listed before (word ∷ words) = before ++ word ++ listed (codes ",") words

-- the spelling of an order, by its choices
abbrev pub order_text : List LaneValue → List ℕ → List ℕ
order_text lanes choices = listed [] (words_of lanes choices)

-- ---- the one that goes has a step left (no public clause cites this)

pub record HasLeft (lanes : List LaneValue) (number : ℕ) : Type 0 where
  pub within : number < length lanes
  pub left : (d : LaneValue) → (get_or lanes number d).taken < (get_or lanes number d).steps
