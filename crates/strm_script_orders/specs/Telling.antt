-- How a tally is told.
use Rattle.std.specs.Prelude.{ℕ, nat_eq, List, [], ◌∷◌, ◌++◌, length, Option, Some, None, codes, if◌then◌else◌}
use Rattle.std.specs.List.{flat_map}
use Rattle.std.specs.Fmt.{decimal}
use Rattle.strm_script_orders.specs.declared.tally.TheConstants.{MOST_KEPT}
use Rattle.strm_script_orders.specs.Difference.{difference, lines_of}
use Rattle.strm_script_orders.specs.Tally.{GivenValue, TallyValue}

-- `differs STREAM: LINE`
abbrev pub difference_text : List ℕ × List ℕ → List ℕ
difference_text found = codes "differs " ++ found.0 ++ codes ": " ++ found.1 ++ codes "\n"

-- `order S plays M`
abbrev pub plays_text : List ℕ → ℕ → List ℕ
plays_text label plays = codes "order " ++ label ++ codes " plays " ++ decimal plays ++ codes "\n"

-- the lines of a transcript behind the first one
abbrev pub given_text : List ℕ → GivenValue → List ℕ
given_text first given =
    plays_text given.label given.plays ++ difference_text (difference [] (lines_of first) (lines_of given.text))

-- the lines of the transcripts that are kept apart
unfoldable pub kept_text : List GivenValue → List ℕ
kept_text [] = []
kept_text (first ∷ rest) = plays_text first.label first.plays ++ flat_map (given_text first.text) rest

-- how many transcripts there are: a number, or `over 64`
abbrev pub many_text : ℕ → ℕ → List ℕ
many_text kept others = if nat_eq others 0 then decimal kept else codes "over " ++ decimal MOST_KEPT

-- `orders N transcripts K`
unfoldable pub orders_text : TallyValue → List ℕ
orders_text tally =
    codes "orders " ++ decimal tally.orders ++ codes " transcripts " ++ many_text (length tally.kept) tally.others ++ codes "\n"

-- `order others plays M`, if there are any
abbrev pub others_text : ℕ → List ℕ
others_text others = if nat_eq others 0 then [] else plays_text (codes "others") others

-- `unmet M first S`, if there is one
abbrev pub unmet_text : ℕ → Option (List ℕ) → List ℕ
unmet_text unmet None = []
unmet_text unmet (Some first) = codes "unmet " ++ decimal unmet ++ codes " first " ++ first ++ codes "\n"

-- the text of a tally
abbrev pub tally_text : TallyValue → List ℕ
tally_text tally =
    orders_text tally ++ kept_text tally.kept ++ others_text tally.others ++ unmet_text tally.unmet tally.first_unmet
