-- The columns of a chart, each four characters wide: from the left those of the processes, by number, then
-- the stream's, and the line's if the stream has a line or a wire.
use Rattle.std.specs.Prelude.{ℕ, ◌+◌, ◌-◌, List, [], ◌∷◌, ◌++◌, codes, if◌then◌else◌}
use Rattle.std.specs.List.{flat_map, repeat}
use Rattle.std.specs.Fmt.{decimal}
use Rattle.strm_msg.specs.declared.words.End.{End}
use Rattle.strm_module.specs.declared.driver.Driver.{Driver}
use Rattle.strm_module.specs.Driver.{is_line}
use Rattle.strm_chain_ends.specs.declared.place.Place.{Place}
use Rattle.strm_chain_ends.specs.declared.place.Place.TheVariants.{Wr, Drv, Rd}
use Rattle.strm_shared_entry.specs.declared.entry.Who.{Who}
use Rattle.strm_shared_entry.specs.declared.entry.Who.TheVariants as whos
use Rattle.strm_script_print.specs.Lines.{end_word}

-- the bars of n columns, with the room behind each
abbrev pub bars : ℕ → List ℕ
bars n = repeat n (codes "|   ")

-- the bar of the line's column
abbrev pub line_bar : Driver → List ℕ
line_bar driver = if is_line driver then codes "   |" else []

-- the bars of all columns: those of n processes, the stream's, and the line's
unfoldable pub all_bars : ℕ → Driver → List ℕ
all_bars n driver = bars n ++ codes "|" ++ line_bar driver

-- the name of a column, behind the bars of the columns to its left
unfoldable pub name_row : ℕ → List ℕ → List ℕ
name_row left name = bars left ++ name ++ 10 ∷ []

-- the shaft of an arrow, from a caller's column across the columns between it and the stream's
unfoldable pub shaft : ℕ → ℕ → List ℕ → List ℕ → List ℕ
shaft n caller begins across = bars caller ++ begins ++ repeat (n - (caller + 1)) across

-- an arrow from a caller's column to the stream's
unfoldable pub call_arrow : ℕ → Driver → ℕ → List ℕ
call_arrow n driver caller = shaft n caller (codes "|") (codes "---+") ++ codes "-->|" ++ line_bar driver

-- an arrow from the stream's column back to a caller's
unfoldable pub answer_arrow : ℕ → Driver → ℕ → List ℕ
answer_arrow n driver caller = shaft n caller (codes "|<--") (codes "+---") ++ codes "|" ++ line_bar driver

-- an arrow from the line's column to the stream's
unfoldable pub line_arrow : ℕ → List ℕ
line_arrow n = bars n ++ codes "|<--|"

-- an arrow from the maker of a step to the stream
abbrev pub arrow : ℕ → Driver → Who → List ℕ
arrow n driver (whos.Caller caller) = call_arrow n driver caller
arrow n driver whos.Line = line_arrow n

-- an arrow from the stream back to a caller; nothing goes back to a line
abbrev pub arrow_back : ℕ → Driver → Who → List ℕ
arrow_back n driver (whos.Caller caller) = answer_arrow n driver caller
arrow_back n driver whos.Line = all_bars n driver

-- ---- places

-- a queue of a module, END:wr:I or END:rd:I; I is the number of the module, counted from the topmost
unfoldable pub queue_word : End → List ℕ → ℕ → List ℕ
queue_word at_end side i = end_word at_end ++ side ++ decimal i

-- the queue of a driver, END:driver
unfoldable pub driver_word : End → List ℕ
driver_word at_end = end_word at_end ++ codes ":driver"

abbrev pub place_word : Place → List ℕ
place_word (Wr at_end i) = queue_word at_end (codes ":wr:") i
place_word (Drv at_end) = driver_word at_end
place_word (Rd at_end i) = queue_word at_end (codes ":rd:") i

abbrev pub places_text : List Place → List ℕ
places_text places = flat_map (λ place. 32 ∷ place_word place) places

-- the row of the places that moved, in order
unfoldable pub moved_row : ℕ → Driver → List Place → List ℕ
moved_row n driver places = all_bars n driver ++ codes " moved" ++ places_text places ++ 10 ∷ []

-- the row of the moves; no row if nothing moved
abbrev pub moved_text : ℕ → Driver → List Place → List ℕ
moved_text n driver [] = []
moved_text n driver (place ∷ places) = moved_row n driver (place ∷ places)
