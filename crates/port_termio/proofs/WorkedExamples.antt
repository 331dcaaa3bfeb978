-- Keys that are typed at a terminal, computed on the definitions. `lx` and the like are written as their
-- bytes.
use Rattle.std.proofs.Common.{◌≡◌, ℕ, true, false, None, Some, List, [], ◌∷◌, ◌++◌, refl, replicate}
use Rattle.port_termio.specs.declared.modes.Modes.{Modes}
use Rattle.port_termio.specs.declared.echo.Echo.TheVariants.{NewLine, Bell}
use Rattle.port_termio.specs.Edit.{key_typed, typed, sent_by}
use Rattle.port_termio.specs.Screen.{Row, after_bytes, are_blank, Shows}
use Rattle.port_termio.specs.EditLaws.{have_no_end}
use Rattle.port_termio.proofs.RowLemmas.{screen_shows_line}

-- a terminal as it is after login
abbrev usual : Modes
usual = record { icanon = true; echo = true; icrnl = true; onlcr = true }

abbrev unseen : Modes
unseen = record { icanon = true; echo = false; icrnl = true; onlcr = true }

abbrev one_by_one : Modes
one_by_one = record { icanon = false; echo = true; icrnl = false; onlcr = false }

-- "lx", DEL, "s" and CR: "ls" and an NL go up
corrected : typed usual [] (108 ∷ 120 ∷ 127 ∷ 115 ∷ 13 ∷ []) ≡ record { lines = (108 ∷ 115 ∷ 10 ∷ []) ∷ []; line = []; screen = 108 ∷ 120 ∷ 8 ∷ 32 ∷ 8 ∷ 115 ∷ 13 ∷ 10 ∷ [] }
corrected = refl

-- a row with the prompt "$ " then shows "$ ls", and past the cursor the blank where the "x" was
seen : after_bytes (record { before = 32 ∷ 36 ∷ []; past = 32 ∷ 32 ∷ 32 ∷ [] }) (typed usual [] (108 ∷ 120 ∷ 127 ∷ 115 ∷ [])).screen ≡ record { before = 115 ∷ 108 ∷ 32 ∷ 36 ∷ []; past = 32 ∷ [] }
seen = refl

-- a row with only blanks past the cursor shows the empty line, so that from there on it shows what is typed
from_empty : (modes : Modes) (keys : List ℕ) (row : Row) → modes.icanon ≡ true → modes.echo ≡ true → have_no_end modes keys ≡ true → are_blank row.past ≡ true → Shows (after_bytes row (typed modes [] keys).screen) row.before (typed modes [] keys).line
from_empty modes keys row h e k blank =
    screen_shows_line modes [] keys row.before row h e k (record { left = refl; right = blank })

-- "rm", ^U, "ls": the two columns of "rm" are rubbed out
killed : typed usual [] (114 ∷ 109 ∷ 21 ∷ 108 ∷ 115 ∷ []) ≡ record { lines = []; line = 108 ∷ 115 ∷ []; screen = 114 ∷ 109 ∷ 8 ∷ 32 ∷ 8 ∷ 8 ∷ 32 ∷ 8 ∷ 108 ∷ 115 ∷ [] }
killed = refl

-- ^U and DEL of an empty line do nothing, and show nothing
nothing_to_kill : typed usual [] (21 ∷ 127 ∷ 8 ∷ []) ≡ record { lines = []; line = []; screen = [] }
nothing_to_kill = refl

-- a line that ended is past editing
past_editing : typed usual [] (97 ∷ 10 ∷ 127 ∷ 21 ∷ 98 ∷ []) ≡ record { lines = (97 ∷ 10 ∷ []) ∷ []; line = 98 ∷ []; screen = 97 ∷ 13 ∷ 10 ∷ 98 ∷ [] }
past_editing = refl

-- ^D of an empty line sends an empty line, which is the end of the file
end_of_file : typed usual [] (4 ∷ []) ≡ record { lines = [] ∷ []; line = []; screen = [] }
end_of_file = refl

-- ^D behind "$ " sends these two bytes at once, and no NL
without_nl : typed usual [] (36 ∷ 32 ∷ 4 ∷ []) ≡ record { lines = (36 ∷ 32 ∷ []) ∷ []; line = []; screen = 36 ∷ 32 ∷ [] }
without_nl = refl

-- ^C is shown in two columns, which ^H rubs out
two_columns : typed usual [] (3 ∷ 8 ∷ []) ≡ record { lines = []; line = []; screen = 94 ∷ 67 ∷ 8 ∷ 32 ∷ 8 ∷ 8 ∷ 32 ∷ 8 ∷ [] }
two_columns = refl

-- without ICRNL a CR is text, and is shown as ^M
cr_is_text : typed (record usual { icrnl = false }) [] (13 ∷ []) ≡ record { lines = []; line = 13 ∷ []; screen = 94 ∷ 77 ∷ [] }
cr_is_text = refl

-- a password is read, and is not shown
password : typed unseen [] (97 ∷ 127 ∷ 98 ∷ 13 ∷ []) ≡ record { lines = (98 ∷ 10 ∷ []) ∷ []; line = []; screen = [] }
password = refl

-- without ICANON each key goes up by itself, DEL and ^D too
each_key : typed one_by_one [] (97 ∷ 127 ∷ 4 ∷ 10 ∷ []) ≡ record { lines = (97 ∷ []) ∷ (127 ∷ []) ∷ (4 ∷ []) ∷ (10 ∷ []) ∷ []; line = []; screen = 97 ∷ 94 ∷ 63 ∷ 94 ∷ 68 ∷ 13 ∷ 10 ∷ [] }
each_key = refl

abbrev full : List ℕ
full = replicate 255 97

-- the 256th key rings the bell, and the line stays as it is
full_line : key_typed usual full 98 ≡ record { up = None; line = full; echo = Bell }
full_line = refl

-- an NL still ends a full line
full_line_ends : key_typed usual full 10 ≡ record { up = Some (full ++ 10 ∷ []); line = []; echo = NewLine }
full_line_ends = refl

-- a line goes up as it is once ICANON is off, if it has a key
mode_off : sent_by one_by_one (97 ∷ []) ≡ Some (97 ∷ [])
mode_off = refl

mode_off_empty : sent_by one_by_one [] ≡ None
mode_off_empty = refl

mode_on : sent_by unseen (97 ∷ []) ≡ None
mode_on = refl
