-- Keys that are typed at a terminal, and the lines that they make (termio(7), ldterm(7M)). A key is a byte. A
-- line is its keys in the order in which they were typed.
use Rattle.std.specs.Prelude.{ℕ, zero, suc, ◌+◌, ◌-◌, ◌==◌, ◌||◌, ◌&&◌, not, nat_lt, Bool, Option, Some, None, List, [], ◌∷◌, ◌++◌, if◌then◌else◌, length, take, option_to_list}
use Rattle.std.specs.List.{flat_map}
use Rattle.port_termio.specs.declared.modes.Modes.{Modes}
use Rattle.port_termio.specs.declared.echo.Echo.{Echo}
use Rattle.port_termio.specs.declared.echo.Echo.TheVariants.{Nothing, Key, RubOut, NewLine, Bell}
use Rattle.port_termio.specs.declared.editor.TheConstants.{MAX_CANON}

-- ---- what a key means

-- the key that is meant: with ICRNL a CR is an NL
abbrev pub meant : Modes → ℕ → ℕ
meant modes key = if modes.icrnl && key == 13 then 10 else key

-- NL ends a line, and is its last byte
abbrev pub is_nl : ℕ → Bool
is_nl key = key == 10

-- EOF (^D) ends a line, and is no byte of it
abbrev pub is_eof : ℕ → Bool
is_eof key = key == 4

abbrev pub is_end : ℕ → Bool
is_end key = is_nl key || is_eof key

-- ERASE (DEL, or ^H) takes back the last key
abbrev pub is_erase : ℕ → Bool
is_erase key = key == 127 || key == 8

-- KILL (^U) takes back all keys of the line
abbrev pub is_kill : ℕ → Bool
is_kill key = key == 21

-- every other key is text
abbrev pub is_text : ℕ → Bool
is_text key = not (is_end key || is_erase key || is_kill key)

-- ---- what is shown

-- a key as it is shown: a control character as ^ and its letter (ECHOCTL), every other key as itself; a tab
-- is shown as ^I, so that each byte takes one column
abbrev pub shown : ℕ → List ℕ
shown key =
    if nat_lt key 32 then 94 ∷ (key + 64) ∷ [] else if key == 127 then 94 ∷ 63 ∷ [] else key ∷ []

abbrev pub shown_line : List ℕ → List ℕ
shown_line line = flat_map shown line

-- the columns that a key takes, and those that a line takes
abbrev pub width : ℕ → ℕ
width key = length (shown key)

abbrev pub columns : List ℕ → ℕ
columns line = length (shown_line line)

-- the bytes that rub columns out: for each one BS, a blank, and BS
abbrev pub rubbed_out : ℕ → List ℕ
rubbed_out zero = []
rubbed_out (suc columns) = 8 ∷ 32 ∷ 8 ∷ rubbed_out columns

-- the bytes that show an echo
abbrev pub echo_bytes : Echo → List ℕ
echo_bytes Nothing = []
echo_bytes (Key key) = shown key
echo_bytes (RubOut columns) = rubbed_out columns
echo_bytes NewLine = 13 ∷ 10 ∷ []
echo_bytes Bell = 7 ∷ []

-- the echo of columns that are taken back
abbrev pub rub_out : ℕ → Echo
rub_out columns = if columns == 0 then Nothing else RubOut columns

-- ---- what a key does

-- what a key leaves: the line that goes up, if one does, the line that is being typed, and the echo
pub record After : Type 0 where
  pub up : Option (List ℕ)
  pub line : List ℕ
  pub echo : Echo

-- a line goes up, and the next one begins
abbrev pub ended : List ℕ → Echo → After
ended line echo = record { up = Some line; line = []; echo = echo }

-- no line goes up
abbrev pub kept : List ℕ → Echo → After
kept line echo = record { up = None; line = line; echo = echo }

abbrev pub without_last : List ℕ → List ℕ
without_last line = take (length line - 1) line

-- keys are taken back until these are left, and the columns of the others are rubbed out
abbrev pub taken_back : List ℕ → List ℕ → After
taken_back line left = kept left (rub_out (columns line - columns left))

-- a key of text, which a full line does not take
abbrev pub text_typed : List ℕ → ℕ → After
text_typed line key = if nat_lt (length line) MAX_CANON then kept (line ++ key ∷ []) (Key key) else kept line Bell

-- with ICANON keys make lines, which can be edited until they end
abbrev pub edited : List ℕ → ℕ → After
edited line key =
    if is_nl key then ended (line ++ key ∷ []) NewLine
    else if is_eof key then ended line Nothing
    else if is_erase key then taken_back line (without_last line)
    else if is_kill key then taken_back line []
    else text_typed line key

-- without ICANON each key goes up by itself
abbrev pub raw : List ℕ → ℕ → After
raw line key = record { up = Some (key ∷ []); line = line; echo = if is_nl key then NewLine else Key key }

-- without ECHO nothing is shown
abbrev pub echoed : Modes → After → After
echoed modes after = record after { echo = if modes.echo then after.echo else Nothing }

abbrev pub key_typed : Modes → List ℕ → ℕ → After
key_typed modes line key =
    echoed modes (if modes.icanon then edited line (meant modes key) else raw line (meant modes key))

-- ---- what keys do, one after another

-- the lines that went up, in order, the line that is being typed, and the bytes that were shown
pub record Typed : Type 0 where
  pub lines : List (List ℕ)
  pub line : List ℕ
  pub screen : List ℕ

abbrev pub by_key : After → Typed
by_key after = record { lines = option_to_list after.up; line = after.line; screen = echo_bytes after.echo }

abbrev pub and_then : Typed → Typed → Typed
and_then first more = record {
  lines = first.lines ++ more.lines;
  line = more.line;
  screen = first.screen ++ more.screen;
}

abbrev pub typed : Modes → List ℕ → List ℕ → Typed
typed modes line [] = record { lines = []; line = line; screen = [] }
typed modes line (key ∷ keys) =
    let after = key_typed modes line key in and_then (by_key after) (typed modes after.line keys)

-- ---- modes that change

-- a line editor: its modes, and the line that is being typed
pub record Editing : Type 0 where
  pub modes : Modes
  pub line : List ℕ

abbrev pub is_empty : List ℕ → Bool
is_empty line = length line == 0

-- the line that goes up as new modes come: without ICANON nobody edits it any more
abbrev pub sent_by : Modes → List ℕ → Option (List ℕ)
sent_by modes line = if modes.icanon || is_empty line then None else Some line

-- the editor with new modes
abbrev pub with_modes : Modes → List ℕ → Editing
with_modes modes line = record { modes = modes; line = if modes.icanon then line else [] }
