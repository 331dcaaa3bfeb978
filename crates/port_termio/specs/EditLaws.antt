-- The purpose of a line discipline (termio(7)).
use Rattle.std.specs.Prelude.{◌≡◌, ℕ, ◌||◌, ◌&&◌, if◌then◌else◌, ◌+◌, ◌<◌, ◌≤◌, nat_le, nat_lt, Bool, true, false, not, List, [], ◌∷◌, ◌++◌, length, map}
use Rattle.std.specs.List.{list_all, concat, flat_map}
use Rattle.port_termio.specs.declared.modes.Modes.{Modes}
use Rattle.port_termio.specs.declared.editor.TheConstants.{MAX_CANON}
use Rattle.port_termio.specs.Edit.{meant, is_nl, is_eof, is_end, is_erase, is_kill, is_text, shown_line, edited, Typed, and_then, typed}
use Rattle.port_termio.specs.Screen.{Row, after_bytes, Shows}

-- whether all keys are meant as text
abbrev pub are_text : Modes → List ℕ → Bool
are_text modes keys = list_all (λ key. is_text (meant modes key)) keys

-- whether no key is meant to end a line
abbrev pub have_no_end : Modes → List ℕ → Bool
have_no_end modes keys = list_all (λ key. not (is_end (meant modes key))) keys

-- the same lines went up, and the same line is being typed
pub record ReadsAs (one other : Typed) : Type 0 where
  pub lines : one.lines ≡ other.lines
  pub line : one.line ≡ other.line

-- text that fits a line, and an NL: one line goes up, with all keys as they were meant
abbrev pub PlainLineIsRead : Type 0
PlainLineIsRead =
    (modes : Modes) (keys : List ℕ) (nl : ℕ) → modes.icanon ≡ true → are_text modes keys ≡ true →
    length keys ≤ MAX_CANON → is_nl (meant modes nl) ≡ true → let all = typed modes [] (keys ++ nl ∷ []) in
    (all.lines ≡ (map (meant modes) keys ++ 10 ∷ []) ∷ []) × (all.line ≡ [])

-- and with ECHO it is shown as it is read
abbrev pub PlainLineIsShown : Type 0
PlainLineIsShown =
    (modes : Modes) (keys : List ℕ) (nl : ℕ) → modes.icanon ≡ true → modes.echo ≡ true → are_text modes keys ≡ true →
    length keys ≤ MAX_CANON → is_nl (meant modes nl) ≡ true →
    (typed modes [] (keys ++ nl ∷ [])).screen ≡ shown_line (map (meant modes) keys) ++ 13 ∷ 10 ∷ []

-- a key of text that the line takes, and an ERASE behind it, read as nothing
abbrev pub EraseTakesBack : Type 0
EraseTakesBack =
    (modes : Modes) (line more : List ℕ) (key erase : ℕ) → modes.icanon ≡ true → is_text (meant modes key) ≡ true →
    length line < MAX_CANON → is_erase (meant modes erase) ≡ true →
    ReadsAs (typed modes line (key ∷ erase ∷ more)) (typed modes line more)

-- a KILL takes back the whole line, and nothing of the lines before it
abbrev pub KillTakesBackAll : Type 0
KillTakesBackAll =
    (modes : Modes) (line keys more : List ℕ) (kill : ℕ) → modes.icanon ≡ true → have_no_end modes keys ≡ true →
    is_kill (meant modes kill) ≡ true → ReadsAs (typed modes line (keys ++ kill ∷ more)) (typed modes [] more)

-- what is seen is what will be read: a row that shows the line that is being typed still does so after more
-- keys, however they edit the line (a row with only blanks past the cursor shows the empty line)
abbrev pub ScreenShowsLine : Type 0
ScreenShowsLine =
    (modes : Modes) (line keys before : List ℕ) (row : Row) → modes.icanon ≡ true → modes.echo ≡ true →
    have_no_end modes keys ≡ true → Shows row before line → let all = typed modes line keys in
    Shows (after_bytes row all.screen) before all.line

-- without ECHO nothing is shown
abbrev pub NothingShownWithoutEcho : Type 0
NothingShownWithoutEcho =
    (modes : Modes) (line keys : List ℕ) → modes.echo ≡ false → (typed modes line keys).screen ≡ []

-- without ICANON all keys go up, as they were meant, and the line stays
abbrev pub RawIsRead : Type 0
RawIsRead =
    (modes : Modes) (line keys : List ℕ) → modes.icanon ≡ false → let all = typed modes line keys in
    (concat all.lines ≡ map (meant modes) keys) × (all.line ≡ line)

-- whether no key is meant to take keys back
abbrev pub take_nothing_back : Modes → List ℕ → Bool
take_nothing_back modes keys = list_all (λ key. not (is_erase (meant modes key) || is_kill (meant modes key))) keys

-- whether each key of text finds room in its line
abbrev pub find_room : Modes → List ℕ → List ℕ → Bool
find_room modes line [] = true
find_room modes line (key ∷ keys) =
    (is_end (meant modes key) || nat_lt (length line) MAX_CANON) && find_room modes (edited line (meant modes key)).line keys

-- the byte that a key makes; none for EOF
abbrev pub byte_typed : ℕ → List ℕ
byte_typed key = if is_eof key then [] else key ∷ []

abbrev pub bytes_typed : Modes → List ℕ → List ℕ
bytes_typed modes keys = flat_map (λ key. byte_typed (meant modes key)) keys

-- while there is room, and nothing is taken back, nothing that is typed is lost: the lines that went up and the
-- line that is being typed are the line before and the keys, in order
abbrev pub NothingTypedIsLost : Type 0
NothingTypedIsLost =
    (modes : Modes) (line keys : List ℕ) → modes.icanon ≡ true → take_nothing_back modes keys ≡ true →
    find_room modes line keys ≡ true → let all = typed modes line keys in
    concat all.lines ++ all.line ≡ line ++ bytes_typed modes keys

-- messages may cut the keys anywhere: the second goes on from the line that the first one leaves
abbrev pub PiecesAreOneTyping : Type 0
PiecesAreOneTyping =
    (modes : Modes) (line piece more : List ℕ) → let first = typed modes line piece in
    typed modes line (piece ++ more) ≡ and_then first (typed modes first.line more)

-- a line that goes up has at most `MAX_CANON` keys and an NL; the line that is left has at most `MAX_CANON`
-- keys
abbrev pub LinesAreShort : Type 0
LinesAreShort =
    (modes : Modes) (line keys : List ℕ) → length line ≤ MAX_CANON → let all = typed modes line keys in
    (list_all (λ up. nat_le (length up) (MAX_CANON + 1)) all.lines ≡ true) × (length all.line ≤ MAX_CANON)
