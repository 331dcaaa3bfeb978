-- The first line in which the text of a transcript differs from another.
use denote.Ref.{Bor}
use Rattle.std.specs.Prelude.{ℕ, nat_eq, Bool, false, List, [], ◌∷◌, length, drop, Option, Some, None, codes, if◌then◌else◌}
use Rattle.std.specs.List.{slice_split, starts_with}
use Rattle.std.specs.Str.{bytes_eq}

-- the lines of a text, and what stands behind its last line feed, if only nothing
abbrev pub lines_of : List ℕ → List (List ℕ)
lines_of text = slice_split (λ byte. nat_eq byte 10) text

-- the name of the stream in whose section a line is: its own, if it is the heading `stream NAME`, else that of
-- the line before
abbrev pub section_at : List ℕ → List ℕ → List ℕ
section_at section line =
    if starts_with nat_eq line (codes "stream ") then drop (length (codes "stream ")) line else section

-- the first line that differs from that of the other text, behind the name of its stream; no bytes, if the
-- lines end before they differ
abbrev pub difference : List ℕ → List (List ℕ) → List (List ℕ) → List ℕ × List ℕ
difference section others [] = (section, [])
difference section [] (line ∷ lines) = (section_at section line, line)
difference section (other ∷ others) (line ∷ lines) =
    if bytes_eq line other then difference (section_at section line) others lines else (section_at section line, line)

-- ---- the pieces that are left (no public clause cites them)

abbrev pub pieces_left : ℕ → Option (Bor (List ℕ)) → List (List ℕ)
pieces_left end None = []
pieces_left end (Some text) = slice_split (λ byte. nat_eq byte end) text.now

-- whether a line is the next of these, and the others
abbrev pub takes_line : List ℕ → List (List ℕ) → Bool × List (List ℕ)
takes_line line [] = (false, [])
takes_line line (other ∷ others) = (bytes_eq line other, others)
