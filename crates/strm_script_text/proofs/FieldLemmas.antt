-- A line that is cut into its fields.
use Rattle.std.proofs.Common.{◌≡◌, ℕ, ◌+◌, ◌-◌, ◌<◌, ◌≤◌, ◌&&◌, Bool, true, false, cond, nat_lt, List, [], ◌∷◌, ◌++◌, filter, length, take, drop, get_or, refl, sym, ap, ◌∙◌, arith, below_more}
use Rattle.std.specs.List.{slice_split, list_all, All}
use Rattle.std.proofs.lemmas.List.{append_assoc, take-append-drop, take_rest, drop-drop, drop_more, take_more, length-take, get_or-take, get_or-drop}
use Rattle.std.proofs.lemmas.Bool.Decides.{nat_tests}
use Rattle.std.proofs.lemmas.List.Elements.{All-from_get_or}
use Rattle.std.proofs.lemmas.List.Folds.{list_all-append}
use Rattle.std.proofs.lemmas.List.Splits.{slice_split_at, slice_split_none}
use Rattle.strm_script_text.specs.Bytes.{is_blank, is_allowed, is_within}
use Rattle.strm_script_text.specs.Text.{field_in, fields_of}

abbrev has_bytes : List ℕ → Bool
has_bytes field = nat_lt 0 (length field)

-- no blank stands from the start up to here
abbrev pub AreUnparted : List ℕ → ℕ → ℕ → Type 0
AreUnparted line start at = (k : ℕ) → start ≤ k → k < at → is_blank (get_or line k 0) ≡ false

-- one byte more is none
pub unparted_more : (line : List ℕ) (start at : ℕ) → AreUnparted line start at → is_blank (get_or line at 0) ≡ false → AreUnparted line start (at + 1)
unparted_more line start at unparted other = λ k from under. below_more (λ (n : ℕ). start ≤ n → is_blank (get_or line n 0) ≡ false) at (λ n before since. unparted n since before) (λ since. other) k under from

no_blank : (line : List ℕ) (start at : ℕ) → AreUnparted line start at → All (λ byte. is_blank byte ≡ false) (take (at - start) (drop start line))
no_blank line start at unparted =
    All-from_get_or (λ byte. is_blank byte ≡ false) (take (at - start) (drop start line)) 0 (λ i under.
    let here : i < at - start = omega (arith, length-take (at - start) (drop start line), under) in
    rw (get_or-take (at - start) (drop start line) i 0 here, get_or-drop start line i 0) (unparted (start + i) (omega arith) (omega arith)))

-- the piece, the byte here and what stands behind it
cut_here : (line : List ℕ) (start at : ℕ) → start ≤ at → at < length line → drop start line ≡ take (at - start) (drop start line) ++ get_or line at 0 ∷ drop (at + 1) line
cut_here line start at within inside =
    let there : start + (at - start) ≡ at = omega arith in
    sym (take-append-drop (at - start) (drop start line))
    ∙ ap (λ (rest : List ℕ). take (at - start) (drop start line) ++ rest) (drop-drop (at - start) start line ∙ ap (λ (n : ℕ). drop n line) there ∙ drop_more line at 0 inside)

one_first : (b : Bool) (piece : List ℕ) (fields : List (List ℕ)) → cond b (piece ∷ fields) fields ≡ cond b (piece ∷ []) [] ++ fields
one_first true piece fields = refl
one_first false piece fields = refl

first_field : (piece : List ℕ) (pieces : List (List ℕ)) → filter has_bytes (piece ∷ pieces) ≡ field_in piece ++ filter has_bytes pieces
first_field piece pieces = one_first (has_bytes piece) piece (filter has_bytes pieces)

-- a blank ends a field, where a byte stands before it
pub field_ended : (line : List ℕ) (start at : ℕ) (fields longer : List (List ℕ)) → start ≤ at → at < length line → AreUnparted line start at → is_blank (get_or line at 0) ≡ true
    → longer ≡ fields ++ field_in (take (at - start) (drop start line)) → fields ++ fields_of (drop start line) ≡ fields_of line → longer ++ fields_of (drop (at + 1) line) ≡ fields_of line
field_ended line start at fields longer within inside unparted blank added so_far =
    let piece = take (at - start) (drop start line) in
    ap (λ (all : List (List ℕ)). all ++ fields_of (drop (at + 1) line)) added
    ∙ append_assoc fields (field_in piece) (fields_of (drop (at + 1) line))
    ∙ ap (λ (all : List (List ℕ)). fields ++ all)
    (sym (first_field piece (slice_split is_blank (drop (at + 1) line)))
    ∙ ap (filter has_bytes) (sym (slice_split_at is_blank piece (get_or line at 0) (drop (at + 1) line) (no_blank line start at unparted) blank))
    ∙ ap fields_of (sym (cut_here line start at within inside)))
    ∙ so_far

-- the end of the line ends the last
pub last_field : (line : List ℕ) (start at : ℕ) (fields all : List (List ℕ)) → length line ≤ at → AreUnparted line start at
    → all ≡ fields ++ field_in (take (length line - start) (drop start line)) → fields ++ fields_of (drop start line) ≡ fields_of line → all ≡ fields_of line
last_field line start at fields all past unparted added so_far =
    let none : All (λ byte. is_blank byte ≡ false) (drop start line) = rw (take_rest line start) at (no_blank line start (length line) (λ k from under. unparted k from (omega arith))) in
    added
    ∙ ap (λ (last : List ℕ). fields ++ field_in last) (take_rest line start)
    ∙ ap (λ (pieces : List (List ℕ)). fields ++ filter has_bytes pieces) (sym (slice_split_none is_blank (drop start line) none))
    ∙ so_far

-- a blank may stand in a line
blank_allowed : (byte : ℕ) → is_blank byte ≡ true → is_allowed byte ≡ true
blank_allowed byte blank = grind (arith, nat_tests)

-- and what is neither of a field nor a blank may not
other_refused : (byte : ℕ) → is_within 33 126 byte ≡ false → is_blank byte ≡ false → is_allowed byte ≡ false
other_refused byte outside other = grind (arith, nat_tests)

one_more : (line : List ℕ) (at : ℕ) → at < length line → list_all is_allowed (take (at + 1) line) ≡ (list_all is_allowed (take at line) && list_all is_allowed (get_or line at 0 ∷ []))
one_more line at inside = ap (list_all is_allowed) (take_more line at 0 inside) ∙ list_all-append is_allowed (take at line) (get_or line at 0 ∷ [])

and_true : (b : Bool) → (b && true) ≡ b
and_true true = refl
and_true false = refl

and_false : (b : Bool) → (b && false) ≡ false
and_false true = refl
and_false false = refl

-- the line is allowed up to here as it was before
pub allowed_still : (line : List ℕ) (at : ℕ) (so_far : Bool) → at < length line → is_blank (get_or line at 0) ≡ true → so_far ≡ list_all is_allowed (take at line) → so_far ≡ list_all is_allowed (take (at + 1) line)
allowed_still line at so_far inside blank is =
    is ∙ sym (and_true (list_all is_allowed (take at line))) ∙ ap (λ (b : Bool). list_all is_allowed (take at line) && (b && true)) (sym (blank_allowed (get_or line at 0) blank)) ∙ sym (one_more line at inside)

-- or is no more
pub refused_here : (line : List ℕ) (at : ℕ) → at < length line → is_within 33 126 (get_or line at 0) ≡ false → is_blank (get_or line at 0) ≡ false → false ≡ list_all is_allowed (take (at + 1) line)
refused_here line at inside outside other =
    sym (and_false (list_all is_allowed (take at line))) ∙ ap (λ (b : Bool). list_all is_allowed (take at line) && (b && true)) (sym (other_refused (get_or line at 0) outside other)) ∙ sym (one_more line at inside)
