-- What is seen.
use Rattle.std.proofs.Common.{◌≡◌, ℕ, zero, suc, ◌+◌, ◌-◌, ◌<◌, ◌==◌, Bool, true, false, not, ◌&&◌, cond, List, [], ◌∷◌, ◌++◌, refl, ap, sym, ◌∙◌, append_assoc, append-nil, subst, length, take, drop, reverse, arith, nat_lt}
use Rattle.std.specs.List.{list_all}
use Rattle.std.proofs.lemmas.Bool.{and_parts, and_from, ne_eqb, ltb-false, cond_both}
use Rattle.std.proofs.lemmas.List.{reverse-append, length-reverse, take-append-drop}
use Rattle.port_termio.specs.declared.modes.Modes.{Modes}
use Rattle.port_termio.specs.declared.echo.Echo.TheVariants.{Nothing, Key, RubOut, Bell}
use Rattle.port_termio.specs.Edit.{meant, is_end, shown, shown_line, columns, rubbed_out, rub_out, echo_bytes, After, kept, taken_back, text_typed, edited, echoed, key_typed, typed}
use Rattle.port_termio.specs.Screen.{Row, after_byte, after_bytes, are_blank, Shows}
use Rattle.port_termio.specs.EditLaws.{ScreenShowsLine}
use Rattle.port_termio.proofs.EchoLemmas.{shown_line-append, columns-append}
use Rattle.port_termio.proofs.KeyLemmas.{canonical, edited_cases}

pub after_bytes-append : (row : Row) (xs ys : List ℕ) → after_bytes row (xs ++ ys) ≡ after_bytes (after_bytes row xs) ys
after_bytes-append row [] ys = refl
after_bytes-append row (x ∷ xs) ys = after_bytes-append (after_byte row x) xs ys

-- ---- bytes that are written

-- a byte that is no control of the row
abbrev is_written : ℕ → Bool
is_written byte = not (byte == 8) && not (byte == 13) && not (byte == 10) && not (byte == 7)

blank-drop : (xs : List ℕ) → are_blank xs ≡ true → are_blank (drop 1 xs) ≡ true
blank-drop [] h = refl
blank-drop (x ∷ xs) h = (and_parts _ _ h).1

-- a row by its two parts
abbrev row_of : List ℕ → List ℕ → Row
row_of before past = record { before = before; past = past }

written : (a b c d : Bool) (bs cr lf row out : Row) → not a && not b && not c && not d ≡ true → cond a bs (cond b cr (cond c lf (cond d row out))) ≡ out
written true b c d bs cr lf row out h = cc
written false true c d bs cr lf row out h = cc
written false false true d bs cr lf row out h = cc
written false false false true bs cr lf row out h = cc
written false false false false bs cr lf row out h = refl

byte-written : (row : Row) (byte : ℕ) → is_written byte ≡ true → after_byte row byte ≡ row_of (byte ∷ row.before) (drop 1 row.past)
byte-written row byte h = written (byte == 8) (byte == 13) (byte == 10) (byte == 7) _ _ _ _ _ h

-- what a row shows behind what stood there
record Stands (row : Row) (before : List ℕ) : Type 0 where
  left : row.before ≡ before
  right : are_blank row.past ≡ true

bytes-written : (row : Row) (bytes before : List ℕ) → list_all is_written bytes ≡ true → Stands row before → Stands (after_bytes row bytes) (reverse bytes ++ before)
bytes-written row [] before h s = record { left = s.left; right = s.right }
bytes-written row (byte ∷ bytes) before h s =
    let p = and_parts _ _ h in
    let e = byte-written row byte p.0 in
    let next : Stands (after_byte row byte) (byte ∷ before) =
    record {
      left = ap (λ (r : Row). r.before) e ∙ ap (λ t. byte ∷ t) s.left;
      right = ap (λ (r : Row). are_blank r.past) e ∙ blank-drop row.past s.right;
    } in
    let rest = bytes-written (after_byte row byte) bytes (byte ∷ before) p.1 next in
    let turned = reverse-append (byte ∷ []) bytes in
    record {
      left = rest.left ∙ sym (append_assoc (reverse bytes) (byte ∷ []) before) ∙ ap (λ t. t ++ before) (sym turned);
      right = rest.right;
    }

above : (n : ℕ) → 13 < n → is_written n ≡ true
above n h =
    and_from _ _ (and_from _ _ (and_from _ _ (ap not (ne_eqb n 8 (λ e. omega arith))) (ap not (ne_eqb n 13 (λ e. omega arith)))) (ap not (ne_eqb n 10 (λ e. omega arith)))) (ap not (ne_eqb n 7 (λ e. omega arith)))

shown-written : (key : ℕ) → list_all is_written (shown key) ≡ true
shown-written key =
    let all : List ℕ → Type 0 = λ bytes. list_all is_written bytes ≡ true in
    cond_both (nat_lt key 32) _ _ all
    (λ e. and_from _ _ (above (key + 64) (omega arith)) refl)
    (λ e. cond_both (key == 127) _ _ all (λ _. refl) (λ _. and_from _ _ (above key (omega (arith, ltb-false key 32 e))) refl))

-- ---- columns that are rubbed out

rubbed : (xs past before : List ℕ) → are_blank past ≡ true → Stands (after_bytes (row_of (xs ++ before) past) (rubbed_out (length xs))) before
rubbed [] past before h = record { left = refl; right = h }
rubbed (x ∷ xs) past before h = rubbed xs (32 ∷ past) before h

rub_out-bytes : (n : ℕ) → echo_bytes (rub_out n) ≡ rubbed_out n
rub_out-bytes zero = refl
rub_out-bytes (suc n) = ap (λ b. echo_bytes (cond b Nothing (RubOut (suc n)))) (ne_eqb (suc n) 0 (λ e. omega arith))

-- keys that are taken back from the end of a line
taken-back : (row : Row) (before left others : List ℕ) → Shows row before (left ++ others) → Shows (after_bytes row (echo_bytes (rub_out (columns (left ++ others) - columns left)))) before left
taken-back row before left others s =
    let xs = reverse (shown_line others) in
    let below = reverse (shown_line left) ++ before in
    let n : columns (left ++ others) - columns left ≡ length xs = omega (arith, columns-append left others, length-reverse (shown_line others)) in
    let bytes : echo_bytes (rub_out (columns (left ++ others) - columns left)) ≡ rubbed_out (length xs) = rub_out-bytes _ ∙ ap rubbed_out n in
    let stood : row.before ≡ xs ++ below =
    s.left
    ∙ ap (λ t. reverse t ++ before) (shown_line-append left others)
    ∙ ap (λ t. t ++ before) (reverse-append (shown_line left) (shown_line others))
    ∙ append_assoc xs (reverse (shown_line left)) before in
    let r = rubbed xs row.past below s.right in
    let same : after_bytes row (echo_bytes (rub_out (columns (left ++ others) - columns left))) ≡ after_bytes (row_of (xs ++ below) row.past) (rubbed_out (length xs)) =
    ap (after_bytes row) bytes ∙ ap (λ t. after_bytes (row_of t row.past) (rubbed_out (length xs))) stood in
    record {
      left = ap (λ (t : Row). t.before) same ∙ r.left;
      right = ap (λ (t : Row). are_blank t.past) same ∙ r.right;
    }

-- ---- one key

-- what a key leaves is shown by the row after its echo
abbrev ShowsAfter : Row → List ℕ → After → Type 0
ShowsAfter row before after = Shows (after_bytes row (echo_bytes after.echo)) before after.line

back : (row : Row) (before line : List ℕ) (n : ℕ) → Shows row before line → ShowsAfter row before (taken_back line (take n line))
back row before line n s =
    let all = take-append-drop n line in
    let whole : Shows row before (take n line ++ drop n line) =
    record { left = s.left ∙ ap (λ t. reverse (shown_line t) ++ before) (sym all); right = s.right } in
    let P : List ℕ → Type 0 = λ t. Shows (after_bytes row (echo_bytes (rub_out (columns t - columns (take n line))))) before (take n line) in
    subst P all (taken-back row before (take n line) (drop n line) whole)

text : (row : Row) (before line : List ℕ) (key : ℕ) → Shows row before line → ShowsAfter row before (text_typed line key)
text row before line key s =
    cond_both (nat_lt (length line) 255) (kept (line ++ key ∷ []) (Key key)) (kept line Bell) (ShowsAfter row before)
    (λ e.
    let stands : Stands row (reverse (shown_line line) ++ before) = record { left = s.left; right = s.right } in
    let w = bytes-written row (shown key) (reverse (shown_line line) ++ before) (shown-written key) stands in
    record {
      left =
          w.left
          ∙ sym (append_assoc (reverse (shown key)) (reverse (shown_line line)) before)
          ∙ ap (λ t. t ++ before) (sym (reverse-append (shown_line line) (shown key)))
          ∙ ap (λ t. reverse (shown_line line ++ t) ++ before) (sym (append-nil (shown key)))
          ∙ ap (λ t. reverse t ++ before) (sym (shown_line-append line (key ∷ [])));
      right = w.right;
    })
    (λ e. s)

key-shows : (row : Row) (modes : Modes) (line before : List ℕ) (key : ℕ) → modes.icanon ≡ true → modes.echo ≡ true → not (is_end (meant modes key)) ≡ true → Shows row before line → ShowsAfter row before (key_typed modes line key)
key-shows row modes line before key h e k s =
    let m = meant modes key in
    let echoed-all : (after : After) → after ≡ echoed modes after =
    λ after. ap (λ b. let t : After = record after { echo = cond b after.echo Nothing } in t) (sym e) in
    subst (ShowsAfter row before) (echoed-all (edited line m) ∙ sym (canonical modes line key h))
    (edited_cases (ShowsAfter row before) line m k (back row before line (length line - 1) s) (back row before line 0 s) (text row before line m s))

pub screen_shows_line : ScreenShowsLine
screen_shows_line modes line [] before row h e k s = s
screen_shows_line modes line (key ∷ keys) before row h e k s =
    let p = and_parts _ _ k in
    let after = key_typed modes line key in
    let rest = typed modes after.line keys in
    let P : Row → Type 0 = λ r. Shows r before rest.line in
    subst P (sym (after_bytes-append row (echo_bytes after.echo) rest.screen))
    (screen_shows_line modes after.line keys before (after_bytes row (echo_bytes after.echo)) h e p.1 (key-shows row modes line before key h e p.0 s))
