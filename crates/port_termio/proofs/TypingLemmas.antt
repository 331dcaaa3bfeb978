-- What keys do one after another.
use Rattle.std.proofs.Common.{◌≡◌, ℕ, ◌+◌, ◌-◌, ◌<◌, ◌≤◌, Bool, true, false, not, cond, List, [], ◌∷◌, ◌++◌, None, refl, ap, sym, ◌∙◌, append_assoc, append-nil, length, arith, map, nat_lt, nat_le}
use Rattle.std.specs.Prelude.{option_to_list}
use Rattle.std.specs.List.{list_all, concat}
use Rattle.std.proofs.lemmas.Bool.{lt-ltb, le-leb, ltb-true, and_parts, and_from, cond_both, eqb-true}
use Rattle.std.proofs.lemmas.List.Folds.{list_all-append}
use Rattle.std.proofs.lemmas.List.{length_push, length-take}
use Rattle.port_termio.specs.declared.modes.Modes.{Modes}
use Rattle.port_termio.specs.declared.echo.Echo.{Echo}
use Rattle.port_termio.specs.declared.echo.Echo.TheVariants.{Nothing, Key, NewLine, Bell}
use Rattle.port_termio.specs.Edit.{meant, is_nl, is_end, is_kill, is_text, shown, shown_line, echo_bytes, After, ended, kept, taken_back, text_typed, edited, raw, echoed, key_typed, Typed, by_key, and_then, typed}
use Rattle.port_termio.specs.EditLaws.{are_text, ReadsAs, PlainLineIsRead, PlainLineIsShown, KillTakesBackAll, NothingShownWithoutEcho, RawIsRead, PiecesAreOneTyping, LinesAreShort}
use Rattle.port_termio.proofs.KeyLemmas.{canonical, not_canonical, edited-text, edited_cases, edited_any}

-- ---- pieces

pub and_then-assoc : (a b c : Typed) → and_then a (and_then b c) ≡ and_then (and_then a b) c
and_then-assoc a b c =
    let made : List (List ℕ) → List ℕ → Typed = λ lines screen. record { lines = lines; line = c.line; screen = screen } in
    ap (λ t. made t (a.screen ++ (b.screen ++ c.screen))) (sym (append_assoc a.lines b.lines c.lines))
    ∙ ap (λ t. made ((a.lines ++ b.lines) ++ c.lines) t) (sym (append_assoc a.screen b.screen c.screen))

pub pieces_are_one_typing : PiecesAreOneTyping
pieces_are_one_typing modes line [] more = refl
pieces_are_one_typing modes line (key ∷ piece) more =
    let after = key_typed modes line key in
    let first = typed modes after.line piece in
    ap (and_then (by_key after)) (pieces_are_one_typing modes after.line piece more)
    ∙ and_then-assoc (by_key after) first (typed modes first.line more)

-- ---- nothing is shown without ECHO

pub nothing_shown_without_echo : NothingShownWithoutEcho
nothing_shown_without_echo modes line [] h = refl
nothing_shown_without_echo modes line (key ∷ keys) h =
    let after = key_typed modes line key in
    ap (λ b. echo_bytes (cond b (cond modes.icanon (edited line (meant modes key)) (raw line (meant modes key))).echo Nothing) ++ (typed modes after.line keys).screen) h
    ∙ nothing_shown_without_echo modes after.line keys h

-- ---- without ICANON

pub raw_is_read : RawIsRead
raw_is_read modes line [] h = (refl, refl)
raw_is_read modes line (key ∷ keys) h =
    let rest = raw_is_read modes line keys h in
    let e = not_canonical modes line key h in
    let step : (after : After) → after ≡ echoed modes (raw line (meant modes key)) → (concat (and_then (by_key after) (typed modes after.line keys)).lines ≡ meant modes key ∷ map (meant modes) keys) × ((typed modes after.line keys).line ≡ line) =
    λ after e. (
      ap (λ (a : After). concat (option_to_list a.up ++ (typed modes a.line keys).lines)) e ∙ ap (λ t. meant modes key ∷ t) rest.0,
      ap (λ (a : After). (typed modes a.line keys).line) e ∙ rest.1,
    ) in
    step (key_typed modes line key) e

-- ---- keys that end no line

-- a key that sends nothing up reads as the line that it leaves
pub silent : (modes : Modes) (line : List ℕ) (key : ℕ) (left more : List ℕ) → (key_typed modes line key).up ≡ None → (key_typed modes line key).line ≡ left → ReadsAs (typed modes line (key ∷ more)) (typed modes left more)
silent modes line key left more hu hl =
    let after = key_typed modes line key in
    record {
      lines =
          ap (λ u. option_to_list u ++ (typed modes after.line more).lines) hu
          ∙ ap (λ l. (typed modes l more).lines) hl;
      line = ap (λ l. (typed modes l more).line) hl;
    }

reads_by : (a b c : Typed) → ReadsAs a b → ReadsAs b c → ReadsAs a c
reads_by a b c h k = record { lines = h.lines ∙ k.lines; line = h.line ∙ k.line }

text-none : (line : List ℕ) (key : ℕ) → (text_typed line key).up ≡ None
text-none line key =
    let step : (b : Bool) → (cond b (kept (line ++ key ∷ []) (Key key)) (kept line Bell)).up ≡ None = elim [ true ↦ refl | false ↦ refl ] in
    step (nat_lt (length line) 255)

pub no_end-none : (modes : Modes) (line : List ℕ) (key : ℕ) → modes.icanon ≡ true → not (is_end (meant modes key)) ≡ true → (key_typed modes line key).up ≡ None
no_end-none modes line key h k =
    ap (λ (a : After). a.up) (canonical modes line key h)
    ∙ edited_cases (λ after. after.up ≡ None) line (meant modes key) k refl refl (text-none line (meant modes key))

kill-edited : (line : List ℕ) (key : ℕ) → is_kill key ≡ true → edited line key ≡ taken_back line []
kill-edited line key h =
    ap (edited line) (eqb-true key 21 h)

pub kill_takes_back_all : KillTakesBackAll
kill_takes_back_all modes line [] more kill h k e =
    let a = canonical modes line kill h ∙ ap (echoed modes) (kill-edited line (meant modes kill) e) in
    silent modes line kill [] more (ap (λ (t : After). t.up) a) (ap (λ (t : After). t.line) a)
kill_takes_back_all modes line (key ∷ keys) more kill h k e =
    let p = and_parts _ _ k in
    let after = key_typed modes line key in
    reads_by _ _ _
    (silent modes line key after.line (keys ++ kill ∷ more) (no_end-none modes line key h p.0) refl)
    (kill_takes_back_all modes after.line keys more kill h p.1 e)

-- ---- text

text-room : (line : List ℕ) (key : ℕ) → length line < 255 → text_typed line key ≡ kept (line ++ key ∷ []) (Key key)
text-room line key h =
    ap (λ b. cond b (kept (line ++ key ∷ []) (Key key)) (kept line Bell)) (lt-ltb (length line) 255 h)

-- a key of text that the line takes
pub taken : (modes : Modes) (line : List ℕ) (key : ℕ) → modes.icanon ≡ true → is_text (meant modes key) ≡ true → length line < 255 → key_typed modes line key ≡ echoed modes (kept (line ++ meant modes key ∷ []) (Key (meant modes key)))
taken modes line key h k r =
    canonical modes line key h ∙ ap (echoed modes) (edited-text line (meant modes key) k ∙ text-room line (meant modes key) r)

-- what keys of text do that the line takes
record Taken (modes : Modes) (line keys : List ℕ) : Type 0 where
  sent : (typed modes line keys).lines ≡ []
  left : (typed modes line keys).line ≡ line ++ map (meant modes) keys
  seen : modes.echo ≡ true → (typed modes line keys).screen ≡ shown_line (map (meant modes) keys)

taken-all : (modes : Modes) (line keys : List ℕ) → modes.icanon ≡ true → are_text modes keys ≡ true → length line + length keys ≤ 255 → Taken modes line keys
taken-all modes line [] h k r =
    record { sent = refl; left = sym (append-nil line); seen = λ e. refl }
taken-all modes line (key ∷ keys) h k r =
    let m = meant modes key in
    let p = and_parts _ _ k in
    let a = taken modes line key h p.0 (omega arith) in
    let next : List ℕ = line ++ m ∷ [] in
    let rest = taken-all modes next keys h p.1 (omega (arith, length_push line m)) in
    record {
      sent = ap (λ (t : After). option_to_list t.up ++ (typed modes t.line keys).lines) a ∙ rest.sent;
      left = ap (λ (t : After). (typed modes t.line keys).line) a ∙ rest.left ∙ append_assoc line (m ∷ []) (map (meant modes) keys);
      seen = λ e.
          ap (λ (t : After). echo_bytes t.echo ++ (typed modes t.line keys).screen) a
          ∙ ap (λ b. echo_bytes (cond b (Key m) Nothing) ++ (typed modes next keys).screen) e
          ∙ ap (λ t. shown m ++ t) (rest.seen e);
    }

nl-edited : (line : List ℕ) (key : ℕ) → is_nl key ≡ true → edited line key ≡ ended (line ++ 10 ∷ []) NewLine
nl-edited line key h = ap (edited line) (eqb-true key 10 h)

nl-typed : (modes : Modes) (line : List ℕ) (nl : ℕ) → modes.icanon ≡ true → is_nl (meant modes nl) ≡ true → key_typed modes line nl ≡ echoed modes (ended (line ++ 10 ∷ []) NewLine)
nl-typed modes line nl h k = canonical modes line nl h ∙ ap (echoed modes) (nl-edited line (meant modes nl) k)

pub plain_line_is_read : PlainLineIsRead
plain_line_is_read modes keys nl h k r e =
    let t = taken-all modes [] keys h k (omega arith) in
    let first = typed modes [] keys in
    let a = nl-typed modes first.line nl h e in
    let p = pieces_are_one_typing modes [] keys (nl ∷ []) in (
      ap (λ (t : Typed). t.lines) p
          ∙ ap (λ l. l ++ (option_to_list (key_typed modes first.line nl).up ++ [])) t.sent
          ∙ ap (λ (t : After). option_to_list t.up ++ []) a
          ∙ ap (λ l. (l ++ 10 ∷ []) ∷ []) t.left,
      ap (λ (t : Typed). t.line) p ∙ ap (λ (t : After). t.line) a,
    )

pub plain_line_is_shown : PlainLineIsShown
plain_line_is_shown modes keys nl h s k r e =
    let t = taken-all modes [] keys h k (omega arith) in
    let first = typed modes [] keys in
    let a = nl-typed modes first.line nl h e in
    let p = pieces_are_one_typing modes [] keys (nl ∷ []) in
    ap (λ (t : Typed). t.screen) p
    ∙ ap (λ x. x ++ (echo_bytes (key_typed modes first.line nl).echo ++ [])) (t.seen s)
    ∙ ap (λ (x : After). shown_line (map (meant modes) keys) ++ (echo_bytes x.echo ++ [])) a
    ∙ ap (λ b. shown_line (map (meant modes) keys) ++ (echo_bytes (cond b NewLine Nothing) ++ [])) s

-- ---- the length of lines

abbrev is_short : List ℕ → Bool
is_short up = nat_le (length up) 256

-- a key of a short line leaves a short line, and sends one up if it sends one
record IsShort (after : After) : Type 0 where
  sent : list_all is_short (option_to_list after.up) ≡ true
  left : length after.line ≤ 255

sent-short : (line : List ℕ) (echo : Echo) → length line ≤ 256 → IsShort (ended line echo)
sent-short line echo h = record { sent = and_from _ _ (le-leb (length line) 256 h) refl; left = omega arith }

text-short : (line : List ℕ) (key : ℕ) → length line ≤ 255 → IsShort (text_typed line key)
text-short line key h =
    cond_both (nat_lt (length line) 255) (kept (line ++ key ∷ []) (Key key)) (kept line Bell) IsShort
    (λ e. record { sent = refl; left = omega (arith, length_push line key, ltb-true (length line) 255 e) })
    (λ e. record { sent = refl; left = h })

edited-short : (line : List ℕ) (key : ℕ) → length line ≤ 255 → IsShort (edited line key)
edited-short line key h =
    edited_any IsShort line key
    (sent-short (line ++ key ∷ []) NewLine (omega (arith, length_push line key)))
    (sent-short line Nothing (omega arith))
    (record { sent = refl; left = omega (arith, length-take (length line - 1) line) })
    (record { sent = refl; left = omega arith })
    (text-short line key h)

typed-short : (modes : Modes) (line : List ℕ) (key : ℕ) → length line ≤ 255 → IsShort (key_typed modes line key)
typed-short modes line key h =
    let m = meant modes key in
    cond_both modes.icanon (edited line m) (raw line m) (λ after. IsShort (echoed modes after))
    (λ e. let s = edited-short line m h in record { sent = s.sent; left = s.left })
    (λ e. record { sent = refl; left = h })

pub lines_are_short : LinesAreShort
lines_are_short modes line [] h = (refl, h)
lines_are_short modes line (key ∷ keys) h =
    let after = key_typed modes line key in
    let s = typed-short modes line key h in
    let rest = lines_are_short modes after.line keys s.left in
    (list_all-append is_short (option_to_list after.up) (typed modes after.line keys).lines ∙ and_from _ _ s.sent rest.0, rest.1)
