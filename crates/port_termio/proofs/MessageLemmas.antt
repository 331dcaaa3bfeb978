-- The keys of a message.
use Rattle.std.proofs.Common.{◌≡◌, ℕ, cond, Option, Some, None, List, [], ◌∷◌, refl, ap, sym, suc, length, ◌∙◌, append-nil, is_some, map, arith}
use Rattle.std.specs.Prelude.{option_to_list}
use Rattle.std.specs.List.{concat}
use Rattle.std.proofs.lemmas.Bool.{ne_eqb}
use Rattle.port_termio.specs.declared.modes.Modes.{Modes}
use Rattle.port_termio.specs.declared.echo.Echo.{Echo}
use Rattle.port_termio.specs.Edit.{After, Typed, by_key, and_then, echo_bytes, key_typed, meant, typed}
use Rattle.port_termio.specs.Typing.{Typed_on, stopped_by, shown_before, line_typed, raw_typed, as_typed, MessageIsTyped, RawMessageIsTyped}
use Rattle.port_termio.proofs.TypingLemmas.{and_then-assoc, raw_is_read}

-- a stretch and what comes behind it
abbrev whole : Modes → Typed_on → Typed
whole modes did = and_then (as_typed did) (typed modes did.line did.left)

-- behind a key that sends nothing up, what it shows comes first
behind : (modes : Modes) (after : After) (did : Typed_on) → after.up ≡ None → and_then (by_key after) (whole modes did) ≡ whole modes (shown_before (echo_bytes after.echo) did)
behind modes after did h =
    ap (λ (u : Option (List ℕ)). and_then (record { lines = option_to_list u; line = after.line; screen = echo_bytes after.echo }) (whole modes did)) h
    ∙ and_then-assoc (record { lines = []; line = after.line; screen = echo_bytes after.echo }) (as_typed did) (typed modes did.line did.left)

by_up : (modes : Modes) (up : Option (List ℕ)) (line : List ℕ) (echo : Echo) (keys : List ℕ) → typed modes line keys ≡ whole modes (line_typed modes line keys) → let after : After = record { up = up; line = line; echo = echo } in and_then (by_key after) (typed modes line keys) ≡ whole modes (cond (is_some up) (stopped_by after keys) (shown_before (echo_bytes echo) (line_typed modes line keys)))
by_up modes (Some up) line echo keys h = refl
by_up modes None line echo keys h =
    let after : After = record { up = None; line = line; echo = echo } in
    ap (and_then (by_key after)) h ∙ behind modes after (line_typed modes line keys) refl

lines : (modes : Modes) (line keys : List ℕ) → typed modes line keys ≡ whole modes (line_typed modes line keys)
lines modes line [] = refl
lines modes line (key ∷ keys) =
    let after = key_typed modes line key in by_up modes after.up after.line after.echo keys (lines modes after.line keys)

pub message_is_typed : MessageIsTyped
message_is_typed modes line keys h =
    lines modes line keys ∙ ap (λ b. whole modes (cond b (line_typed modes line keys) (raw_typed modes line keys))) (sym h)

raw_up : (modes : Modes) (line keys : List ℕ) → concat (typed modes line keys).lines ≡ map (meant modes) keys → concat (option_to_list (raw_typed modes line keys).up) ≡ map (meant modes) keys
raw_up modes line [] h = refl
raw_up modes line (key ∷ keys) h =
    let all = concat (typed modes line (key ∷ keys)).lines in
    ap (λ b. concat (option_to_list (cond b None (Some all)))) (ne_eqb (suc (length keys)) 0 (λ e. omega arith)) ∙ append-nil all ∙ h

pub raw_message_is_typed : RawMessageIsTyped
raw_message_is_typed modes line keys h =
    let read = raw_is_read modes line keys h in
    let all = ap (λ b. cond b (line_typed modes line keys) (raw_typed modes line keys)) h in (
      ap (λ (did : Typed_on). concat (option_to_list did.up)) all ∙ raw_up modes line keys read.0,
      ap (λ (did : Typed_on). did.line) all ∙ read.1,
      ap (λ (did : Typed_on). did.left) all,
    )
