-- Keys that come in a message, and text that goes to the terminal (termio(7)).
use Rattle.std.specs.Prelude.{◌≡◌, ℕ, ◌==◌, true, false, Option, Some, None, List, [], ◌∷◌, ◌++◌, if◌then◌else◌, drop, map, option_map, option_to_list, is_some}
use Rattle.std.specs.List.{flat_map, concat}
use Rattle.port_termio.specs.declared.modes.Modes.{Modes}
use Rattle.port_termio.specs.declared.typing.Stretch.{Stretch}
use Rattle.port_termio.specs.Edit.{After, Editing, Typed, and_then, echo_bytes, key_typed, meant, typed, is_empty}

-- what keys do up to the first that ends a line: the keys that are left, the bytes that go up, if any do, the
-- line that is being typed, and the bytes that are shown
pub record Typed_on : Type 0 where
  pub left : List ℕ
  pub up : Option (List ℕ)
  pub line : List ℕ
  pub screen : List ℕ

abbrev pub none_typed : List ℕ → Typed_on
none_typed line = record { left = []; up = None; line = line; screen = [] }

-- a key that sends something up, before the keys that are left
abbrev pub stopped_by : After → List ℕ → Typed_on
stopped_by after keys = record { left = keys; up = after.up; line = after.line; screen = echo_bytes after.echo }

abbrev pub shown_before : List ℕ → Typed_on → Typed_on
shown_before bytes more = record more { screen = bytes ++ more.screen }

-- with ICANON keys are typed up to the first that ends a line
abbrev pub line_typed : Modes → List ℕ → List ℕ → Typed_on
line_typed modes line [] = none_typed line
line_typed modes line (key ∷ keys) =
    let after = key_typed modes line key in
    if is_some after.up then stopped_by after keys else shown_before (echo_bytes after.echo) (line_typed modes after.line keys)

-- without ICANON all keys go up together
abbrev pub raw_typed : Modes → List ℕ → List ℕ → Typed_on
raw_typed modes line keys =
    let all = typed modes line keys in
    record { left = []; up = if is_empty keys then None else Some (concat all.lines); line = all.line; screen = all.screen }

abbrev pub typed_on : Modes → List ℕ → List ℕ → Typed_on
typed_on modes line keys = if modes.icanon then line_typed modes line keys else raw_typed modes line keys

-- what these keys have done, as far as they were typed
abbrev pub as_typed : Typed_on → Typed
as_typed did = record { lines = option_to_list did.up; line = did.line; screen = did.screen }

-- with ICANON a message is typed line by line: the keys that are left go on from the line that is being
-- typed, as if all had been typed at once
abbrev pub MessageIsTyped : Type 0
MessageIsTyped =
    (modes : Modes) (line keys : List ℕ) → modes.icanon ≡ true → let did = typed_on modes line keys in
    typed modes line keys ≡ and_then (as_typed did) (typed modes did.line did.left)

-- without it all its keys go up at once, as they were meant, and none is left
abbrev pub RawMessageIsTyped : Type 0
RawMessageIsTyped =
    (modes : Modes) (line keys : List ℕ) → modes.icanon ≡ false → let did = typed_on modes line keys in
    (concat (option_to_list did.up) ≡ map (meant modes) keys) × (did.line ≡ line) × (did.left ≡ [])

-- a text as the terminal gets it: with ONLCR an NL is a CR and an NL
abbrev pub shown_byte : ℕ → List ℕ
shown_byte byte = if byte == 10 then 13 ∷ 10 ∷ [] else byte ∷ []

abbrev pub shown_text : Modes → List ℕ → List ℕ
shown_text modes text = if modes.onlcr then flat_map shown_byte text else text

-- ---- the values of the code

-- what a stretch of these keys has done
abbrev pub stretch : Editing → List ℕ → Stretch → Typed_on
stretch editing keys did = record {
  left = drop did.keys keys;
  up = option_map (λ up. up.items) did.up;
  line = editing.line;
  screen = did.screen.items;
}
