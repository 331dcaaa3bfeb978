-- SLIP: datagrams on a line of bytes (RFC 1055). END is 192 and ESC is 219; ESC 220 stands for END
-- within a frame, and ESC 221 for ESC.
use Rattle.std.specs.Prelude.{ℕ, zero, suc, ◌==◌, not, Bool, Option, Some, None, List, [], ◌∷◌, ◌++◌, if◌then◌else◌, take, option_map, unwrap_or, is_some}
use Rattle.std.specs.List.{flat_map, list_all}
use Rattle.port_slip.specs.declared.framing.TheConstants.{LONGEST_DATAGRAM}
use Rattle.port_slip.specs.declared.kinds.TheConstants.{MOST_KEPT}

abbrev pub is_end : ℕ → Bool
is_end b = b == 192

abbrev pub is_esc : ℕ → Bool
is_esc b = b == 219

-- a byte of a datagram, as it is spelt in a frame
abbrev pub escaped_byte : ℕ → List ℕ
escaped_byte b =
    if is_end b then 219 ∷ 220 ∷ [] else if is_esc b then 219 ∷ 221 ∷ [] else b ∷ []

abbrev pub escaped : List ℕ → List ℕ
escaped bytes = flat_map escaped_byte bytes

-- a datagram as a frame: END, its bytes escaped, and END; the END in front ends the noise that a receiver may
-- hold
abbrev pub framed : List ℕ → List ℕ
framed datagram = 192 ∷ (escaped datagram ++ 192 ∷ [])

-- the byte that a byte behind an ESC stands for; any but 220 and 221 stands for itself, and nobody should
-- send it there
abbrev pub meant_by : ℕ → ℕ
meant_by b = if b == 220 then 192 else if b == 221 then 219 else b

-- the datagram of a frame's bytes; an END always ends a frame, while the code of RFC 1055 would take one
-- behind an ESC into the datagram; nobody should send that either, and here the ESC stands for itself
abbrev pub unescaped : List ℕ → List ℕ
unescaped [] = []
unescaped (a ∷ []) = a ∷ []
unescaped (a ∷ (b ∷ bytes)) =
    if is_esc a then meant_by b ∷ unescaped bytes else a ∷ unescaped (b ∷ bytes)

-- the datagram of a frame; the bytes behind those of the longest datagram are dropped
abbrev pub datagram_of : List ℕ → List ℕ
datagram_of frame = take LONGEST_DATAGRAM (unescaped frame)

-- whether no byte is an END
abbrev pub has_no_end : List ℕ → Bool
has_no_end bytes = list_all (λ b. not (is_end b)) bytes

-- the bytes before the first END and those behind it, if there is an END
abbrev pub cut : List ℕ → Option (List ℕ × List ℕ)
cut [] = None
cut (b ∷ bytes) =
    if is_end b then Some ([], bytes) else option_map (λ c. (b ∷ c.0, c.1)) (cut bytes)

-- the bytes without the ENDs in front; a frame without bytes is no datagram
abbrev pub begun : List ℕ → List ℕ
begun [] = []
begun (b ∷ bytes) = if is_end b then begun bytes else b ∷ bytes

-- the datagrams of bytes from a line, in order, and the bytes that wait for more
pub record Received : Type 0 where
  pub datagrams : List (List ℕ)
  pub kept : List ℕ

-- a frame that has no END yet; as many of its bytes are kept as can spell any datagram
abbrev pub unfinished : List ℕ → Received
unfinished bytes = record { datagrams = []; kept = take MOST_KEPT bytes }

abbrev pub with_datagram : List ℕ → Received → Received
with_datagram datagram more =
    record { datagrams = datagram ∷ more.datagrams; kept = more.kept }

abbrev pub with_datagrams : List (List ℕ) → Received → Received
with_datagrams datagrams more =
    record { datagrams = datagrams ++ more.datagrams; kept = more.kept }

-- the first datagram, and the bytes behind its frame
abbrev pub first_of : List ℕ → Option (List ℕ × List ℕ)
first_of bytes = option_map (λ c. (datagram_of c.0, c.1)) (cut (begun bytes))

-- whether a datagram could go up, since its frame has ended
abbrev pub holds_frame : List ℕ → Bool
holds_frame bytes = is_some (cut (begun bytes))

-- the first n datagrams at most; all bytes behind the end of the n-th frame wait unchanged
abbrev pub received : ℕ → List ℕ → Received
received zero bytes = record { datagrams = []; kept = bytes }
received (suc n) bytes =
    unwrap_or
    (option_map (λ first. with_datagram first.0 (received n first.1)) (first_of bytes))
    (unfinished (begun bytes))
