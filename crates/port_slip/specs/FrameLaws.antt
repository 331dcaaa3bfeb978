-- The purpose of frames (RFC 1055).
use Rattle.std.specs.Prelude.{◌≡◌, ℕ, suc, ◌+◌, ◌-◌, ◌<◌, ◌≤◌, true, List, ◌++◌, length}
use Rattle.port_slip.specs.declared.framing.TheConstants.{LONGEST_DATAGRAM}
use Rattle.port_slip.specs.declared.kinds.TheConstants.{MOST_KEPT}
use Rattle.port_slip.specs.Frame.{has_no_end, escaped, framed, datagram_of, received, with_datagram, with_datagrams}

-- bytes that can be sent in a frame: at least one, and no more than those of the longest datagram
pub record IsDatagram (bytes : List ℕ) : Type 0 where
  pub some : 0 < length bytes
  pub most : length bytes ≤ LONGEST_DATAGRAM

-- the bytes of a frame have no END, so that an END ends the frame
abbrev pub EscapingLeavesNoEnd : Type 0
EscapingLeavesNoEnd = (bytes : List ℕ) → has_no_end (escaped bytes) ≡ true

-- a datagram that was framed is received unchanged, and then the bytes behind its frame are received
abbrev pub FramedIsReceived : Type 0
FramedIsReceived =
    (n : ℕ) (datagram behind : List ℕ) → IsDatagram datagram →
    received (suc n) (framed datagram ++ behind) ≡ with_datagram datagram (received n behind)

-- noise before a frame is received apart from it, and the frame's datagram is received unchanged
abbrev pub NoiseStaysApart : Type 0
NoiseStaysApart =
    (n : ℕ) (noise datagram behind : List ℕ) → 0 < length noise → has_no_end noise ≡ true → IsDatagram datagram →
    received (suc (suc n)) (noise ++ (framed datagram ++ behind))
    ≡ with_datagram (datagram_of noise) (with_datagram datagram (received n behind))

-- the bytes of a line may come in messages of any length: once the first of them are received, the others go
-- on from there as if all had come at once; so a frame may come in pieces, the bytes that are kept of an
-- unfinished frame are enough, and a datagram that is not among the first n is not lost
abbrev pub PiecesAreOneLine : Type 0
PiecesAreOneLine =
    (n : ℕ) (piece more : List ℕ) →
    let first = received n piece in
    received n (piece ++ more) ≡ with_datagrams first.datagrams (received (n - length first.datagrams) (first.kept ++ more))

-- datagrams that did not go up at once go up behind those that did, in order
abbrev pub RestFollows : Type 0
RestFollows =
    (m n : ℕ) (bytes : List ℕ) →
    let first = received m bytes in
    length first.datagrams ≡ m → received (m + n) bytes ≡ with_datagrams first.datagrams (received n first.kept)

-- noise without an END cannot pile up: if fewer than n datagrams were received, at most `MOST_KEPT` bytes are
-- kept
abbrev pub UnfinishedIsBounded : Type 0
UnfinishedIsBounded =
    (n : ℕ) (bytes : List ℕ) → length (received n bytes).datagrams < n → length (received n bytes).kept ≤ MOST_KEPT
