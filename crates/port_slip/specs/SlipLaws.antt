-- The purpose of a SLIP module.
use Rattle.std.specs.Prelude.{◌≡◌, ℕ, ◌<◌, true, false, Some, List, [], ◌∷◌, length}
use Rattle.strm_msg.specs.Message.{Msg, data_msg}
use Rattle.strm_msg.specs.declared.words.End.{End}
use Rattle.strm_msg.specs.declared.words.Side.TheVariants.{Rd, Wr}
use Rattle.strm_module.specs.Kinds.{passed_on}
use Rattle.strm_module.specs.Shape.{queues_on}
use Rattle.strm_chain_end.specs.Pair.{QueuePair}
use Rattle.strm_chain_end.specs.End.{pair_at}
use Rattle.strm_chain_end.specs.Canput.{slack_in}
use Rattle.strm_chain_ends.specs.declared.place.Place.{Place}
use Rattle.strm_chain_ends.specs.Image.{Image, end_of}
use Rattle.strm_chain_ends.specs.Path.{ahead}
use Rattle.strm_chain_ends.specs.Flow.{IsQuiet}
use Rattle.port_slip.specs.Frame.{has_no_end, holds_frame, datagram_of}
use Rattle.port_slip.specs.FrameLaws.{IsDatagram}
use Rattle.port_slip.specs.Slip.{slip_acts, slip, datagrams_up}
use Rattle.port_slip.specs.declared.kinds.SlipKind.{SlipKind}
use Rattle.port_slip.specs.declared.kinds.SlipKind.TheVariants.{Slip}

-- the frame that a SLIP module sends down for a datagram goes up as that datagram from a SLIP module that
-- keeps nothing, and then keeps nothing again; a module that keeps noise sends the noise up first, apart from
-- the datagram
abbrev pub DatagramsGoThrough : Type 0
DatagramsGoThrough =
    (bytes datagram : List ℕ) (last band : ℕ) → IsDatagram datagram →
    (sent : Msg)
    × (slip_acts (Slip bytes last) Wr (data_msg band datagram) ≡ passed_on (Slip bytes last) Wr sent)
    × (slip_acts (Slip [] last) Rd sent ≡ passed_on (Slip [] band) Rd (data_msg band datagram))
    × ((noise : List ℕ) → 0 < length noise → has_no_end noise ≡ true →
    slip_acts (Slip noise last) Rd sent ≡ record { kind = Slip [] band; outs = datagrams_up band (datagram_of noise ∷ (datagram ∷ [])) })

-- if no place must move, a SLIP module with a read queue that the stream services keeps no whole frame for
-- which the queue above has room; so all datagrams that came in one message have gone up in one event
abbrev pub NothingIsHeldBack : Type 0
NothingIsHeldBack =
    (image : Image SlipKind) (e : End) (i : ℕ) (s : QueuePair SlipKind) (bytes : List ℕ) (band : ℕ) → IsQuiet slip image →
    pair_at (end_of image e).modules i ≡ Some s → s.shape.kind ≡ Slip bytes band → queues_on s.shape Rd ≡ true →
    s.shape.noenable ≡ false → slack_in (ahead image (Place.Rd e i)) band ≡ true → holds_frame bytes ≡ false
