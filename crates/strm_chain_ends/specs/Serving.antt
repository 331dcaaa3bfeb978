-- Kinds that always serve: flow control is as it is said without turns.
use Rattle.std.specs.Prelude.{◌≡◌, ◌||◌, not, ℕ, Bool, false, Option, Some, None}
use Rattle.strm_msg.specs.Message.{Msg}
use Rattle.strm_msg.specs.declared.words.Side.{Side}
use Rattle.strm_msg.specs.Kind.{is_high}
use Rattle.strm_msg.specs.declared.words.End.{End}
use Rattle.strm_module.specs.Kinds.{Acts, Meaning, serving}
use Rattle.strm_chain_end.specs.Canput.{full_in, slack_in}
use Rattle.strm_chain_ends.specs.declared.place.Place.{Place}
use Rattle.strm_chain_end.specs.End.{expired_end}
use Rattle.strm_chain_ends.specs.Image.{Image, end_of, with_end}
use Rattle.strm_chain_ends.specs.Path.{ahead, front_of}
use Rattle.strm_chain_ends.specs.Flow.{may, is_due}
use Rattle.strm_chain_ends.specs.Held.{AreCalm}

abbrev pub plain_may_front : {K : Type 0} → Image K → Place → Option Msg → Bool
plain_may_front image place None = false
plain_may_front image place (Some m) = is_high m.kind || not (full_in (ahead image place) m.band)

abbrev pub plain_due_front : {K : Type 0} → Image K → Place → Option Msg → Bool
plain_due_front image place None = false
plain_due_front image place (Some m) = is_high m.kind || slack_in (ahead image place) m.band

-- a place may move, and must, by its first message and the queue ahead
pub record ServesWhatWaits {K : Type 0} (acts : Acts K) (answers : K → Side → Bool) : Type 0 where
  pub may : (image : Image K) (place : Place) → AreCalm image →
      may (serving acts answers) image place ≡ plain_may_front image place (front_of image place)
  pub due : (image : Image K) (place : Place) → AreCalm image →
      is_due (serving acts answers) image place ≡ plain_due_front image place (front_of image place)

-- ticks change nothing at all
abbrev pub TicksChangeNothing : {K : Type 0} → Meaning K → Type 0
TicksChangeNothing {K = K} means =
    (image : Image K) (e : End) (ticks : ℕ) → with_end image e (expired_end means (end_of image e) ticks) ≡ image
