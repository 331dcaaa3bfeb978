-- The way of a message, and its effects on its way (Programmer's Guide: STREAMS, "Message Processing";
-- putnext(9F)). Modules are counted from 1, which is the topmost; on the way up 0 is the head.
use Rattle.std.specs.Prelude.{ℕ, ◌+◌, ◌-◌, ◌&&◌, nat_le, Bool, true, false, Option, Some, None, fold, suc, zero}
use Rattle.strm_msg.specs.Message.{Msg, bare, ack_msg}
use Rattle.strm_msg.specs.declared.kind.MsgKind.TheVariants.{MSetopts}
use Rattle.strm_msg.specs.declared.words.End.{End}
use Rattle.strm_msg.specs.declared.words.Side.{Side}
use Rattle.strm_msg.specs.declared.words.Side.TheVariants.{Rd, Wr}
use Rattle.strm_module.specs.Kinds.{OutList, Meaning}
use Rattle.strm_module.specs.Driver.{has_end, partner}
use Rattle.strm_chain_end.specs.End.{EndStep, end_gets}
use Rattle.strm_chain_end.specs.Head.{put_at_head}
use Rattle.strm_chain_end.specs.declared.driver.DriverSends.{DriverSends}
use Rattle.strm_chain_end.specs.declared.driver.DriverSends.TheVariants.{Nothing, Reply, Across, Options}
use Rattle.strm_chain_ends.specs.Image.{Image, end_of, with_end, count_of, put_at_driver, driven}
use Rattle.strm_chain.specs.declared.spot.Spot.{Spot}
use Rattle.strm_chain.specs.declared.spot.Spot.TheVariants.{Down, Up}

-- an image, and the messages that a module sends from there
pub record ModuleStep (K : Type 0) : Type 0 where
  pub image : Image K
  pub outs : OutList

-- one end has changed, and one of its modules sends this
abbrev pub module_step : {K : Type 0} → Image K → End → EndStep K → ModuleStep K
module_step image e g = record { image = with_end image e g.state; outs = g.outs }

-- the image after a message that goes on from a head or a driver of an end
abbrev pub Sender : Type 0 → Type 0
Sender K = End → Image K → Msg → Image K

-- the same with a number of modules still ahead
abbrev pub SenderPast : Type 0 → Type 0
SenderPast K = End → ℕ → Image K → Msg → Image K

abbrev pub send_on : {K : Type 0} → Sender K → End → Image K → Option Msg → Image K
send_on send e image None = image
send_on send e image (Some m) = send e image m

-- a message comes to a head from below; send is the way of a message that it sends down
abbrev pub head_gets : {K : Type 0} → Sender K → Sender K
head_gets send e image m =
    let h = put_at_head (end_of image e) m in send_on send e (with_end image e h.state) h.sends

-- the messages that a driver sends go up past all modules: a reply up the same end, a message that it carries
-- across up the partner. Options go up the same end, to their end before the ack of the ioctl that asked for
-- them
abbrev pub driver_sends : {K : Type 0} → SenderPast K → Image K → End → Image K → DriverSends → Image K
driver_sends up old e image Nothing = image
driver_sends up old e image (Reply m) = up e (count_of old e) image m
driver_sends up old e image (Across m) =
    let p = partner old.driver e in up p (count_of old p) image m
driver_sends up old e image (Options mode prot marks id) =
    let n = count_of old e in up e n (up e n image (bare (MSetopts mode prot marks))) (ack_msg id 0 None)

-- a message comes to the driver
abbrev pub driver_gets : {K : Type 0} → SenderPast K → Sender K
driver_gets up e image m =
    driver_sends up image e (driven image e m) (put_at_driver image.driver e (end_of image e) m).sends

-- an out of the write side goes on down, one of the read side up
abbrev pub route : {K : Type 0} → (Image K → Msg → Image K) → (Image K → Msg → Image K) → Image K → Side × Msg → Image K
route down up image (Wr, m) = down image m
route down up image (Rd, m) = up image m

-- a head that sends nothing: a message that another sent down comes to it without FLUSHW
abbrev pub sends_nothing : {K : Type 0} → Sender K
sends_nothing e image m = image

-- for kinds of any meaning
module _ {K : Type 0} (means : Meaning K) where
  -- a message comes to a module
  abbrev pub put_at : Image K → End → ℕ → Side → Msg → ModuleStep K
  put_at image e i side m = module_step image e (end_gets means (end_of image e) i side m)

  -- up through the n topmost modules, the lowest of them first, and then to the head: each out is carried to
  -- its end before the next
  unfoldable pub up_through : Sender K → SenderPast K
  up_through head e zero image m = head e image m
  up_through head e (suc n) image m =
      let p = put_at image e (suc n) Rd m in
      fold (λ j out. up_through head e n j out.1) p.image p.outs

  -- down through the n lowest modules, the topmost of them first, and then to the driver: each out is carried
  -- to its end before the next
  unfoldable pub down_through : SenderPast K → SenderPast K
  down_through up e zero image m = driver_gets up e image m
  down_through up e (suc n) image m =
      let i = count_of image e - n in
      let p = put_at image e i Wr m in
      fold (λ j out. route (λ k o. down_through up e n k o) (λ k o. up e (i - 1) k o) j out) p.image p.outs

  -- the messages that a head sends down, where send is the way of the messages that heads send because of
  -- them
  abbrev pub sent_down_with : Sender K → Sender K
  sent_down_with send e image m =
      down_through (λ p n j o. up_through (head_gets send) p n j o) e (count_of image e) image m

  -- the messages that a head sends down; a head to which something of them comes back sends nothing
  abbrev pub sent_down : Sender K
  sent_down e image m = sent_down_with sends_nothing e image m

  -- the sender of a head: none, where a head's own message has come back
  abbrev pub sends : Bool → Sender K
  sends true = sends_nothing
  sends false = sent_down

  abbrev pub up : Bool → SenderPast K
  up head_sent e n image m = up_through (head_gets (sends head_sent)) e n image m

  abbrev pub down : Bool → SenderPast K
  down head_sent e n image m = down_through (up head_sent) e n image m

  -- a message is handed in at a spot: down at k + 1 is the driver, below k modules, and up at 0 the head
  abbrev pub deliver : Image K → Spot → Msg → Image K
  deliver image (Down e i) m = down false e (count_of image e + 1 - i) image m
  deliver image (Up e i) m = up false e i image m

-- whether a spot is there, at an end that the driver has
abbrev pub is_there : {K : Type 0} → Image K → Spot → Bool
is_there image (Down e i) = has_end image.driver e && nat_le 1 i && nat_le i (count_of image e + 1)
is_there image (Up e i) = has_end image.driver e && nat_le i (count_of image e)
