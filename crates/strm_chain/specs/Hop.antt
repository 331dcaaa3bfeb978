-- A message on its way, as the body has it. No public clause cites this.
use Rattle.std.specs.Prelude.{ℕ, ◌+◌, ◌-◌, ◌^◌, Bool, List, fold, sum_by, if◌then◌else◌}
use Rattle.strm_msg.specs.Message.{Msg}
use Rattle.strm_msg.specs.declared.words.End.{End}
use Rattle.strm_msg.specs.declared.words.Side.{Side}
use Rattle.strm_msg.specs.declared.words.Side.TheVariants.{Rd, Wr}
use Rattle.strm_module.specs.Kinds.{Meaning}
use Rattle.strm_chain.specs.declared.chain.hop.Hop.{Hop}
use Rattle.strm_chain_ends.specs.Image.{Image, count_of}
use Rattle.strm_chain.specs.Deliver.{up, down}

-- a message that goes up with a number of modules still ahead
abbrev pub up_hop : Bool → End → ℕ → Msg → Hop
up_hop head_sent e n m = record { head_sent = head_sent; side = Rd; end = e; ahead = n; m = m }

abbrev pub down_hop : Bool → End → ℕ → Msg → Hop
down_hop head_sent e n m = record { head_sent = head_sent; side = Wr; end = e; ahead = n; m = m }

-- the hop of a message that module i sends for one that came on a side: up past the modules above it, or down
-- past those below it
abbrev pub hop_of : Bool → Side → End → ℕ → ℕ → Side × Msg → Hop
hop_of head_sent Rd e i below out = up_hop head_sent e (i - 1) out.1
hop_of head_sent Wr e i below (Wr, m) = down_hop head_sent e below m
hop_of head_sent Wr e i below (Rd, m) = up_hop head_sent e (i - 1) m

-- the number of the module that is next where this many modules are still ahead
abbrev pub next_module : {K : Type 0} → Image K → Side → End → ℕ → ℕ
next_module image Rd e n = n
next_module image Wr e n = count_of image e - (n - 1)

-- the number of steps that a message may still go
abbrev pub side_rank : Side → ℕ → ℕ
side_rank Rd n = n + 1
side_rank Wr n = n + 20

abbrev pub rank : Hop → ℕ
rank h = (if h.head_sent then 0 else 100) + side_rank h.side h.ahead

-- a measure that falls where one message makes way for two that go less far
unfoldable pub load : List Hop → ℕ
load hops = sum_by (λ h. 3 ^ rank h) hops

-- for kinds of any meaning
module _ {K : Type 0} (means : Meaning K) where
  -- a message carried to its end
  abbrev pub carry_on : Side → Hop → Image K → Image K
  carry_on Rd h image = up means h.head_sent h.end h.ahead image h.m
  carry_on Wr h image = down means h.head_sent h.end h.ahead image h.m

  unfoldable pub carry : Image K → Hop → Image K
  carry image h = carry_on h.side h image

  -- several messages, each carried to its end before the next
  abbrev pub deliver_all : Image K → List Hop → Image K
  deliver_all image hops = fold (λ i h. carry i h) image hops
