-- The state of an end as poll(2) reports it (Programmer's Guide: STREAMS, "Input and Output Polling").
use Rattle.std.specs.Prelude.{ℕ, suc, zero, ◌&&◌, ◌||◌, not, Bool, true, false, Option, Some, None, is_some, is_none, option_map, slice_get, if◌then◌else◌}
use Rattle.strm_msg.specs.declared.words.End.{End}
use Rattle.strm_queue.specs.Queue.{has_band, is_full}
use Rattle.strm_chain_end.specs.Canput.{Fill, below, full_in}
use Rattle.strm_chain_ends.specs.Image.{Image, end_of}
use Rattle.strm_head_calls.specs.declared.answer.Polled.{Polled}
use Rattle.strm_head_calls.specs.declared.answer.Reply.TheVariants as Reply
use Rattle.strm_head_calls.specs.Reply.{received_of}
use Rattle.strm_head_calls.specs.Effect.{Effect, effect}

-- the state of an end of which nothing holds
abbrev pub nothing : Polled
nothing = record { first = None; out = false; wrband = false; err = false; hup = false; nval = false }

-- whether one of the bands above 0, up to this one, has a message and is not full
unfoldable pub has_open_band : Fill → ℕ → Bool
has_open_band q zero = false
has_open_band q (suc b) = (has_band q.messages (suc b) && not (is_full q.marks q.messages (suc b))) || has_open_band q b

-- whether such a band is in the first write queue, if there is one
abbrev pub open_in : Option Fill → Bool
open_in None = false
open_in (Some q) = has_open_band q 255

-- the state of an open end of a stream that is not broken: its messages, unless an error of the read side
-- came up, and its room, unless one of the write side did or the end is hung up
abbrev pub polled_open : {K : Type 0} → Image K → End → Polled
polled_open image e =
    let s = end_of image e in
    let q = below image.driver s 0 in
    let receives = is_none s.state.rd_errno in
    let sends = is_none s.state.wr_errno && not s.state.hung in
    record {
      first = if receives then option_map received_of (slice_get s.head 0) else None;
      out = sends && not (full_in q 0);
      wrband = sends && open_in q;
      err = is_some s.state.rd_errno || is_some s.state.wr_errno;
      hup = s.state.hung;
      nval = false;
    }

-- of a closed end that it is closed, and of a broken stream that an error came up, and nothing else
abbrev pub polled : {K : Type 0} → Image K → End → Polled
polled image e =
    if not (end_of image e).is_open then record nothing { nval = true }
    else (if image.broken then record nothing { err = true } else polled_open image e)

abbrev pub poll_effect : {K : Type 0} → Image K → End → Effect (Image K) K
poll_effect image e = effect image (Reply.Poll (polled image e))
