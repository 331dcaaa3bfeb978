-- Flushes are sent down (streamio(7): I_FLUSH, I_FLUSHBAND).
use Rattle.std.specs.Prelude.{ℕ, ◌||◌, not, Bool, Option, None, Some, List, [], ◌∷◌}
use Rattle.strm_msg.specs.Message.{bare}
use Rattle.strm_msg.specs.declared.kind.MsgKind.TheVariants.{MFlush}
use Rattle.strm_msg.specs.declared.words.End.{End}
use Rattle.strm_module.specs.Kinds.{Meaning}
use Rattle.strm_chain.specs.declared.spot.Spot.TheVariants.{Down}
use Rattle.strm_chain_ends.specs.Image.{Image, end_of}
use Rattle.strm_chain.specs.Deliver.{deliver}
use Rattle.strm_head_calls.specs.declared.refusal.Refusal.{Refusal}
use Rattle.strm_head_calls.specs.declared.refusal.Refusal.TheVariants.{Invalid, HungUp}
use Rattle.strm_head_calls.specs.declared.answer.Reply.TheVariants as Reply
use Rattle.strm_head_calls.specs.Effect.{Effect, effect}

-- the refusals of a flush: neither side is to be flushed, and an end that is hung up
abbrev pub flush_refusals : {K : Type 0} → Image K → End → Bool → Bool → List (Bool × Refusal)
flush_refusals image e r w = (not (r || w), Invalid) ∷ ((end_of image e).state.hung, HungUp) ∷ []

-- for kinds of any meaning
module _ {K : Type 0} (means : Meaning K) where
  -- a flush goes down from the head, of all bands or of one
  abbrev pub flushed_of : Image K → End → Bool → Bool → Option ℕ → Image K
  flushed_of image e r w band = deliver means image (Down e 1) (bare (MFlush r w band))

  abbrev pub flush_effect : Image K → End → Bool → Bool → Effect (Image K) K
  flush_effect image e r w = effect (flushed_of image e r w None) Reply.Flush

  abbrev pub flush_band_effect : Image K → End → ℕ → Bool → Bool → Effect (Image K) K
  flush_band_effect image e band r w = effect (flushed_of image e r w (Some band)) Reply.FlushBand
