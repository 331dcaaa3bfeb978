-- Ticks pass for the modules of an end (timeout(9F)).
use Rattle.std.specs.Prelude.{ℕ, ◌==◌, Bool, List, [], ◌∷◌}
use Rattle.strm_msg.specs.declared.words.End.{End}
use Rattle.strm_module.specs.Kinds.{Meaning}
use Rattle.strm_chain_end.specs.End.{expired_end}
use Rattle.strm_chain_ends.specs.Image.{Image, end_of, with_end}
use Rattle.strm_head_calls.specs.declared.refusal.Refusal.{Refusal}
use Rattle.strm_head_calls.specs.declared.refusal.Refusal.TheVariants.{Invalid}
use Rattle.strm_head_calls.specs.declared.answer.Reply.TheVariants.{Tick}
use Rattle.strm_head_calls.specs.Effect.{Effect, effect}

-- a tick's own refusal: no ticks
abbrev pub tick_refusals : ℕ → List (Bool × Refusal)
tick_refusals ticks = (ticks == 0, Invalid) ∷ []

-- the ticks pass for each module of the end, and nothing else changes
abbrev pub tick_effect : {K : Type 0} → Meaning K → Image K → End → ℕ → Effect (Image K) K
tick_effect means image e ticks = effect (with_end image e (expired_end means (end_of image e) ticks)) Tick
