-- The bound of looks does not see what a head remembers.
use Rattle.std.proofs.Common.{◌≡◌, ◌≤◌, ℕ, List, refl}
use Rattle.strm_msg.specs.declared.words.End.{End}
use Rattle.strm_msg.specs.declared.words.End.TheVariants.{A, B}
use Rattle.strm_chain_end.specs.declared.record.Record.{Record}
use Rattle.strm_chain_ends.specs.declared.place.Place.{Place}
use Rattle.strm_chain_ends.specs.Image.{Image, with_state}
use Rattle.strm_chain.specs.Count.{most_looks}
use Rattle.strm_head_calls.specs.declared.answer.Reply.{Reply}
use Rattle.strm_head_calls.specs.declared.answer.Answer.{Answer}
use Rattle.strm_head_calls.specs.declared.answer.Answer.TheVariants.{Done}
use Rattle.strm_head.specs.StepResult.{IsBounded}

state_looks : {K : Type 0} (effect mid : Image K) (e : End) (r : Record) (moves : List Place) → most_looks effect moves (with_state mid e r) ≡ most_looks effect moves mid
state_looks effect mid A r moves = refl
state_looks effect mid B r moves = refl

-- a call that is done after services, and then changes what a head remembers
pub bounded_after : {K : Type 0} (effect mid new : Image K) (e : End) (r : Record) (answer : Answer) (reply : Reply) (made moves : List Place) (count looks : ℕ) → answer ≡ Done reply → moves ≡ made → looks ≡ count → new ≡ with_state mid e r → count ≤ most_looks effect made mid → IsBounded effect answer moves looks new
bounded_after effect mid new e r answer reply made moves count looks is at by to less =
    rw (is, at, by, to, state_looks effect mid e r made) less
