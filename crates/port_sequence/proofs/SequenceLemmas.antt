-- What is numbered arrives.
use Rattle.std.proofs.Common.{◌≡◌, ◌+◌, ◌-◌, ◌%◌, ◌^◌, ◌<◌, ◌≤◌, ℕ, List, ◌∷◌, refl, ap, ap₂, sym, ◌∙◌, arith}
use Rattle.strm_msg.specs.Message.{data_msg}
use Rattle.strm_msg.specs.declared.words.Side.TheVariants.{Rd}
use Rattle.strm_module.specs.Kinds.{Action, passed_on}
use Rattle.port_sequence.specs.Sequence.{after, skipped, more_lost}
use Rattle.port_sequence.specs.SequenceLaws.{NumberedArrives}
use Rattle.port_sequence.specs.declared.kinds.Sequence.{Sequence}

-- nothing is skipped where the number is the one that is expected
none_skipped : (n : ℕ) → n < 2 ^ 8 → skipped n n ≡ 0
none_skipped n h = let all : n + (2 ^ 8 - n) ≡ 256 = omega (arith, h) in ap (λ k. k % 256) all

none_lost : (lost : ℕ) → lost ≤ 18446744073709551615 → more_lost lost 0 ≡ lost
none_lost lost h = omega (arith, h)

-- what goes up where this one is expected and this many are lost
abbrev goes_up : Sequence → ℕ → ℕ → ℕ → List ℕ → Action Sequence
goes_up t up lost band bytes = passed_on (record t { up = up; lost = lost }) Rd (data_msg band bytes)

pub arrives : NumberedArrives
arrives s t band bytes expected small bound = (
  data_msg band (s.down ∷ bytes),
  refl,
  ap₂ (λ (up lost : ℕ). goes_up t up lost band bytes) (ap after (sym expected))
      (ap (λ k. more_lost t.lost (skipped k s.down)) expected ∙ ap (more_lost t.lost) (none_skipped s.down small) ∙ none_lost t.lost bound),
)
