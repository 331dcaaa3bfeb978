-- One line more.
use Rattle.std.proofs.Common.{◌≡◌, ℕ, ◌+◌, List, ◌∷◌, Ok, Err, ap, ◌∙◌}
use Rattle.strm_script_words.specs.Naming.{KindWords}
use Rattle.strm_script_words.specs.declared.fault.Cause.{Cause}
use Rattle.strm_script_parse.specs.Plan.{Partial}
use Rattle.strm_script_parse.specs.Reading.{line_onto, lines_onto, then_lines}

module _ {K : Type 0} (words : KindWords K) (n : ℕ) (d : Partial K) (all others : List (List ℕ)) (line : List ℕ) (first : all ≡ line ∷ others) where
  step : lines_onto words n d all ≡ then_lines (n + 1) (line_onto words (n + 1) d line) (λ e. lines_onto words (n + 1) e others)
  unfolding lines_onto
  step = ap (lines_onto words n d) first

  -- the line is added, and the others go onto what comes of it
  pub one_more : (e : Partial K) → line_onto words (n + 1) d line ≡ Ok e → lines_onto words n d all ≡ lines_onto words (n + 1) e others
  one_more e is = step ∙ ap (λ r. then_lines (n + 1) r (λ e. lines_onto words (n + 1) e others)) is

  -- the line has a fault, which is that of all
  pub one_fault : (cause : Cause) → line_onto words (n + 1) d line ≡ Err cause → lines_onto words n d all ≡ Err (record { line = n + 1; cause = cause })
  one_fault cause is = step ∙ ap (λ r. then_lines (n + 1) r (λ e. lines_onto words (n + 1) e others)) is
