use Rattle.std.proofs.Common.{refl}
use Rattle.strsh_options.proofs.LineLemmas.{adds_rule}
use Rattle.strsh_options.proofs.line.command.Goals as goal

pub returns-clause-line : goal.returns-clause-line
returns-clause-line c =
    let first = adds_rule _ _ _ _ _ c.in_ok-arg.ensures c.in_ok-bare_command.ensures.line c.workers.ensures refl in
    let second = adds_rule _ _ _ _ _ c.in_ok-arg-2.ensures first c.worded.ensures refl in
    let third = adds_rule _ _ _ _ _ c.in_ok-arg-3.ensures second c.worded-2.ensures refl in
    let fourth = adds_rule _ _ _ _ _ c.in_ok-arg-4.ensures third c.flag.ensures refl in
    let fifth = adds_rule _ _ _ _ _ c.in_ok-arg-5.ensures fourth c.flag-2.ensures refl in
    adds_rule _ _ _ _ _ c.in_ok-arg-6.ensures fifth c.file.ensures refl
