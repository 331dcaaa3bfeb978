-- What a writer has after two writes.
use Rattle.std.proofs.Common.{List, ℕ, ◌++◌, Option, Some, None, ap, ◌∙◌, append_assoc}
use Rattle.std.specs.Io.KnownBytes.{Appends}

-- what the first wrote, and then what the second wrote
pub appends_then : (before between after : Option (List ℕ)) (first second : List ℕ) → Appends before between first → Appends between after second → Appends before after (first ++ second)
appends_then None between after first second one other = tt
appends_then (Some xs) None after first second one other = absurd one
appends_then (Some xs) (Some ys) None first second one other = other
appends_then (Some xs) (Some ys) (Some zs) first second one other = other ∙ ap (λ (front : List ℕ). front ++ second) one ∙ append_assoc xs first second
