-- Calls that stand in blocks.
use Rattle.std.proofs.Common.{List, [], ◌∷◌, ◌++◌, All, Vec, Global}
use Rattle.std.specs.List.{flat_map}
use Rattle.std.proofs.lemmas.List.Elements.{All-append, All-cons, All-head, All-nil, All-tail}
use Rattle.strm_run_input.specs.declared.script.ScriptCall.{ScriptCall}
use Rattle.strm_run_input.specs.Scripts.{in_blocks}

-- what holds of each element of a list holds of those of its front, and of those behind
module _ {X : Type 0} (P : X → Type 0) where
  pub of_front : (xs ys : List X) → All P (xs ++ ys) → All P xs
  of_front [] ys all = All-nil P
  of_front (x ∷ xs) ys all = All-cons P x xs (All-head P x (xs ++ ys) all) (of_front xs ys (All-tail P x (xs ++ ys) all))

  pub of_behind : (xs ys : List X) → All P (xs ++ ys) → All P ys
  of_behind [] ys all = all
  of_behind (x ∷ xs) ys all = of_behind xs ys (All-tail P x (xs ++ ys) all)

abbrev Block : Type 0 → Type 0
Block P = Vec (ScriptCall P) Global

module _ {P : Type 0} where
  -- what holds of the calls of each block, and of the others, holds of all, and the other way round
  module _ (Holds : ScriptCall P → Type 0) where
    of_calls : (blocks : List (Block P)) → All (λ block. All Holds block.items) blocks → All Holds (flat_map (λ (b : Block P). b.items) blocks)
    of_calls [] all = All-nil Holds
    of_calls (block ∷ blocks) all =
        All-append Holds block.items _ (All-head (λ (b : Block P). All Holds b.items) block blocks all) (of_calls blocks (All-tail (λ (b : Block P). All Holds b.items) block blocks all))

    of_blocks : (blocks : List (Block P)) → All Holds (flat_map (λ (b : Block P). b.items) blocks) → All (λ block. All Holds block.items) blocks
    of_blocks [] all = All-nil (λ (b : Block P). All Holds b.items)
    of_blocks (block ∷ blocks) all =
        All-cons (λ (b : Block P). All Holds b.items) block blocks (of_front Holds block.items _ all) (of_blocks blocks (of_behind Holds block.items _ all))

    pub all_calls : (blocks : List (Block P)) (last : List (ScriptCall P)) → All (λ block. All Holds block.items) blocks → All Holds last → All Holds (in_blocks blocks last)
    all_calls blocks last each others = All-append Holds _ last (of_calls blocks each) others

    pub all_blocks : (blocks : List (Block P)) (last : List (ScriptCall P)) → All Holds (in_blocks blocks last) → All (λ block. All Holds block.items) blocks × All Holds last
    all_blocks blocks last all = (of_blocks blocks (of_front Holds _ last all), of_behind Holds _ last all)
