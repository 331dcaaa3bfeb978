-- Work on values in place.
use Rattle.std.specs.Prelude.{◌≡◌, ℕ, ◌<◌, List, length, slice_index_or}
use denote.Ref.{MutBor}
use denote.Param.Members.{Shared}

module _ {F T : Type 0} (g : Shared F (MutBor T × Unit {0}) (Unit {0} × (MutBor T × Unit {0}))) (f : F) where
  -- the work may be done on a value that was x
  abbrev pub Accepts : T → Type 0
  Accepts x = (p : MutBor T) → p.now ≡ x → g.pre f (p, tt)

  -- the work on a value that was x may leave y in its place
  pub record Changes (x y : T) : Type 0 where
    pub argument : MutBor T
    pub argument_is : argument.now ≡ x
    pub after_call : MutBor T
    pub call : g.post f (argument, tt) (tt, (after_call, tt))
    pub left : after_call.now ≡ y

  -- the work on each of these may leave those in their places
  pub record AreChanged (before after : List T) : Type 0 where
    pub many : length after ≡ length before
    pub each : (k : ℕ) (d : T) → k < length before → Changes (slice_index_or before k d) (slice_index_or after k d)
