-- Jobs that are done in their places.
use Rattle.std.specs.Prelude.{◌≡◌, ℕ, ◌<◌, List, length, slice_index_or, ⊤}
use denote.Param.Members.{Shared}
use Rattle.std.specs.Fn.{FnReturns}
use Rattle.strm_run_threads.specs.declared.sharing.JobSlot.{JobSlot}
use Rattle.strm_run_threads.specs.declared.sharing.JobSlot.TheVariants.{Waiting, Done, Running}

-- the job was done
abbrev pub IsDone : {J X : Type 0} → JobSlot J X → Type 0
IsDone (Waiting job) = ⊥
IsDone (Done left) = ⊤
IsDone Running = ⊥

module _ {F J X : Type 0} (g : Shared F (J × Unit {0}) X) (f : F) where
  -- the job is to be done, and may be
  abbrev pub IsReady : JobSlot J X → Type 0
  IsReady (Waiting job) = g.pre f (job, tt)
  IsReady (Done left) = ⊥
  IsReady Running = ⊥

  -- the job was to be done, and this may be its result
  abbrev pub IsDoneBy : JobSlot J X → JobSlot J X → Type 0
  IsDoneBy (Waiting job) (Done left) = FnReturns g f (job, tt) left
  IsDoneBy (Waiting job) (Waiting other) = ⊥
  IsDoneBy (Waiting job) Running = ⊥
  IsDoneBy (Done left) after = ⊥
  IsDoneBy Running after = ⊥

  -- each job was to be done, and this may be its result
  pub record AreDoneBy (before after : List (JobSlot J X)) : Type 0 where
    pub many : length after ≡ length before
    pub each : (k : ℕ) (d : JobSlot J X) → k < length before → IsDoneBy (slice_index_or before k d) (slice_index_or after k d)
