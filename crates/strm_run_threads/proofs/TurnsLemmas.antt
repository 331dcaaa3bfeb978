-- Jobs that are done where they stand.
use Rattle.std.proofs.Common.{◌≡◌, ℕ, zero, suc, ◌<◌, ◌≤◌, ◌++◌, List, [], ◌∷◌, All, length, map, take, drop, slice_index_or, refl, sym, ◌∙◌, ap, subst, arith}
use Rattle.std.proofs.lemmas.List.{append-nil, drop_all, length-map, take_all}
use denote.Param.Members.{Shared}
use Rattle.std.specs.Fork.{AcceptsJobs, GivesJob, GivesJobs}
use Rattle.strm_run_threads.specs.declared.sharing.JobSlot.{JobSlot}
use Rattle.strm_run_threads.specs.declared.sharing.JobSlot.TheVariants.{Waiting, Done, Running}
use Rattle.strm_run_threads.specs.JobSlots.{AreDoneBy, IsDone, IsDoneBy, IsReady}

module _ {F J X : Type 0} (g : Shared F (J × Unit {0}) X) (f : F) where
  ready : (jobs : List J) → AcceptsJobs g f jobs → (k : ℕ) (d : JobSlot J X) → k < length jobs → IsReady g f (slice_index_or (map Waiting jobs) k d)
  ready [] accepts k d below = absurd (omega arith)
  ready (job ∷ jobs) accepts zero d below = accepts 0 job (omega arith) refl
  ready (job ∷ jobs) accepts (suc k) d below = ready jobs (λ i x lower is. accepts (suc i) x (omega arith) is) k d (omega arith)

  -- jobs that are to be done may be, where the work accepts each
  pub all_ready : (jobs : List J) (turns : List (JobSlot J X)) → AcceptsJobs g f jobs → turns ≡ map Waiting jobs → All (IsReady g f) turns
  all_ready jobs turns accepts are k d below =
      subst (λ all. IsReady g f (slice_index_or all k d)) (sym are) (ready jobs accepts k d (subst (λ n. k < n) (ap (λ all. length all) are ∙ length-map jobs Waiting) below))

  done_one : (before after : JobSlot J X) → IsDoneBy g f before after → IsDone after
  done_one (Waiting job) (Done left) is = tt
  done_one (Waiting job) (Waiting other) is = absurd is
  done_one (Waiting job) Running is = absurd is
  done_one (Done left) after is = absurd is
  done_one Running after is = absurd is

  -- what was done by a work was done
  pub all_done : (before after : List (JobSlot J X)) → AreDoneBy g f before after → All IsDone after
  all_done before after are k d below = done_one _ _ (are.each k d (subst (λ n. k < n) are.many below))

  gives : (jobs : List J) (all : List X) → length all ≡ length jobs → ((k : ℕ) (d : JobSlot J X) → k < length jobs → IsDoneBy g f (slice_index_or (map Waiting jobs) k d) (slice_index_or (map Done all) k d)) → (i : ℕ) (d : X) → i < length jobs → GivesJob g f jobs i (slice_index_or all i d)
  gives [] all many each i d below = absurd (omega arith)
  gives (job ∷ jobs) [] many each i d below = absurd (omega arith)
  gives (job ∷ jobs) (one ∷ all) many each zero d below = record { job = job; job_read = refl; job_is = λ x. refl; call = each 0 (Waiting job) (omega arith) }
  gives (job ∷ jobs) (one ∷ all) many each (suc i) d below =
      let rest = gives jobs all (omega arith) (λ k t lower. each (suc k) t (omega arith)) i d (omega arith) in
      record { job = rest.job; job_read = rest.job_read; job_is = rest.job_is; call = rest.call }

  -- what is left of each job is what the work may leave of it
  pub all_given : (jobs : List J) (all : List X) (before after : List (JobSlot J X)) → before ≡ map Waiting jobs → AreDoneBy g f before after → map Done all ≡ after → GivesJobs g f jobs all
  all_given jobs all before after are by left =
      let many : length all ≡ length jobs = sym (length-map all Done) ∙ ap (λ l. length l) left ∙ by.many ∙ ap (λ l. length l) are ∙ length-map jobs Waiting in
      let each = λ (k : ℕ) (d : JobSlot J X) (below : k < length jobs).
      subst (λ l. IsDoneBy g f (slice_index_or (map Waiting jobs) k d) (slice_index_or l k d)) (sym left)
      (subst (λ l. IsDoneBy g f (slice_index_or l k d) (slice_index_or after k d)) are
      (by.each k d (subst (λ n. k < n) (sym (ap (λ l. length l) are ∙ length-map jobs Waiting)) below))) in
      λ i d below. (refl, gives jobs all many each i d below)

-- all of a list was written anew
pub all_written : {A : Type 0} (n : ℕ) (old after : List A) → length after ≡ length old → length old ≤ n → take n (after ++ drop (length after) old) ≡ after
all_written n old after many small =
    ap (λ l. take n (after ++ l)) (drop_all (length after) old (omega arith)) ∙ ap (λ l. take n l) (append-nil after) ∙ take_all n after (omega arith)
