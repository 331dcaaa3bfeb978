-- One module's queues change, and its end stays as it was otherwise.
use Rattle.std.proofs.Common.{◌≡◌, ◌<◌, ◌-◌, ℕ, true, List, [], ◌∷◌, Option, None, Some, length, slice_get, slice_set, slice_index_or, ◌∙◌, ap, refl, arith, suc, zero}
use Rattle.std.proofs.Math.Seq.{map-set_same}
use Rattle.std.proofs.lemmas.Option.{slice_get_read}
use Rattle.std.specs.List.{list_all}
use Rattle.std.specs.Prelude.{MatchOption, Result, Ok, Err, OnOk}
use Rattle.strm_msg.specs.Message.{Msg}
use Rattle.strm_msg.specs.declared.words.Side.{Side}
use Rattle.strm_module.specs.Kinds.{Meaning}
use Rattle.strm_chain_end.specs.Pair.{QueuePair, with_list, pair_gets, pair_serves, expired_pair}
use Rattle.strm_chain_end.specs.End.{EndState, pair_at, set_pair, end_gets, end_serves, expired_at}
use Rattle.strm_chain_end.specs.Change.{with_queue}
use Rattle.strm_chain_end.specs.Modules.{Identity, identity_of, identities_of, are_fit, is_fit_module}

abbrev identity : {K : Type 0} → QueuePair K → Identity
identity s = identity_of s.shape

-- the same modules stand there
pub identities-set : {K : Type 0} (xs : List (QueuePair K)) (i : ℕ) (s d : QueuePair K) → d ≡ slice_index_or xs i d → identity_of s.shape ≡ identity_of d.shape → identities_of (slice_set xs i s) ≡ identities_of xs
identities-set xs i s d at same = map-set_same identity xs i s d (same ∙ ap identity at)

pub fit-set : {K : Type 0} (xs : List (QueuePair K)) (i : ℕ) (s d : QueuePair K) → d ≡ slice_index_or xs i d → identity_of s.shape ≡ identity_of d.shape → are_fit xs ≡ true → are_fit (slice_set xs i s) ≡ true
fit-set xs i s d at same fit = ap (λ (is : List Identity). list_all is_fit_module is) (identities-set xs i s d at same) ∙ fit

-- the module numbered i stands at i - 1
pub pair_at-index : {K : Type 0} (xs : List (QueuePair K)) (i : ℕ) → 0 < i → pair_at xs i ≡ slice_get xs (i - 1)
pair_at-index xs zero h = absurd (omega arith)
pair_at-index xs (suc i) h = let e : suc i - 1 ≡ i = omega arith in rw e refl

pub set_pair-index : {K : Type 0} (xs : List (QueuePair K)) (i : ℕ) (s : QueuePair K) → 0 < i → set_pair xs i s ≡ slice_set xs (i - 1) s
set_pair-index xs zero s h = absurd (omega arith)
set_pair-index xs (suc i) s h = let e : suc i - 1 ≡ i = omega arith in rw e refl

pub pair_at-found : {K : Type 0} (xs : List (QueuePair K)) (i : ℕ) (d : QueuePair K) → 0 < i → i - 1 < length xs → d ≡ slice_index_or xs (i - 1) d → pair_at xs i ≡ Some d
pair_at-found xs i d h l at = pair_at-index xs i h ∙ slice_get_read xs (length xs) (i - 1) d refl l at

-- a queue of the module that is found has other messages
pub queue_found : {K : Type 0} (e : EndState K) (i : ℕ) (d : QueuePair K) (side : Side) (q : List Msg) → 0 < i → pair_at e.modules i ≡ Some d → with_queue e i side q ≡ record e { modules = slice_set e.modules (i - 1) (with_list d side q) }
queue_found e i d side q h found = rw (found, set_pair-index e.modules i (with_list d side q) h) refl

-- and the first of them is taken
pub first_taken : (r : Option Msg) (q rest : List Msg) → MatchOption r (q ≡ []) (λ m. q ≡ m ∷ rest) → r ≡ slice_get q 0
first_taken None q rest is = rw is refl
first_taken (Some m) q rest is = rw is refl

-- what follows where a call succeeds
pub on_ok : {X Y A B : Type 0} (r : Result X Y) → (A → B) → OnOk r A → OnOk r B
on_ok (Ok done) next is = next is
on_ok (Err fault) next is = tt

module _ {K : Type 0} (means : Meaning K) where
  -- what the module that is found gets and serves
  pub gets_found : (e : EndState K) (i : ℕ) (d : QueuePair K) (side : Side) (m : Msg) → 0 < i → pair_at e.modules i ≡ Some d → end_gets means e i side m ≡ record { state = record e { modules = slice_set e.modules (i - 1) (pair_gets means d side m).pair }; outs = (pair_gets means d side m).outs }
  gets_found e i d side m h found = rw (found, set_pair-index e.modules i (pair_gets means d side m).pair h) refl

  pub serves_found : (e : EndState K) (i : ℕ) (d : QueuePair K) (side : Side) → 0 < i → pair_at e.modules i ≡ Some d → end_serves means e i side ≡ record { state = record e { modules = slice_set e.modules (i - 1) (pair_serves means d side).pair }; outs = (pair_serves means d side).outs }
  serves_found e i d side h found = rw (found, set_pair-index e.modules i (pair_serves means d side).pair h) refl

  -- and what ticks make of it
  pub expired_found : (e : EndState K) (i : ℕ) (d : QueuePair K) (ticks : ℕ) → 0 < i → pair_at e.modules i ≡ Some d → expired_at means e i ticks ≡ record e { modules = slice_set e.modules (i - 1) (expired_pair means d ticks) }
  expired_found e i d ticks h found = rw (found, set_pair-index e.modules i (expired_pair means d ticks) h) refl
