-- A player, call by call.
use Rattle.std.proofs.Common.{◌≡◌, ℕ, zero, suc, ◌+◌, ◌<◌, ◌==◌, Bool, true, false, Some, Result, Ok, Err, OnOk, List, [], ◌∷◌, ◌++◌, append-nil, append_assoc, Vec, Global, All, drop, get_or, length, set, slice_get, if◌then◌else◌, refl, sym, ◌∙◌, ap, subst, arith}
use Rattle.std.specs.List.{flat_map}
use Rattle.std.proofs.lemmas.List.{length-set, get_or-set_same, get_or-set_other, nil_from_length}
use Rattle.std.proofs.lemmas.Bool.{eqb-true, eqb-false, eq-eqb}
use Rattle.strm_module.specs.declared.shape.Shape.{Shape}
use Rattle.strm_head_calls.specs.declared.event.Event.TheVariants.{Asked}
use Rattle.strm_shared.specs.Seat.{SeatValue}
use Rattle.strm_shared.specs.Ending.{SharedValue}
use Rattle.strm_run_input.specs.declared.script.ScriptCall.{ScriptCall}
use Rattle.strm_run_input.specs.Scripts.{calls_on, in_blocks, script_of}
use Rattle.strm_run_callers.specs.RunName.{RunValue}
use Rattle.strm_run_callers.specs.Account.{AccountValue}
use Rattle.strm_run_callers.specs.Play.{ArePlayed, AreStreams, IsPlayer, IsSeated}

-- what follows from a fact about a success follows where there is one
pub on_ok : {T E : Type 0} (P Q : Type 0) (r : Result T E) → (P → Q) → OnOk r P → OnOk r Q
on_ok P Q (Ok x) follows is = follows is
on_ok P Q (Err e) follows is = is

-- an element by what is left of the list from it on
get_from : {A : Type 0} (all : List A) (n : ℕ) (first : A) (rest : List A) → drop n all ≡ first ∷ rest → slice_get all n ≡ Some first
get_from [] zero first rest is = absurd cc
get_from [] (suc n) first rest is = absurd cc
get_from (x ∷ xs) zero first rest is = ap (λ l. slice_get l 0) is
get_from (x ∷ xs) (suc n) first rest is = get_from xs n first rest is

drop_next : {A : Type 0} (all : List A) (n : ℕ) (first : A) (rest : List A) → drop n all ≡ first ∷ rest → drop (suc n) all ≡ rest
drop_next [] zero first rest is = absurd cc
drop_next [] (suc n) first rest is = absurd cc
drop_next (x ∷ xs) zero first rest is = ap (λ l. drop 1 l) is
drop_next (x ∷ xs) (suc n) first rest is = drop_next xs n first rest is

-- the stream of a number has it
pub number_at : {K : Type 0} (run : RunValue K) (streams : List SharedValue) (number : ℕ) (found : SharedValue) → AreStreams run streams → number < length run.setups → found ≡ get_or streams number found → found.number ≡ number
number_at run streams number found are below is =
    ap (λ s. s.number) is ∙ ap (λ s. s.number) (are.each number found found.setup (subst (λ n. number < n) (sym are.many) below))

-- for kinds of any meaning: a caller with one call and the rest left
module _ {K : Type 0} (run : RunValue K) (caller : ℕ) (left : List (ScriptCall (Shape K))) (one : ScriptCall (Shape K)) (rest : List (ScriptCall (Shape K))) (accounts : List (AccountValue K)) (is : left ≡ one ∷ rest) (was : IsPlayer run caller left accounts) where
  there : All (λ call. call.stream < length run.setups) (one ∷ rest)
  there = subst (λ l. All (λ call. call.stream < length run.setups) l) is was.there

  -- its stream is there
  pub stream_there : one.stream < length run.setups
  stream_there = there 0 one (omega arith)

  pub seat_there : one.stream < length accounts
  seat_there = subst (λ n. one.stream < n) (sym was.many) stream_there

  seated : (k : ℕ) (d : AccountValue K) → k < length accounts → IsSeated run caller k (one ∷ rest) (get_or accounts k d).seat
  seated k d below = subst (λ l. IsSeated run caller k l (get_or accounts k d).seat) is (was.seated k d below)

  -- the calls on its stream
  calls_here : (k : ℕ) → one.stream ≡ k → calls_on k (one ∷ rest) ≡ (one.call.end, Asked one.call.request) ∷ calls_on k rest
  calls_here k at = ap (λ b. if b then (one.call.end, Asked one.call.request) ∷ calls_on k rest else calls_on k rest) (eq-eqb one.stream k at)

  -- and on the others
  calls_there : (k : ℕ) → (one.stream == k) ≡ false → calls_on k (one ∷ rest) ≡ calls_on k rest
  calls_there k at = ap (λ b. if b then (one.call.end, Asked one.call.request) ∷ calls_on k rest else calls_on k rest) at

  -- the seat is on that stream, and the call is its next one
  sits_here : (account : AccountValue K) → account ≡ get_or accounts one.stream account → IsSeated run caller one.stream (one ∷ rest) account.seat
  sits_here account at = subst (λ (a : AccountValue K). IsSeated run caller one.stream (one ∷ rest) a.seat) (sym at) (seated one.stream account seat_there)

  pub seat_number : (account : AccountValue K) → account ≡ get_or accounts one.stream account → account.seat.number ≡ one.stream
  seat_number account at = (sits_here account at).number

  pub seat_next : (account : AccountValue K) → account ≡ get_or accounts one.stream account → slice_get (calls_on account.seat.number (script_of run.scripts account.seat.caller)) account.seat.calls ≡ Some (one.call.end, Asked one.call.request)
  seat_next account at =
      let sits = sits_here account at in
      let here = get_from (calls_on one.stream (script_of run.scripts caller)) account.seat.calls _ (calls_on one.stream rest) (sits.next ∙ calls_here one.stream refl) in
      subst (λ n. slice_get (calls_on n (script_of run.scripts account.seat.caller)) account.seat.calls ≡ Some (one.call.end, Asked one.call.request)) (sym sits.number)
      (subst (λ n. slice_get (calls_on one.stream (script_of run.scripts n)) account.seat.calls ≡ Some (one.call.end, Asked one.call.request)) (sym sits.caller_is) here)

  -- the seat after it
  module _ (account now : AccountValue K) (at : account ≡ get_or accounts one.stream account) where
    abbrev after : SeatValue
    after = record account.seat { calls = account.seat.calls + 1; shown = now.seat.shown }

    seat_after : IsSeated run caller one.stream rest after
    seat_after =
        let sits = sits_here account at in
        let here = calls_here one.stream refl in
        let n : account.seat.calls + 1 ≡ suc account.seat.calls = omega arith in
        let len : length (calls_on one.stream (one ∷ rest)) ≡ suc (length (calls_on one.stream rest)) = ap (λ l. length l) here in
        let all = sits.many in
        record {
          number = sits.number;
          caller_is = sits.caller_is;
          next = ap (λ m. drop m (calls_on one.stream (script_of run.scripts caller))) n ∙ drop_next _ account.seat.calls _ _ (sits.next ∙ here);
          many = (let m : account.seat.calls + 1 + length (calls_on one.stream rest) ≡ account.seat.calls + suc (length (calls_on one.stream rest)) = omega arith in m) ∙ ap (λ m. account.seat.calls + m) (sym len) ∙ all;
        }

    seats_after : now.seat ≡ after → (k : ℕ) (d : AccountValue K) (b : Bool) → (one.stream == k) ≡ b → k < length accounts → IsSeated run caller k rest (get_or (set accounts one.stream now) k d).seat
    seats_after counted k d true same below =
        let here : one.stream ≡ k = eqb-true one.stream k same in
        subst (λ n. IsSeated run caller n rest (get_or (set accounts one.stream now) n d).seat) here
        (subst (λ (a : AccountValue K). IsSeated run caller one.stream rest a.seat) (sym (get_or-set_same accounts one.stream now d seat_there))
        (subst (λ s. IsSeated run caller one.stream rest s) (sym counted) seat_after))
    seats_after counted k d false other below =
        let sits = seated k d below in
        let apart = calls_there k other in
        subst (λ (a : AccountValue K). IsSeated run caller k rest a.seat) (sym (get_or-set_other accounts one.stream k now d (λ same. eqb-false one.stream k other (sym same))))
        (record {
          number = sits.number;
          caller_is = sits.caller_is;
          next = sits.next ∙ apart;
          many = ap (λ l. (get_or accounts k d).seat.calls + length l) (sym apart) ∙ sits.many;
        })

    pub player_after : now.seat ≡ after → IsPlayer run caller rest (set accounts one.stream now)
    player_after counted = record {
      many = length-set accounts one.stream now ∙ was.many;
      there = λ k d below. there (suc k) d (omega arith);
      seated = λ k d below. seats_after counted k d (one.stream == k) refl (subst (λ n. k < n) (length-set accounts one.stream now) below);
    }

-- a caller that has no call left has played its script
pub all_played : {K : Type 0} (run : RunValue K) (caller : ℕ) (left : List (ScriptCall (Shape K))) (accounts : List (AccountValue K)) → left ≡ [] → IsPlayer run caller left accounts → ArePlayed run accounts
all_played run caller left accounts none was = record {
  many = was.many;
  each = λ k d below.
      let sits = subst (λ l. IsSeated run caller k l (get_or accounts k d).seat) none (was.seated k d below) in
      record {
        number = sits.number;
        calls = (let n : (get_or accounts k d).seat.calls ≡ (get_or accounts k d).seat.calls + 0 = omega arith in n) ∙ sits.many ∙ ap (λ c. length (calls_on k (script_of run.scripts c))) (sym sits.caller_is);
      };
}

-- ---- calls in blocks

-- an iterator that has nothing left
pub none_left : {X : Type 0} (left : List X) (n : ℕ) → n ≡ length left → n ≡ 0 → left ≡ []
none_left left n many none = nil_from_length left (sym many ∙ none)

abbrev Block : Type 0 → Type 0
Block K = Vec (ScriptCall (Shape K)) Global

module _ {K : Type 0} (run : RunValue K) (caller : ℕ) where
  -- the first block has the next calls
  pub next_block : (left rest : List (Block K)) (block : Block K) (last : List (ScriptCall (Shape K))) (accounts : List (AccountValue K)) → left ≡ block ∷ rest → IsPlayer run caller (in_blocks left last) accounts → IsPlayer run caller (block.items ++ in_blocks rest last) accounts
  next_block left rest block last accounts is was =
      subst (λ calls. IsPlayer run caller calls accounts) (ap (λ l. in_blocks l last) is ∙ append_assoc block.items (flat_map (λ (b : Block K). b.items) rest) last) was

  -- behind the blocks are the last calls, and none behind those
  pub last_calls : (left : List (Block K)) (last : List (ScriptCall (Shape K))) (accounts : List (AccountValue K)) → left ≡ [] → IsPlayer run caller (in_blocks left last) accounts → IsPlayer run caller (last ++ []) accounts
  last_calls left last accounts none was = subst (λ calls. IsPlayer run caller calls accounts) (ap (λ l. in_blocks l last) none ∙ sym (append-nil last)) was
