-- Callers, one more at a time.
use Rattle.std.proofs.Common.{◌≡◌, ℕ, suc, ◌+◌, ◌<◌, ◌≤◌, ◌%◌, ◌==◌, Bool, true, false, List, [], ◌∷◌, ◌++◌, length, get_or, map, set, Vec, Global, All, refl, sym, ◌∙◌, ap, subst, arith}
use Rattle.std.specs.Prelude.{filter}
use Rattle.std.proofs.Math.Nat.{mod-lt}
use Rattle.std.proofs.lemmas.Bool.{eqb-true, eqb-false}
use Rattle.std.proofs.lemmas.List.{length-map, length-set, get_or-map, get_or-set_same, get_or-set_other}
use Rattle.strm_module.specs.declared.shape.Shape.{Shape}
use Rattle.strm_shared.specs.Seat.{SeatValue}
use Rattle.strm_run_input.specs.declared.script.ScriptCall.{ScriptCall}
use Rattle.strm_run_input.specs.Scripts.{calls_on, script_of}
use Rattle.strm_run_callers.specs.RunName.{RunValue}
use Rattle.strm_run_callers.specs.Account.{fresh_account, AccountValue}
use Rattle.strm_run_callers.specs.Play.{IsPlayer, IsSeated}
use Rattle.strm_run_callers.specs.Dealing.{callers_of, AreDealt, AreSeated}
use Rattle.strm_run_callers.proofs.ReachedLemmas.{fails_more, passes_more}

-- the worker of a caller is there
worker_there : (caller workers : ℕ) (callers : List ℕ) (crews : List (Vec ℕ Global)) → 0 < workers → AreDealt callers workers crews → caller % workers < length crews
worker_there caller workers callers crews some dealt = subst (λ n. caller % workers < n) (sym dealt.many) (mod-lt caller some)

-- one caller more is dealt out
module _ (callers : List ℕ) (caller workers : ℕ) (crews : List (Vec ℕ Global)) (was crew : Vec ℕ Global) (some : 0 < workers) (dealt : AreDealt callers workers crews) (stood : was ≡ get_or crews (caller % workers) was) (more : crew.items ≡ was.items ++ caller ∷ []) where
  dealt_at : (worker : ℕ) (d : Vec ℕ Global) (b : Bool) → (caller % workers == worker) ≡ b → worker < workers → (get_or (set crews (caller % workers) crew) worker d).items ≡ filter (λ c. c % workers == worker) (callers ++ caller ∷ [])
  dealt_at worker d true same below =
      let here : caller % workers ≡ worker = eqb-true (caller % workers) worker same in
      ap (λ (n : ℕ). (get_or (set crews (caller % workers) crew) n d).items) (sym here)
      ∙ ap (λ (v : Vec ℕ Global). v.items) (get_or-set_same crews (caller % workers) crew d (worker_there caller workers callers crews some dealt))
      ∙ more
      ∙ ap (λ (v : Vec ℕ Global). v.items ++ caller ∷ []) stood
      ∙ ap (λ (l : List ℕ). l ++ caller ∷ []) (dealt.each (caller % workers) was (mod-lt caller some))
      ∙ ap (λ (n : ℕ). filter (λ c. c % workers == n) callers ++ caller ∷ []) here
      ∙ sym (passes_more (λ c. c % workers == worker) callers caller same)
  dealt_at worker d false other below =
      ap (λ (v : Vec ℕ Global). v.items) (get_or-set_other crews (caller % workers) worker crew d (λ same. eqb-false (caller % workers) worker other (sym same)))
      ∙ dealt.each worker d below
      ∙ sym (fails_more (λ c. c % workers == worker) callers caller other)

  pub dealt_more : AreDealt (callers ++ caller ∷ []) workers (set crews (caller % workers) crew)
  dealt_more = record {
    many = length-set crews (caller % workers) crew ∙ dealt.many;
    each = λ worker d below. dealt_at worker d (caller % workers == worker) refl below;
  }

-- the script of a caller, by the scripts before it
script_at : {P : Type 0} (before after : List (List (ScriptCall P))) (script : List (ScriptCall P)) → script_of (before ++ script ∷ after) (length before) ≡ script
script_at [] after script = refl
script_at (first ∷ before) after script = script_at before after script

-- the seats of a caller that was just seated
fresh_seat : {K : Type 0} (run : RunValue K) (caller : ℕ) (seats : List (Vec SeatValue Global)) (mine : Vec SeatValue Global) → mine ≡ get_or seats caller mine → AreSeated run seats → caller < length run.scripts → (k : ℕ) (d : SeatValue) → k < length run.setups → get_or mine.items k d ≡ record { number = k; caller = caller; calls = 0; shown = true }
fresh_seat run caller seats mine is seated within k d below = ap (λ (v : Vec SeatValue Global). get_or v.items k d) is ∙ seated.each caller k mine d within below

pub none_called : {K : Type 0} (run : RunValue K) (caller : ℕ) (seats now : List (Vec SeatValue Global)) (mine : Vec SeatValue Global) → AreSeated run seats → caller < length run.scripts → ((k : ℕ) (d : Vec SeatValue Global) → caller ≤ k → get_or now k d ≡ get_or seats k d) → mine ≡ get_or now caller mine → All (λ seat. seat.calls ≡ 0) mine.items
none_called run caller seats now mine seated within behind stood k d below =
    let is : mine ≡ get_or seats caller mine = stood ∙ behind caller mine (omega arith) in
    let long : length mine.items ≡ length run.setups = ap (λ (v : Vec SeatValue Global). length v.items) is ∙ seated.long caller mine within in
    ap (λ (s : SeatValue). s.calls) (fresh_seat run caller seats mine is seated within k d (subst (λ n. k < n) long below))

-- a caller that was just seated has its whole script left
pub player_before : {K : Type 0} (run : RunValue K) (caller : ℕ) (calls : List (ScriptCall (Shape K))) (seats now : List (Vec SeatValue Global)) (mine : Vec SeatValue Global) (accounts : List (AccountValue K)) → AreSeated run seats → caller < length run.scripts → script_of run.scripts caller ≡ calls → All (λ one. one.stream < length run.setups) calls → ((k : ℕ) (d : Vec SeatValue Global) → caller ≤ k → get_or now k d ≡ get_or seats k d) → mine ≡ get_or now caller mine → accounts ≡ map fresh_account mine.items → IsPlayer run caller calls accounts
player_before {K} run caller calls seats now mine accounts seated within script there behind stood same =
    let is : mine ≡ get_or seats caller mine = stood ∙ behind caller mine (omega arith) in
    let many : length (map (fresh_account {K = K}) mine.items) ≡ length mine.items = length-map mine.items (fresh_account {K = K}) in
    let long : length mine.items ≡ length run.setups = ap (λ (v : Vec SeatValue Global). length v.items) is ∙ seated.long caller mine within in
    subst (λ l. IsPlayer run caller calls l) (sym same) (record {
      many = many ∙ long;
      there = there;
      seated = λ k d below.
          let under : k < length mine.items = subst (λ n. k < n) many below in
          let fresh = ap (λ (a : AccountValue K). a.seat) (get_or-map (fresh_account {K = K}) mine.items k d.seat d under) ∙ fresh_seat run caller seats mine is seated within k d.seat (subst (λ n. k < n) long under) in
          subst (λ s. IsSeated run caller k calls s) (sym fresh) (record {
            number = refl;
            caller_is = refl;
            next = ap (λ l. calls_on k l) script;
            many = (let none : 0 + length (calls_on k calls) ≡ length (calls_on k calls) = omega arith in none) ∙ ap (λ l. length (calls_on k l)) (sym script);
          });
    })

-- the script that a loop over them has reached
pub script_reached : {P : Type 0} (all before after : List (List (ScriptCall P))) (script : List (ScriptCall P)) (caller : ℕ) → before ++ script ∷ after ≡ all → caller ≡ length before → script_of all caller ≡ script
script_reached all before after script caller is place =
    ap (λ (l : List (List (ScriptCall _))). script_of l caller) (sym is) ∙ ap (λ (n : ℕ). script_of (before ++ script ∷ after) n) place ∙ script_at before after script

-- one caller more
pub caller_more : (callers : List ℕ) (caller : ℕ) → callers ≡ callers_of caller → callers ++ caller ∷ [] ≡ callers_of (caller + 1)
caller_more callers caller is =
    let n : caller + 1 ≡ suc caller = omega arith in
    ap (λ (l : List ℕ). l ++ caller ∷ []) is ∙ sym (ap (λ (m : ℕ). callers_of m) n)
