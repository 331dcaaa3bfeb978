-- What was found on the way to a value that was read.
use Rattle.std.proofs.Common.{◌≡◌, Bool, true, false, cond, Option, Some, None, Result, Ok, Err, refl, subst}
use Rattle.std.specs.Option.{option_and_then}
use Rattle.strm_script_words.specs.Fault.{◌>>=◌, or_fault}
use Rattle.strm_script_words.specs.declared.fault.Cause.{Cause}

-- a step was taken, and then the next
pub through : {A B C : Type 0} (read : Result A Cause) (next : A → Result B Cause) (y : B) → (read >>= next) ≡ Ok y → ((x : A) → read ≡ Ok x → next x ≡ Ok y → C) → C
through (Ok x) next y is goes = goes x refl is
through (Err cause) next y is goes = absurd cc

pub on : {A B C : Type 0} (found : Option A) (next : A → Option B) (y : B) → option_and_then next found ≡ Some y → ((x : A) → found ≡ Some x → next x ≡ Some y → C) → C
on (Some x) next y is goes = goes x refl is
on None next y is goes = absurd cc

-- a test was passed before
pub passed : {A C : Type 0} (b : Bool) (read : Result A Cause) (y : A) (cause : Cause) → cond b read (Err cause) ≡ Ok y → (b ≡ true → read ≡ Ok y → C) → C
passed true read y cause is goes = goes refl is
passed false read y cause is goes = absurd cc

pub under : {A C : Type 0} (b : Bool) (found : Option A) (y : A) → cond b found None ≡ Some y → (b ≡ true → found ≡ Some y → C) → C
under true found y is goes = goes refl is
under false found y is goes = absurd cc

-- one of two
pub either : {A C : Type 0} (b : Bool) (one other : Result A Cause) (y : A) → cond b one other ≡ Ok y → (one ≡ Ok y → C) → (other ≡ Ok y → C) → C
either true one other y is first second = first is
either false one other y is first second = second is

-- what holds of the value holds of what is read
pub same : {A : Type 0} (P : A → Type 0) (x y : A) → ◌≡◌ {A = Result A Cause} (Ok x) (Ok y) → P x → P y
same P x y is holds = let one : x ≡ y = cc in subst P one holds

pub same_found : {A : Type 0} (P : A → Type 0) (x y : A) → Some x ≡ Some y → P x → P y
same_found P x y is holds = let one : x ≡ y = cc in subst P one holds

-- a value was found
pub found_in : {A : Type 0} (found : Option A) (cause : Cause) (x : A) → or_fault cause found ≡ Ok x → found ≡ Some x
found_in (Some x) cause y is = let one : x ≡ y = cc in subst (λ z. Some x ≡ Some z) one refl
found_in None cause y is = absurd cc
