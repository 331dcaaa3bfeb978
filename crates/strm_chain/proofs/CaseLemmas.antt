-- What follows from an answer, whichever it is.
use Rattle.std.proofs.Common.{◌≡◌, ◌⊎◌, inl, inr, ◌&&◌, Bool, true, false, Result, Ok, Err, OnOk, OnErr, IfOk, Option, Some, None, IfSome, IfNone}

pub on_result : {T E : Type 0} (r : Result T E) (P Q C : Type 0) → OnOk r P → OnErr r Q → (P → C) → (Q → C) → C
on_result (Ok t) P Q C p q f g = f p
on_result (Err e) P Q C p q f g = g q

pub on_option : {T : Type 0} (o : Option T) (P : T → Type 0) (Q C : Type 0) → IfSome o P → IfNone o Q → ((t : T) → P t → C) → (Q → C) → C
on_option (Some t) P Q C p q f g = f t p
on_option None P Q C p q f g = g q

pub on_ok : {T E : Type 0} (r : Result T E) (P C : Type 0) → OnOk r P → (P → C) → OnOk r C
on_ok (Ok t) P C p f = f p
on_ok (Err e) P C p f = p

pub if_ok : {T E : Type 0} (r : Result T E) (P : Type 0) (Q C : T → Type 0) → OnOk r P → IfOk r Q → ((t : T) → P → Q t → C t) → IfOk r C
if_ok (Ok t) P Q C p q f = f t p q
if_ok (Err e) P Q C p q f = p

pub if_some : {T : Type 0} (o : Option T) (P C : T → Type 0) → IfSome o P → ((t : T) → P t → C t) → IfSome o C
if_some (Some t) P C p f = f t p
if_some None P C p f = p

pub if_none : {T : Type 0} (o : Option T) (P C : Type 0) → IfNone o P → (P → C) → IfNone o C
if_none (Some t) P C p f = p
if_none None P C p f = f p

-- what holds, holds of a refusal too
pub always : {T E : Type 0} (r : Result T E) (P : Type 0) → P → OnErr r P
always (Ok t) P p = tt
always (Err e) P p = p

-- of two that do not both hold one does not
pub either_not : (a b : Bool) → (a && b) ≡ false → (b ≡ false) ⊎ (a ≡ false)
either_not true b h = inl h
either_not false b h = inr h
