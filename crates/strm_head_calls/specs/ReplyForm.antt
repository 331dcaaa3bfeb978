-- The form in which a call returns its reply.
use Rattle.std.specs.Prelude.{Result, Ok, Err}
use Rattle.strm_head_calls.specs.declared.answer.Reply.{Reply}

-- the reply in a form, or the fault
abbrev pub said : {A X : Type 0} → (A → Reply) → Result A X → Result Reply X
said says (Ok made) = Ok (says made)
said says (Err fault) = Err fault
