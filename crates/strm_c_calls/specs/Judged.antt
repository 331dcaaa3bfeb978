-- The answer in the place of a request whose bytes would have to be copied: its refusal, whatever its bytes
-- are.
use Rattle.std.specs.Prelude.{◌≡◌, Bool, true, false, Option, Some, None, unwrap_or, Ok, Err, ◌⊎◌, if◌then◌else◌}
use Rattle.strm_msg.specs.declared.words.End.{End}
use Rattle.strm_module.specs.declared.kind.Kind.{Kind}
use Rattle.strm_chain_ends.specs.Image.{Image}
use Rattle.strm_head_calls.specs.declared.refusal.Refusal.{Refusal}
use Rattle.strm_head_calls.specs.declared.refusal.Refusal.TheVariants.{Closed, Broken, ReadError, WriteError, Invalid, NoMemory}
use Rattle.strm_module.specs.Builtin.{builtin}
use Rattle.strm_head.specs.Effects.{refusal_of}
use Rattle.strm_c_calls.specs.Arguments.{RequestOrRefusal}

-- the answer in the place of a request: a number that is no end counts as a closed end; arguments that make
-- no request have their refusal; a request has its first refusal that holds, or out of memory if none holds
abbrev pub refused_at : Image Kind → Option End → RequestOrRefusal → Refusal
refused_at old None asked = Closed
refused_at old (Some e) (Err refusal) = refusal
refused_at old (Some e) (Ok request) = unwrap_or (refusal_of builtin old e request) NoMemory

-- the request of the arguments, whole and with its bytes, or the answer in its place
abbrev pub IsMade : Image Kind → Option End → RequestOrRefusal → RequestOrRefusal → Type 0
IsMade old end asked made = (made ≡ asked) ⊎ (made ≡ Err (refused_at old end asked))

-- the refusals that are looked for before the refusals of a length
abbrev pub is_before_length : Refusal → Bool
is_before_length Closed = true
is_before_length Broken = true
is_before_length (ReadError errno) = true
is_before_length (WriteError errno) = true
is_before_length Invalid = true
is_before_length refusal = false

-- the refusal of a call with parts of some length, made of its refusal with parts of no byte, and of the
-- refusal of a wrong length
abbrev pub or_length : Bool → Refusal → Option Refusal → Option Refusal
or_length false by refusal = refusal
or_length true by None = Some by
or_length true by (Some refusal) = if is_before_length refusal then Some refusal else Some by
