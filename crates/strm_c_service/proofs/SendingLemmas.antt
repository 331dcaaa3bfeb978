-- What refuses a call that sends a message looks at its kind and band alone; and what is told in the place of
-- such a call is its answer.
use Rattle.std.proofs.Common.{◌≡◌, ℕ, ◌&&◌, not, Bool, true, Option, Some, None, is_some, option_map, unwrap_or, Ok, Err, ◌⊎◌, inl, inr, [], ◌∷◌, refl, sym, subst, ◌∙◌, ap₂}
use Rattle.arrayvec.specs.ArrayVec.{ArrayVec}
use Rattle.strm_msg.specs.Message.{Msg, Part}
use Rattle.strm_msg.specs.declared.words.End.{End}
use Rattle.strm_msg.specs.declared.words.Side.{Side}
use Rattle.strm_msg.specs.declared.words.Side.TheVariants.{Rd, Wr}
use Rattle.strm_module.specs.Builtin.{builtin}
use Rattle.strm_module.specs.declared.kind.Kind.{Kind}
use Rattle.strm_chain_ends.specs.Image as Ends
use Rattle.strm_chain_ends.specs.Image.{Image}
use Rattle.strm_head_calls.specs.Refusal.{first_that_holds}
use Rattle.strm_head_calls.specs.declared.refusal.Refusal.{Refusal}
use Rattle.strm_head_calls.specs.declared.refusal.Refusal.TheVariants.{Closed, Broken, Invalid, WouldWait, NoMemory}
use Rattle.strm_head_calls.specs.declared.request.Request.TheVariants as Requests
use Rattle.strm_head_service.specs.declared.served.Served.{Served}
use Rattle.strm_head_service.specs.declared.served.Served.TheVariants.{Module, Output}
use Rattle.strm_head_service.specs.Served.{served_at, is_output}
use Rattle.strm_head_service.specs.Serve.{lacks_queue, must_wait}
use Rattle.strm_head.specs.Effects.{refusal_of}
use Rattle.strm_c_numbers.specs.Whole.{emptied}
use Rattle.strm_c_calls.specs.Arguments.{RequestOrRefusal, ask}
use Rattle.strm_c_calls.proofs.JudgedLemmas.{IsPlainAt, LacksAt, plain_if, told_made}
use Rattle.strm_c_calls.specs.Judged.{IsMade}
use Rattle.strm_c_numbers.specs.Numbers.{end_of}
use Rattle.strm_c_service.specs.declared.sending.Sending.{Sending}
use Rattle.strm_c_service.specs.declared.sending.Sending.TheVariants.{On, Back}
use Rattle.strm_c_service.specs.Service.{call_of}

-- the first of a service call's refusals, by whether it lacks a queue and whether it would have to wait
abbrev refused_by : Image Kind → End → Option Served → Bool → Bool → Option Refusal
refused_by image e found lacks waits =
    first_that_holds ((not (is_output found) && not (Ends.end_of image e).is_open, Closed) ∷ (image.broken, Broken) ∷ (lacks, Invalid) ∷ (waits, WouldWait) ∷ [])

same_lacks : (image : Image Kind) (e : End) (found : Option Served) (side : Side) (sending : Sending) (m : Msg) → lacks_queue image e found side (call_of sending (emptied m)) ≡ lacks_queue image e found side (call_of sending m)
same_lacks image e None side sending m = refl
same_lacks image e (Some (Module i)) side On m = refl
same_lacks image e (Some (Module i)) side Back m = refl
same_lacks image e (Some Output) Rd On m = refl
same_lacks image e (Some Output) Rd Back m = refl
same_lacks image e (Some Output) Wr On m = refl
same_lacks image e (Some Output) Wr Back m = refl

same_waits : (image : Image Kind) (e : End) (found : Option Served) (side : Side) (sending : Sending) (m : Msg) → must_wait image e found side (call_of sending (emptied m)) ≡ must_wait image e found side (call_of sending m)
same_waits image e None side sending m = refl
same_waits image e (Some (Module i)) side On m = refl
same_waits image e (Some (Module i)) side Back m = refl
same_waits image e (Some Output) side On m = refl
same_waits image e (Some Output) side Back m = refl

-- a message is refused as it is without its bytes
pub sent_looks : (image : Image Kind) (e : End) (name : ArrayVec ℕ) (side : Side) (sending : Sending) (m : Msg) → refusal_of builtin image e (Requests.Service name side (call_of sending (emptied m))) ≡ refusal_of builtin image e (Requests.Service name side (call_of sending m))
sent_looks image e name side sending m =
    let found = served_at image e name.items in
    ap₂ (λ (lacks waits : Bool). refused_by image e found lacks waits) (same_lacks image e found side sending m) (same_waits image e found side sending m)

-- ---- what is told in the place of a call

-- a service call with a message, where there are a message, a side and a name
abbrev sent : Sending → Option Msg → Option Side → Option (ArrayVec ℕ) → RequestOrRefusal
sent sending m side name = ask m (λ it. ask side (λ s. ask name (λ n. Ok (Requests.Service n s (call_of sending it)))))

pub sent_is_plain : (old : Image Kind) (end : Option End) (sending : Sending) (m : Option Msg) (side : Option Side) (name : Option (ArrayVec ℕ)) → IsPlainAt old end (sent sending m side name)
sent_is_plain old None sending m side name = tt
sent_is_plain old (Some e) sending None side name = tt
sent_is_plain old (Some e) sending (Some m) None name = tt
sent_is_plain old (Some e) sending (Some m) (Some side) None = tt
sent_is_plain old (Some e) On (Some m) (Some side) (Some name) = plain_if old e (Requests.Service name side (call_of On m)) (λ refusal. tt) refl
sent_is_plain old (Some e) Back (Some m) (Some side) (Some name) = plain_if old e (Requests.Service name side (call_of Back m)) (λ refusal. tt) refl

pub sent_lacks : (old : Image Kind) (sending : Sending) (m : Option Msg) (side : Option Side) (name : Option (ArrayVec ℕ)) → LacksAt old (sent sending m side name)
sent_lacks old sending None side name = tt
sent_lacks old sending (Some m) None name = tt
sent_lacks old sending (Some m) (Some side) None = tt
sent_lacks old On (Some m) (Some side) (Some name) = (refl, λ e. refl)
sent_lacks old Back (Some m) (Some side) (Some name) = (refl, λ e. refl)

pub strput_is_plain : (old : Image Kind) (end : Option End) (cmd : ℕ) (dat : Part) → IsPlainAt old end (Ok (Requests.Strput cmd dat))
strput_is_plain old None cmd dat = tt
strput_is_plain old (Some e) cmd dat = plain_if old e (Requests.Strput cmd dat) (λ refusal. tt) refl

-- ---- what is made of arguments

no_message : (sending : Sending) (m : Option Msg) (side : Option Side) (name : Option (ArrayVec ℕ)) → option_map (λ it. emptied it) m ≡ None → Err Invalid ≡ sent sending m side name
no_message sending None side name none = refl
no_message sending (Some m) side name none = absurd cc

no_side : (sending : Sending) (m : Option Msg) (side : Option Side) (name : Option (ArrayVec ℕ)) → side ≡ None → Err Invalid ≡ sent sending m side name
no_side sending None side name none = refl
no_side sending (Some m) None name none = refl
no_side sending (Some m) (Some side) name none = absurd cc

no_name : (sending : Sending) (m : Option Msg) (side : Option Side) (name : Option (ArrayVec ℕ)) → name ≡ None → Err Invalid ≡ sent sending m side name
no_name sending None side name none = refl
no_name sending (Some m) None name none = refl
no_name sending (Some m) (Some side) None none = refl
no_name sending (Some m) (Some side) (Some name) none = absurd cc

-- arguments that make no message, no side or no name are refused before the stream is asked
pub refused_without : (old : Image Kind) (n : ℕ) (sending : Sending) (m : Option Msg) (side : Option Side) (name : Option (ArrayVec ℕ)) → (option_map (λ it. emptied it) m ≡ None) ⊎ (side ≡ None) ⊎ (name ≡ None) → IsMade old (end_of n) (sent sending m side name) (Err Invalid)
refused_without old n sending m side name (inl none) = inl (no_message sending m side name none)
refused_without old n sending m side name (inr (inl none)) = inl (no_side sending m side name none)
refused_without old n sending m side name (inr (inr none)) = inl (no_name sending m side name none)

pub is_message : (m : Option Msg) (bare : Msg) → option_map (λ it. emptied it) m ≡ Some bare → is_some m ≡ true
is_message None bare is = absurd cc
is_message (Some m) bare is = refl

of_some : (m bare : Msg) → Some (emptied m) ≡ Some bare → emptied m ≡ bare
of_some m bare is = cc

-- what the stream says of a message without its bytes is told in the place of the call
pub sent_made : (old : Image Kind) (n : ℕ) (e : End) (sending : Sending) (m : Option Msg) (s : Option Side) (it : Option (ArrayVec ℕ)) (bare : Msg) (side : Side) (name : ArrayVec ℕ) (found : Option Refusal) → end_of n ≡ Some e → option_map (λ that. emptied that) m ≡ Some bare → s ≡ Some side → it ≡ Some name → refusal_of builtin old e (Requests.Service name side (call_of sending bare)) ≡ found → IsMade old (end_of n) (sent sending m s it) (Err (unwrap_or found NoMemory))
sent_made old n e sending None s it bare side name found at is side_is name_is first = absurd cc
sent_made old n e sending (Some m) s it bare side name found at is side_is name_is first =
    let looked = subst (λ (b : Msg). refusal_of builtin old e (Requests.Service name side (call_of sending b)) ≡ found) (sym (of_some m bare is)) first in
    told_made old n e (Requests.Service name side (call_of sending m)) (sent sending (Some m) s it) found at (rw side_is rw name_is refl) (sym (sent_looks old e name side sending m) ∙ looked)
