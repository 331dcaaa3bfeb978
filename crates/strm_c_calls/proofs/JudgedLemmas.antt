-- A call that was refused before its bytes were copied was refused as the step of its request is.
use Rattle.std.proofs.Common.{◌≡◌, ℕ, nat_le, ◌&&◌, not, Bool, true, false, Option, Some, None, Ok, Err, List, [], ◌∷◌, ◌++◌, length, ◌⊎◌, inl, inr, ℤ, pos, refl, sym, ap, subst, ◌∙◌, unwrap_or}
use Rattle.strm_msg.specs.Message.{Part}
use Rattle.strm_msg.specs.declared.errno.Errno.{Errno}
use Rattle.strm_msg.specs.declared.words.End.{End}
use Rattle.strm_module.specs.declared.kind.Kind.{Kind}
use Rattle.strm_module.specs.declared.shape.Shape.{Shape}
use Rattle.strm_module.specs.declared.shape.TheConstants.{LONGEST_NAME}
use Rattle.strm_chain_ends.specs.Image as Ends
use Rattle.strm_chain_ends.specs.Image.{Image}
use Rattle.strm_head_calls.specs.Refusal.{first_that_holds}
use Rattle.strm_head_calls.specs.declared.request.Request.TheVariants as Requests
use Rattle.strm_head_calls.specs.declared.request.Priority.{Priority}
use Rattle.strm_head_calls.specs.declared.request.PutFlag.{PutFlag}
use Rattle.strm_head_calls.specs.declared.request.Request.{Request}
use Rattle.strm_head_calls.specs.declared.refusal.Refusal.{Refusal}
use Rattle.strm_head_calls.specs.declared.refusal.Refusal.TheVariants.{Closed, Broken, Invalid, NoMemory}
use Rattle.strm_head_calls.specs.declared.answer.Answer.{Answer}
use Rattle.strm_head_calls.specs.declared.answer.Answer.TheVariants.{Refused}
use Rattle.strm_module.specs.Builtin.{builtin}
use Rattle.strm_head.specs.Effects.{error_refusals, refusal_of, takes_no_memory_at, can_lack_memory, is_no_memory}
use Rattle.strm_head.specs.Step.{IsRefusedBy}
use Rattle.strm_c_numbers.specs.Numbers.{end_of}
use Rattle.strm_c_calls.specs.Codes.{code_of}
use Rattle.strm_c_calls.specs.Arguments.{RequestOrRefusal, ask, push_of, parts_argument}
use Rattle.strm_c_calls.specs.Judged.{refused_at, IsMade}
use Rattle.strm_c_calls.specs.Fits.{Fits}
use Rattle.strm_c_calls.specs.Call.{costs_no_memory, IsStep, Answers, checked_call, Calls, CopiesAndCalls}

-- ---- the step of a request that is refused

-- a call that takes no memory here takes none on the stream
pub costs_none_at : (old : Image Kind) (e : End) (request : Request (Shape Kind)) → costs_no_memory old e request ≡ true → takes_no_memory_at old e request ≡ true
costs_none_at old e (Requests.Putmsg flag parts) none = absurd cc
costs_none_at old e (Requests.Putpmsg band flag parts) none = absurd cc
costs_none_at old e request none = none

-- the step of a request that is refused with the first refusal that holds
refused_step : (old : Image Kind) (e : End) (request : Request (Shape Kind)) (refusal : Refusal) → IsRefusedBy (refusal_of builtin old e request) request refusal → (costs_no_memory old e request ≡ true → is_no_memory refusal ≡ false) → Fits request (Refused refusal) → IsStep old e request (Refused refusal) old
refused_step old e request refusal first memory fits =
    record {
      moves = [];
      step = record { is_first = first; stays = refl; takes_none = refl; unchanged = refl };
      memory = memory;
      still = λ sends none broke. cc;
      fits = fits;
    }

-- what is known of a request: no refusal of it gives bytes, and none that holds is want of memory where it
-- takes none
pub record IsPlain (old : Image Kind) (e : End) (request : Request (Shape Kind)) : Type 0 where
  pub fits : (refusal : Refusal) → Fits request (Refused refusal)
  pub memory : (refusal : Refusal) → refusal_of builtin old e request ≡ Some refusal → costs_no_memory old e request ≡ true → is_no_memory refusal ≡ false

-- the step of a request that a refusal of its own refuses
first_step : (old : Image Kind) (e : End) (request : Request (Shape Kind)) (refusal : Refusal) → IsPlain old e request → refusal_of builtin old e request ≡ Some refusal → IsStep old e request (Refused refusal) old
first_step old e request refusal plain first =
    refused_step old e request refusal (subst (λ found. IsRefusedBy found request refusal) (sym first) refl) (plain.memory refusal first) (plain.fits refusal)

-- the step of one for which memory is wanting
lacking_step : (old : Image Kind) (e : End) (request : Request (Shape Kind)) → IsPlain old e request → can_lack_memory request ≡ true → costs_no_memory old e request ≡ false → refusal_of builtin old e request ≡ None → IsStep old e request (Refused NoMemory) old
lacking_step old e request plain can takes none =
    refused_step old e request NoMemory (subst (λ found. IsRefusedBy found request NoMemory) (sym none) (refl, can)) (λ is. absurd cc) (plain.fits NoMemory)

-- either, where want of memory is a refusal of the model's
either_step : (old : Image Kind) (e : End) (request : Request (Shape Kind)) (found : Option Refusal) → IsPlain old e request → can_lack_memory request ≡ true → costs_no_memory old e request ≡ false → refusal_of builtin old e request ≡ found → IsStep old e request (Refused (unwrap_or found NoMemory)) old
either_step old e request None plain can takes is = lacking_step old e request plain can takes is
either_step old e request (Some refusal) plain can takes is = first_step old e request refusal plain is

-- ---- a refusal that is told in the place of a request

-- the same of what was asked at an end, if there is one
abbrev pub IsPlainAt : Image Kind → Option End → RequestOrRefusal → Type 0
IsPlainAt old (Some e) (Ok request) = IsPlain old e request
IsPlainAt old end asked = Unit {0}

abbrev pub LacksAt : Image Kind → RequestOrRefusal → Type 0
LacksAt old (Ok request) = (can_lack_memory request ≡ true) × ((e : End) → costs_no_memory old e request ≡ false)
LacksAt old (Err refusal) = Unit {0}

-- what is told in the place of what was asked is the answer to that
told_answers : (old : Image Kind) (end : Option End) (asked : RequestOrRefusal) → IsPlainAt old end asked → LacksAt old asked → Answers old (checked_call end asked) (Refused (refused_at old end asked)) old
told_answers old None asked plain lacks = (refl, refl)
told_answers old (Some e) (Err refusal) plain lacks = (refl, refl)
told_answers old (Some e) (Ok request) plain lacks = either_step old e request (refusal_of builtin old e request) plain lacks.0 (lacks.1 e) refl

-- what is told stands for itself
told_is_admitted : (old : Image Kind) (end : Option End) (asked : RequestOrRefusal) → checked_call end (Err (refused_at old end asked)) ≡ Err (refused_at old end asked)
told_is_admitted old None asked = refl
told_is_admitted old (Some e) asked = refl

-- the answer to what was told, and the stream behind it
told : (old new : Image Kind) (end : Option End) (asked : RequestOrRefusal) (answer : Answer) → Answers old (checked_call end (Err (refused_at old end asked))) answer new → (answer ≡ Refused (refused_at old end asked)) × (new ≡ old)
told old new end asked answer answers = subst (λ call. Answers old call answer new) (told_is_admitted old end asked) answers

-- a call of what was told answers what was asked
retold : (old new : Image Kind) (end : Option End) (asked : RequestOrRefusal) (answer : Answer) → IsPlainAt old end asked → LacksAt old asked → Answers old (checked_call end (Err (refused_at old end asked))) answer new → Answers old (checked_call end asked) answer new
retold old new end asked answer plain lacks answers =
    let is = told old new end asked answer answers in
    subst (λ after. Answers old (checked_call end asked) answer after) (sym is.1) (subst (λ said. Answers old (checked_call end asked) said old) (sym is.0) (told_answers old end asked plain lacks))

-- a call of what was made is the call that was asked for
pub made_calls : (old new : Image Kind) (n : ℕ) (asked made : RequestOrRefusal) (writes : Answer → Type 0) (code : ℤ) → IsPlainAt old (end_of n) asked → LacksAt old asked → IsMade old (end_of n) asked made → Calls old n made writes code new → Calls old n asked writes code new
made_calls old new n asked made writes code plain lacks (inl same) calls = subst (λ a. Calls old n a writes code new) same calls
made_calls old new n asked made writes code plain lacks (inr told_is) calls =
    record {
      answer = calls.answer;
      answers = retold old new (end_of n) asked calls.answer plain lacks (subst (λ a. Answers old (checked_call (end_of n) a) calls.answer new) told_is calls.answers);
      code_is = calls.code_is;
      written = calls.written;
    }

-- ---- want of memory for a copy

-- want of memory for what was asked, which nothing else refuses
abbrev IsLacking : Image Kind → Image Kind → Option End → RequestOrRefusal → Answer → Type 0
IsLacking old new end asked answer = (refused_at old end asked ≡ NoMemory) × (answer ≡ Refused NoMemory) × (new ≡ old)

-- what was told in the place of a request that has these refusals
found_or_lacking : (old new : Image Kind) (e : End) (request : Request (Shape Kind)) (found : Option Refusal) (answer : Answer) → IsPlain old e request → refusal_of builtin old e request ≡ found → (answer ≡ Refused (unwrap_or found NoMemory)) × (new ≡ old) → IsStep old e request answer new ⊎ ((unwrap_or found NoMemory ≡ NoMemory) × (answer ≡ Refused NoMemory) × (new ≡ old))
found_or_lacking old new e request None answer plain first is = inr (refl, is.0, is.1)
found_or_lacking old new e request (Some refusal) answer plain first is =
    inl (subst (λ after. IsStep old e request answer after) (sym is.1) (subst (λ said. IsStep old e request said old) (sym is.0) (first_step old e request refusal plain first)))

answers_or_lacks : (old new : Image Kind) (end : Option End) (asked : RequestOrRefusal) (answer : Answer) → IsPlainAt old end asked → Answers old (checked_call end (Err (refused_at old end asked))) answer new → Answers old (checked_call end asked) answer new ⊎ IsLacking old new end asked answer
answers_or_lacks old new None asked answer plain answers = inl answers
answers_or_lacks old new (Some e) (Err refusal) answer plain answers = inl answers
answers_or_lacks old new (Some e) (Ok request) answer plain answers = found_or_lacking old new e request (refusal_of builtin old e request) answer plain refl answers

-- a call by its answer, or want of memory for its copy
copied : (old new : Image Kind) (n : ℕ) (asked made : RequestOrRefusal) (writes : Answer → Type 0) (code : ℤ) (calls : Calls old n made writes code new) → Answers old (checked_call (end_of n) asked) calls.answer new ⊎ IsLacking old new (end_of n) asked calls.answer → CopiesAndCalls old n asked writes code new
copied old new n asked made writes code calls (inl answers) = inl (record { answer = calls.answer; answers = answers; code_is = calls.code_is; written = calls.written })
copied old new n asked made writes code calls (inr lacks) =
    inr (record {
      is_last = lacks.0;
      code_is = calls.code_is ∙ ap (λ said. pos (code_of said)) lacks.1;
      written = subst writes lacks.1 calls.written;
      unchanged = lacks.2;
    })

-- a call of what was made is the call that was asked for, or memory was wanting for its copy and nothing else
-- refuses it
pub made_copies : (old new : Image Kind) (n : ℕ) (asked made : RequestOrRefusal) (writes : Answer → Type 0) (code : ℤ) → IsPlainAt old (end_of n) asked → IsMade old (end_of n) asked made → Calls old n made writes code new → CopiesAndCalls old n asked writes code new
made_copies old new n asked made writes code plain (inl same) calls = inl (subst (λ a. Calls old n a writes code new) same calls)
made_copies old new n asked made writes code plain (inr told_is) calls =
    copied old new n asked made writes code calls (answers_or_lacks old new (end_of n) asked calls.answer plain (subst (λ a. Answers old (checked_call (end_of n) a) calls.answer new) told_is calls.answers))

-- ---- the requests whose bytes are copied

-- of requests that give no bytes where they are refused, and may want for memory
pub plain_if : (old : Image Kind) (e : End) (request : Request (Shape Kind)) → ((refusal : Refusal) → Fits request (Refused refusal)) → costs_no_memory old e request ≡ false → IsPlain old e request
plain_if old e request fits takes = record { fits = fits; memory = λ refusal first is. absurd cc }

pub putmsg_is_plain : (old : Image Kind) (end : Option End) (has_ctl : Bool) (ctl : List ℕ) (has_dat : Bool) (dat : List ℕ) (flag : Option Priority) → IsPlainAt old end (ask flag (λ f. Ok (Requests.Putmsg f (parts_argument has_ctl ctl has_dat dat))))
putmsg_is_plain old None has_ctl ctl has_dat dat flag = tt
putmsg_is_plain old (Some e) has_ctl ctl has_dat dat None = tt
putmsg_is_plain old (Some e) has_ctl ctl has_dat dat (Some flag) = plain_if old e (Requests.Putmsg flag (parts_argument has_ctl ctl has_dat dat)) (λ refusal. tt) refl

pub putmsg_lacks : (old : Image Kind) (has_ctl : Bool) (ctl : List ℕ) (has_dat : Bool) (dat : List ℕ) (flag : Option Priority) → LacksAt old (ask flag (λ f. Ok (Requests.Putmsg f (parts_argument has_ctl ctl has_dat dat))))
putmsg_lacks old has_ctl ctl has_dat dat None = tt
putmsg_lacks old has_ctl ctl has_dat dat (Some flag) = (refl, λ e. refl)

pub putpmsg_is_plain : (old : Image Kind) (end : Option End) (has_ctl : Bool) (ctl : List ℕ) (has_dat : Bool) (dat : List ℕ) (flag : Option PutFlag) (band : Option ℕ) → IsPlainAt old end (ask flag (λ f. ask band (λ b. Ok (Requests.Putpmsg b f (parts_argument has_ctl ctl has_dat dat)))))
putpmsg_is_plain old None has_ctl ctl has_dat dat flag band = tt
putpmsg_is_plain old (Some e) has_ctl ctl has_dat dat None band = tt
putpmsg_is_plain old (Some e) has_ctl ctl has_dat dat (Some flag) None = tt
putpmsg_is_plain old (Some e) has_ctl ctl has_dat dat (Some flag) (Some band) = plain_if old e (Requests.Putpmsg band flag (parts_argument has_ctl ctl has_dat dat)) (λ refusal. tt) refl

pub putpmsg_lacks : (old : Image Kind) (has_ctl : Bool) (ctl : List ℕ) (has_dat : Bool) (dat : List ℕ) (flag : Option PutFlag) (band : Option ℕ) → LacksAt old (ask flag (λ f. ask band (λ b. Ok (Requests.Putpmsg b f (parts_argument has_ctl ctl has_dat dat)))))
putpmsg_lacks old has_ctl ctl has_dat dat None band = tt
putpmsg_lacks old has_ctl ctl has_dat dat (Some flag) None = tt
putpmsg_lacks old has_ctl ctl has_dat dat (Some flag) (Some band) = (refl, λ e. refl)

pub write_is_plain : (old : Image Kind) (end : Option End) (bytes : List ℕ) → IsPlainAt old end (Ok (Requests.Write bytes))
write_is_plain old None bytes = tt
write_is_plain old (Some e) bytes = plain_if old e (Requests.Write bytes) (λ refusal. tt) refl

pub str_is_plain : (old : Image Kind) (end : Option End) (cmd : ℕ) (dat : Part) → IsPlainAt old end (Ok (Requests.Str cmd dat))
str_is_plain old None cmd dat = tt
str_is_plain old (Some e) cmd dat = plain_if old e (Requests.Str cmd dat) (λ refusal. tt) refl

-- of a push, which takes no memory but for its module
pub push_is_plain : (old : Image Kind) (end : Option End) (shape : Option (Shape Kind)) → IsPlainAt old end (push_of shape)
push_is_plain old None shape = tt
push_is_plain old (Some e) None = tt
push_is_plain old (Some e) (Some shape) = plain_if old e (Requests.Push shape) (λ refusal. tt) refl

-- ---- a find

-- of a find, which takes no memory: none of its refusals is want of memory
abbrev wants : Option Refusal → Bool
wants None = false
wants (Some refusal) = is_no_memory refusal

errors_want_none : (looks : Bool × Bool) (rd wr : Option Errno) (rows : List (Bool × Refusal)) → wants (first_that_holds rows) ≡ false → wants (first_that_holds (error_refusals looks rd wr ++ rows)) ≡ false
errors_want_none looks None None rows rest = rest
errors_want_none (reads, true) None (Some errno) rows rest = refl
errors_want_none (reads, false) None (Some errno) rows rest = rest
errors_want_none (true, writes) (Some errno) wr rows rest = refl
errors_want_none (false, writes) (Some errno) None rows rest = rest
errors_want_none (false, true) (Some errno) (Some other) rows rest = refl
errors_want_none (false, false) (Some errno) (Some other) rows rest = rest

rows_want_none : (closed broken wrong : Bool) (rd wr : Option Errno) → wants (first_that_holds (((closed, Closed) ∷ (broken, Broken) ∷ error_refusals (true, true) rd wr) ++ ((wrong, Invalid) ∷ []))) ≡ false
rows_want_none true broken wrong rd wr = refl
rows_want_none false true wrong rd wr = refl
rows_want_none false false true rd wr = errors_want_none (true, true) rd wr ((true, Invalid) ∷ []) refl
rows_want_none false false false rd wr = errors_want_none (true, true) rd wr ((false, Invalid) ∷ []) refl

find_wants_none : (old : Image Kind) (e : End) (name : List ℕ) (refusal : Refusal) → refusal_of builtin old e (Requests.Find name) ≡ Some refusal → is_no_memory refusal ≡ false
find_wants_none old e name refusal first =
    let state = (Ends.end_of old e).state in
    subst (λ found. wants found ≡ false) first (rows_want_none (not (Ends.end_of old e).is_open) old.broken (not (nat_le 1 (length name) && nat_le (length name) LONGEST_NAME)) state.rd_errno state.wr_errno)

pub find_is_plain : (old : Image Kind) (end : Option End) (name : List ℕ) → IsPlainAt old end (Ok (Requests.Find name))
find_is_plain old None name = tt
find_is_plain old (Some e) name = record { fits = λ refusal. tt; memory = λ refusal first takes. find_wants_none old e name refusal first }

-- ---- what is made of arguments

-- what is told in the place of a request that has these refusals
pub told_made : (old : Image Kind) (n : ℕ) (e : End) (request : Request (Shape Kind)) (asked : RequestOrRefusal) (found : Option Refusal) → end_of n ≡ Some e → asked ≡ Ok request → refusal_of builtin old e request ≡ found → IsMade old (end_of n) asked (Err (unwrap_or found NoMemory))
told_made old n e request asked found at is first =
    inr (sym (ap (λ (end : Option End). Err (refused_at old end asked)) at ∙ ap (λ (a : RequestOrRefusal). Err (refused_at old (Some e) a)) is ∙ ap (λ (f : Option Refusal). Err (unwrap_or f NoMemory)) first))
