-- The calls of a script: the word and the fields of each. Both reading and printing use this one table.
use Rattle.std.specs.Prelude.{ℕ, ◌||◌, ◌==◌, Bool, true, false, List, [], ◌∷◌, length, filter, Option, Result, Ok, Err, codes, map, if◌then◌else◌}
use Rattle.std.specs.List.{list_any}
use Rattle.strm_module.specs.declared.shape.Shape.{Shape}
use Rattle.strm_msg.specs.declared.words.Side.{Side}
use Rattle.strm_head_calls.specs.declared.request.Request.{Request}
use Rattle.strm_head_calls.specs.declared.service.ServiceCall.{ServiceCall}
use Rattle.strm_script_words.specs.Fault.{◌>>=◌}
use Rattle.strm_script_words.specs.Words.{named, priority_word, all_priorities, put_word, all_puts, wanted_word, all_wanted, get_word, all_gets, mode_word, all_modes, prot_word, all_prots, flush_word, all_sides, drop_word, all_drops}
use Rattle.strm_script_words.specs.Field.{Form, Whole, Optional, Maximum, Upto, Choice, is_part, Field, Bytes, Number, Word, part_field, maximum_field, fields_at}
use Rattle.strm_script_words.specs.Naming.{KindWords, push_arity, shape_at}
use Rattle.strm_script_words.specs.Service.{is_service, sends_message, service_arity, service_call_at, module_at, queue_at}
use Rattle.strm_script_words.specs.declared.fault.Cause.{Cause}
use Rattle.strm_script_words.specs.declared.fault.Cause.TheVariants as causes
use Rattle.strm_script_words.specs.declared.field.TheConstants.{MOST_ASKED, MOST_BAND, MOST_U32}
use Rattle.strm_script_words.specs.declared.verb.Verb.{Verb}

-- the word of a call
abbrev pub word_of : Verb → List ℕ
word_of Verb.Putmsg = codes "putmsg"
word_of Verb.Putpmsg = codes "putpmsg"
word_of Verb.Getmsg = codes "getmsg"
word_of Verb.Getpmsg = codes "getpmsg"
word_of Verb.Read = codes "read"
word_of Verb.Write = codes "write"
word_of Verb.Push = codes "push"
word_of Verb.Pop = codes "pop"
word_of Verb.Look = codes "look"
word_of Verb.List = codes "list"
word_of Verb.Find = codes "find"
word_of Verb.Str = codes "str"
word_of Verb.Strput = codes "strput"
word_of Verb.Strget = codes "strget"
word_of Verb.Flush = codes "flush"
word_of Verb.FlushBand = codes "flushband"
word_of Verb.Nread = codes "nread"
word_of Verb.Peek = codes "peek"
word_of Verb.SetRead = codes "setread"
word_of Verb.GetRead = codes "getread"
word_of Verb.Canput = codes "canput"
word_of Verb.Ckband = codes "ckband"
word_of Verb.Getband = codes "getband"
word_of Verb.Close = codes "close"
word_of Verb.Take = codes "take"
word_of Verb.Getq = codes "getq"
word_of Verb.Putbq = codes "putbq"
word_of Verb.Putnext = codes "putnext"
word_of Verb.Bcanputnext = codes "bcanputnext"
word_of Verb.Qsize = codes "qsize"
word_of Verb.Tick = codes "tick"
word_of Verb.Poll = codes "poll"

abbrev pub all_verbs : List Verb
all_verbs = Verb.Putmsg ∷ Verb.Putpmsg ∷ Verb.Getmsg ∷ Verb.Getpmsg ∷ Verb.Read ∷ Verb.Write ∷ Verb.Push ∷ Verb.Pop ∷ Verb.Look ∷ Verb.List ∷ Verb.Find ∷ Verb.Str ∷ Verb.Strput ∷ Verb.Strget ∷ Verb.Flush ∷ Verb.FlushBand ∷ Verb.Nread ∷ Verb.Peek ∷ Verb.SetRead ∷ Verb.GetRead ∷ Verb.Canput ∷ Verb.Ckband ∷ Verb.Getband ∷ Verb.Close ∷ Verb.Take ∷ Verb.Getq ∷ Verb.Putbq ∷ Verb.Putnext ∷ Verb.Bcanputnext ∷ Verb.Qsize ∷ Verb.Tick ∷ Verb.Poll ∷ []

-- the calls whose words have this length (no public clause cites it)
abbrev pub verbs_of_length : ℕ → List Verb
verbs_of_length n = filter (λ verb. length (word_of verb) == n) all_verbs

-- the call of a word
abbrev pub verb_named : List ℕ → Option Verb
verb_named text = named word_of all_verbs text

-- the fields of a call behind NAME:END, from left to right; those of a push depend on the kind of its module,
-- and are in Push, and those of a service call are in Service
abbrev pub forms_of : Verb → List Form
forms_of Verb.Putmsg = Optional ∷ Optional ∷ Choice (map priority_word all_priorities) ∷ []
forms_of Verb.Putpmsg = Optional ∷ Optional ∷ Upto MOST_BAND ∷ Choice (map put_word all_puts) ∷ []
forms_of Verb.Getmsg = Maximum ∷ Maximum ∷ Choice (map wanted_word all_wanted) ∷ []
forms_of Verb.Getpmsg = Maximum ∷ Maximum ∷ Upto MOST_BAND ∷ Choice (map get_word all_gets) ∷ []
forms_of Verb.Read = Upto MOST_ASKED ∷ []
forms_of Verb.Write = Whole ∷ []
forms_of Verb.Find = Whole ∷ []
forms_of Verb.Str = Upto MOST_U32 ∷ Optional ∷ []
forms_of Verb.Strput = Upto MOST_U32 ∷ Optional ∷ []
forms_of Verb.Strget = Choice (map drop_word all_drops) ∷ []
forms_of Verb.Flush = Choice (map (λ sides. flush_word sides.0 sides.1) all_sides) ∷ []
forms_of Verb.FlushBand = Upto MOST_BAND ∷ Choice (map (λ sides. flush_word sides.0 sides.1) all_sides) ∷ []
forms_of Verb.Peek = Maximum ∷ Maximum ∷ Choice (map wanted_word all_wanted) ∷ []
forms_of Verb.SetRead = Choice (map mode_word all_modes) ∷ Choice (map prot_word all_prots) ∷ []
forms_of Verb.Canput = Upto MOST_BAND ∷ []
forms_of Verb.Ckband = Upto MOST_BAND ∷ []
forms_of Verb.Tick = Upto MOST_U32 ∷ []
forms_of verb = []

abbrev pub is_push : Verb → Bool
is_push Verb.Push = true
is_push verb = false

-- whether the call takes memory, for a part, for a message or for a module
abbrev pub takes_memory : Verb → Bool
takes_memory verb = is_push verb || sends_message verb || list_any is_part (forms_of verb)

-- the request of a call: a verb with the values of its fields, a service call of a module, or a module to be
-- pushed
pub data Asked (K : Type 0) : Type 0 where
  Serves : (name : List ℕ) → (side : Side) → (call : ServiceCall) → Asked K
  Told : (verb : Verb) → (fields : List Field) → Asked K
  Pushed : (shape : Shape K) → Asked K

abbrev pub asked_of : {K : Type 0} → Request (Shape K) → Asked K
asked_of (Request.Putmsg flag parts) = Told Verb.Putmsg (part_field parts.ctl ∷ part_field parts.dat ∷ Word (priority_word flag) ∷ [])
asked_of (Request.Putpmsg band flag parts) = Told Verb.Putpmsg (part_field parts.ctl ∷ part_field parts.dat ∷ Number band ∷ Word (put_word flag) ∷ [])
asked_of (Request.Getmsg maxctl maxdat flag) = Told Verb.Getmsg (maximum_field maxctl ∷ maximum_field maxdat ∷ Word (wanted_word flag) ∷ [])
asked_of (Request.Getpmsg maxctl maxdat band flag) = Told Verb.Getpmsg (maximum_field maxctl ∷ maximum_field maxdat ∷ Number band ∷ Word (get_word flag) ∷ [])
asked_of (Request.Read max) = Told Verb.Read (Number max ∷ [])
asked_of (Request.Write dat) = Told Verb.Write (Bytes dat ∷ [])
asked_of (Request.Push shape) = Pushed shape
asked_of Request.Pop = Told Verb.Pop []
asked_of Request.Look = Told Verb.Look []
asked_of Request.List = Told Verb.List []
asked_of (Request.Find name) = Told Verb.Find (Bytes name ∷ [])
asked_of (Request.Str cmd dat) = Told Verb.Str (Number cmd ∷ part_field dat ∷ [])
asked_of (Request.Strput cmd dat) = Told Verb.Strput (Number cmd ∷ part_field dat ∷ [])
asked_of (Request.Strget drops) = Told Verb.Strget (Word (drop_word drops) ∷ [])
asked_of (Request.Flush r w) = Told Verb.Flush (Word (flush_word r w) ∷ [])
asked_of (Request.FlushBand band r w) = Told Verb.FlushBand (Number band ∷ Word (flush_word r w) ∷ [])
asked_of Request.Nread = Told Verb.Nread []
asked_of (Request.Peek maxctl maxdat flag) = Told Verb.Peek (maximum_field maxctl ∷ maximum_field maxdat ∷ Word (wanted_word flag) ∷ [])
asked_of (Request.SetRead mode prot) = Told Verb.SetRead (Word (mode_word mode) ∷ Word (prot_word prot) ∷ [])
asked_of Request.GetRead = Told Verb.GetRead []
asked_of (Request.Canput band) = Told Verb.Canput (Number band ∷ [])
asked_of (Request.Ckband band) = Told Verb.Ckband (Number band ∷ [])
asked_of Request.Getband = Told Verb.Getband []
asked_of Request.Close = Told Verb.Close []
asked_of Request.Take = Told Verb.Take []
asked_of (Request.Service name side call) = Serves name.items side call
asked_of (Request.Tick ticks) = Told Verb.Tick (Number ticks ∷ [])
asked_of Request.Poll = Told Verb.Poll []

-- the request of a call that has no fields (no public clause cites it)
abbrev pub plain_at : {K : Type 0} → Asked K → List (List ℕ) → Result (Asked K) Cause
plain_at asked texts = fields_at [] texts >>= λ fields. Ok asked

-- the number of fields that follow NAME:END
abbrev pub arity_at : {K : Type 0} → KindWords K → Verb → List (List ℕ) → Result ℕ Cause
arity_at words verb texts =
    if is_push verb then push_arity words texts
    else if is_service verb then service_arity verb texts
    else Ok (length (forms_of verb))

-- the request of a service call: its module, its side, and the call
abbrev pub served_at : {K : Type 0} → Verb → List (List ℕ) → Result (Asked K) Cause
served_at verb (name ∷ side ∷ texts) = do
  chosen ← module_at name
  queue ← queue_at side
  call ← service_call_at verb texts
  Ok (Serves chosen queue call)
served_at verb texts = Err causes.Fields

-- the request of a call that is no push and no service call
abbrev pub told_at : {K : Type 0} → Verb → List (List ℕ) → Result (Asked K) Cause
told_at verb texts = fields_at (forms_of verb) texts >>= λ fields. Ok (Told verb fields)

-- the request of a call of this verb with these fields; the module of a push gets this serial
abbrev pub request_at : {K : Type 0} → KindWords K → ℕ → Verb → List (List ℕ) → Result (Asked K) Cause
request_at words serial verb texts =
    if is_push verb then (shape_at words serial texts >>= λ shape. Ok (Pushed shape))
    else if is_service verb then served_at verb texts
    else told_at verb texts
