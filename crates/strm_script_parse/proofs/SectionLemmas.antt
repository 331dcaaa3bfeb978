-- Lines that say calls alone, and texts that are cut at the end of a line.
use Rattle.std.proofs.Common.{◌≡◌, ℕ, suc, ◌+◌, ◌<◌, ◌==◌, nat_lt, Bool, true, false, cond, List, [], ◌∷◌, ◌++◌, length, map, take, drop, get_or, slice_get, slice_index, codes, Option, Some, None, Result, Ok, Err, IfOk, refl, sym, ap, subst, ◌∙◌, arith}
use Rattle.std.specs.Str.{bytes_eq}
use Rattle.std.specs.Str.Lines.{lines, lines_of_parts, strip_carriage_return}
use Rattle.std.specs.List.{find, onto_first, slice_split}
use Rattle.std.proofs.Math.Nat.{add_assoc}
use Rattle.std.proofs.Math.Seq.{drop-cons, take-suc}
use Rattle.std.proofs.lemmas.Bool.{lt-ltb}
use Rattle.std.proofs.lemmas.List.{append-nil, append_assoc, length-append, take-append-drop}
use Rattle.std.proofs.lemmas.List.Elements.{All-append, All-nil, All-cons}
use Rattle.std.proofs.lemmas.List.Splits.{length-slice_split}
use Rattle.std.proofs.lemmas.Slice.Eq.{bytes_eq-Decides}
use Rattle.strm_script_text.proofs.LineLemmas.{line_before}
use Rattle.strm_script_words.specs.Naming.{KindWords, shape_at}
use Rattle.strm_script_words.specs.Fault.{◌>>=◌, or_fault}
use Rattle.strm_script_words.specs.Table.{Asked, Pushed, word_of, all_verbs, verb_named, is_push, arity_at, request_at, served_at, told_at}
use Rattle.strm_script_words.specs.Service.{is_service}
use Rattle.strm_script_words.specs.declared.fault.Cause.{Cause}
use Rattle.strm_script_words.specs.declared.fault.Cause.TheVariants as causes
use Rattle.strm_script_words.specs.declared.verb.Verb.{Verb}
use Rattle.strm_msg.specs.declared.memory.NoMem.{NoMem}
use Rattle.strm_module.specs.declared.shape.Shape.{Shape}
use Rattle.strm_script_parse.specs.Plan.{Call, Expect, Process, Streams, Partial, Place, Nowhere, In_process, In_feed, call_view}
use Rattle.strm_script_parse.specs.Expected.{call_fields, reply_fields, expected_of}
use Rattle.strm_script_parse.specs.Reading.{ended, ended_at, stream_onto, process_onto, feed_onto, link_onto, await_onto, carry_onto, is_await, is_carry, is_link, process_line_onto, other_onto, call_at, call_onto, with_call, fields_in, fields_onto, word_onto, inner_onto, outside, line_onto, lines_onto, modules_after}
use Rattle.strm_script_parse.specs.Sound.{end_is_there, AreCallsThere}
use Rattle.strm_script_parse.specs.Section.{HasRoom, called, with_calls, AddsCalls, Says}
use Rattle.strm_script_parse.specs.declared.section.Said.{Said}
use Rattle.strm_script_parse.specs.Targets.{target_of}
use Rattle.strm_script_parse.specs.declared.draft.TheConstants.{MOST_CALLS}
use Rattle.strm_script_parse.proofs.LineLemmas.{one_more}
use Rattle.strm_script_parse.proofs.ThereLemmas.{call_there}

-- ---- a text that is cut behind the end of a line

abbrev ends_line : ℕ → Bool
ends_line byte = byte == 10

abbrev parts : List ℕ → List (List ℕ)
parts text = slice_split ends_line text

some_parts : (text : List ℕ) → 0 < length (parts text)
some_parts text = omega (arith, length-slice_split ends_line text)

onto_append : (x : ℕ) (some more : List (List ℕ)) → 0 < length some → onto_first x (some ++ more) ≡ onto_first x some ++ more
onto_append x [] more there = absurd (omega (arith, there))
onto_append x (part ∷ some) more there = refl

cond_append : (b : Bool) (x : ℕ) (some more : List (List ℕ)) → 0 < length some → cond b ([] ∷ (some ++ more)) (onto_first x (some ++ more)) ≡ cond b ([] ∷ some) (onto_first x some) ++ more
cond_append true x some more there = refl
cond_append false x some more there = onto_append x some more there

-- what stands before the end of a line and what behind it have parts of their own
parts_cut : (before after : List ℕ) → parts (before ++ 10 ∷ after) ≡ parts before ++ parts after
parts_cut [] after = refl
parts_cut (x ∷ before) after =
    ap (λ (some : List (List ℕ)). cond (ends_line x) ([] ∷ some) (onto_first x some)) (parts_cut before after)
    ∙ cond_append (ends_line x) x (parts before) (parts after) (some_parts before)

lines_append : (some more : List (List ℕ)) → 0 < length more → lines_of_parts (some ++ more) ≡ map strip_carriage_return some ++ lines_of_parts more
lines_append [] more there = refl
lines_append (part ∷ some) more there =
    line_before part (some ++ more) (omega (arith, there, length-append some more))
    ∙ ap (λ (all : List (List ℕ)). strip_carriage_return part ∷ all) (lines_append some more there)

cut_lines : (before after : List ℕ) → lines (before ++ 10 ∷ after) ≡ lines (before ++ 10 ∷ []) ++ lines after
cut_lines before after =
    let first = map strip_carriage_return (parts before) in
    let all = ap lines_of_parts (parts_cut before after) ∙ lines_append (parts before) (parts after) (some_parts after) in
    let one = ap lines_of_parts (parts_cut before []) ∙ lines_append (parts before) (parts []) (some_parts []) ∙ append-nil first in
    all ∙ ap (λ (some : List (List ℕ)). some ++ lines after) (sym one)

-- a text is cut behind a place at which a line ends
pub lines_cut : (text : List ℕ) (k n : ℕ) → k + 1 ≡ n → k < length text → slice_index text k ≡ 10 → lines text ≡ lines (take n text) ++ lines (drop n text)
lines_cut text k n next there ends =
    let ends : get_or text k 0 ≡ 10 = ends in
    let rest : drop k text ≡ 10 ∷ drop (suc k) text = drop-cons text k 0 there ∙ ap (λ (x : ℕ). x ∷ drop (suc k) text) ends in
    let whole : text ≡ take k text ++ 10 ∷ drop (suc k) text = sym (take-append-drop k text) ∙ ap (λ (l : List ℕ). take k text ++ l) rest in
    let first : take (suc k) text ≡ take k text ++ 10 ∷ [] = take-suc text k 0 there ∙ ap (λ (x : ℕ). take k text ++ x ∷ []) ends in
    let is : suc k ≡ n = omega (arith, next) in
    subst (λ (m : ℕ). lines text ≡ lines (take m text) ++ lines (drop m text)) is (ap lines whole ∙ cut_lines (take k text) (drop (suc k) text) ∙ ap (λ (l : List ℕ). lines l ++ lines (drop (suc k) text)) (sym first))

-- ---- a line that says nothing, or a call

called_nothing : {K : Type 0} (place : Place K) → called place [] ≡ place
called_nothing Nowhere = refl
called_nothing {K} (In_process process) = ap (λ (calls : List (Call K)). In_process (record process { calls = calls })) (append-nil process.calls)
called_nothing (In_feed feed) = refl

called_twice : {K : Type 0} (place : Place K) (some more : List (Call K)) → called (called place some) more ≡ called place (some ++ more)
called_twice Nowhere some more = refl
called_twice {K} (In_process process) some more = ap (λ (calls : List (Call K)). In_process (record process { calls = calls })) (append_assoc process.calls some more)
called_twice (In_feed feed) some more = refl

room_for_both : {K : Type 0} (place : Place K) (some more : List (Call K)) → HasRoom place (length (some ++ more)) → HasRoom place (length some) × HasRoom (called place some) (length more)
room_for_both Nowhere some more room = absurd room
room_for_both (In_process process) some more room =
    (omega (arith, room, length-append some more), omega (arith, room, length-append some more, length-append process.calls some))
room_for_both (In_feed feed) some more room = absurd room

-- what is found passes the test
found_by : {A : Type 0} (p : A → Bool) (x y : A) (b : Bool) (rest : Option A) → p x ≡ b → cond b (Some x) rest ≡ Some y → (rest ≡ Some y → p y ≡ true) → p y ≡ true
found_by p x y true rest is same goes = let one : x ≡ y = cc in subst (λ z. p z ≡ true) one is
found_by p x y false rest is same goes = goes same

found_passes : {A : Type 0} (p : A → Bool) (all : List A) (y : A) → find p all ≡ Some y → p y ≡ true
found_passes p [] y is = absurd cc
found_passes p (x ∷ all) y is = found_by p x y (p x) (find p all) refl is (λ is. found_passes p all y is)

-- no verb is the word of a declaration, of an await or of a carry
abbrev IsNoDeclaration : List ℕ → Type 0
IsNoDeclaration word = (bytes_eq word (codes "stream") ≡ false) × (bytes_eq word (codes "process") ≡ false) × (bytes_eq word (codes "feed") ≡ false) × (is_await word ≡ false) × (is_carry word ≡ false) × (is_link word ≡ false)

no_declaration : (verb : Verb) → IsNoDeclaration (word_of verb)
no_declaration Verb.Putmsg = (refl, refl, refl, refl, refl, refl)
no_declaration Verb.Putpmsg = (refl, refl, refl, refl, refl, refl)
no_declaration Verb.Getmsg = (refl, refl, refl, refl, refl, refl)
no_declaration Verb.Getpmsg = (refl, refl, refl, refl, refl, refl)
no_declaration Verb.Read = (refl, refl, refl, refl, refl, refl)
no_declaration Verb.Write = (refl, refl, refl, refl, refl, refl)
no_declaration Verb.Push = (refl, refl, refl, refl, refl, refl)
no_declaration Verb.Pop = (refl, refl, refl, refl, refl, refl)
no_declaration Verb.Look = (refl, refl, refl, refl, refl, refl)
no_declaration Verb.List = (refl, refl, refl, refl, refl, refl)
no_declaration Verb.Find = (refl, refl, refl, refl, refl, refl)
no_declaration Verb.Str = (refl, refl, refl, refl, refl, refl)
no_declaration Verb.Strput = (refl, refl, refl, refl, refl, refl)
no_declaration Verb.Strget = (refl, refl, refl, refl, refl, refl)
no_declaration Verb.Flush = (refl, refl, refl, refl, refl, refl)
no_declaration Verb.FlushBand = (refl, refl, refl, refl, refl, refl)
no_declaration Verb.Nread = (refl, refl, refl, refl, refl, refl)
no_declaration Verb.Peek = (refl, refl, refl, refl, refl, refl)
no_declaration Verb.SetRead = (refl, refl, refl, refl, refl, refl)
no_declaration Verb.GetRead = (refl, refl, refl, refl, refl, refl)
no_declaration Verb.Canput = (refl, refl, refl, refl, refl, refl)
no_declaration Verb.Ckband = (refl, refl, refl, refl, refl, refl)
no_declaration Verb.Getband = (refl, refl, refl, refl, refl, refl)
no_declaration Verb.Close = (refl, refl, refl, refl, refl, refl)
no_declaration Verb.Take = (refl, refl, refl, refl, refl, refl)
no_declaration Verb.Getq = (refl, refl, refl, refl, refl, refl)
no_declaration Verb.Putbq = (refl, refl, refl, refl, refl, refl)
no_declaration Verb.Putnext = (refl, refl, refl, refl, refl, refl)
no_declaration Verb.Bcanputnext = (refl, refl, refl, refl, refl, refl)
no_declaration Verb.Qsize = (refl, refl, refl, refl, refl, refl)
no_declaration Verb.Tick = (refl, refl, refl, refl, refl, refl)
no_declaration Verb.Poll = (refl, refl, refl, refl, refl, refl)

verb_declares_nothing : (word : List ℕ) (verb : Verb) → verb_named word ≡ Some verb → IsNoDeclaration word
verb_declares_nothing word verb is =
    let same : word_of verb ≡ word = (bytes_eq-Decides (word_of verb) word).0 (found_passes (λ one. bytes_eq (word_of one) word) all_verbs verb is) in
    subst (λ (w : List ℕ). IsNoDeclaration w) same (no_declaration verb)

-- so a line of a process that begins with a verb is a call
pub verb_line : {K : Type 0} (words : KindWords K) (n : ℕ) (d : Partial K) (process : Process K) (word : List ℕ) (texts : List (List ℕ)) (verb : Verb) → verb_named word ≡ Some verb → process_line_onto words n d process word texts ≡ call_onto words n d process verb texts
verb_line {K} words n d process word texts verb named =
    let call : Result Verb Cause → Result (Partial K) Cause = λ r. r >>= λ verb. call_onto words n d process verb texts in
    let other = verb_declares_nothing word verb named in
    ap (λ (b : Bool). cond b (await_onto d process texts) (cond (is_carry word) (carry_onto d process texts) (call (or_fault (outside word) (verb_named word))))) other.3
    ∙ ap (λ (b : Bool). cond b (carry_onto d process texts) (call (or_fault (outside word) (verb_named word)))) other.4
    ∙ ap (λ (found : Option Verb). call (or_fault (outside word) found)) named

-- whatever goes on
pub verb_other : {K : Type 0} (words : KindWords K) (n : ℕ) (d : Partial K) (place : Place K) (word : List ℕ) (texts : List (List ℕ)) (verb : Verb) → verb_named word ≡ Some verb → other_onto words n d place word texts ≡ inner_onto words n d place word texts
verb_other words n d place word texts verb named =
    ap (λ (b : Bool). cond b (link_onto (ended_at d place) texts) (inner_onto words n d place word texts)) (verb_declares_nothing word verb named).5

module _ {K : Type 0} (words : KindWords K) (streams : Streams) where
  -- what is no push is read by itself as it is anywhere
  request_is : (serial : ℕ) (verb : Verb) (texts : List (List ℕ)) → is_push verb ≡ false → request_at words serial verb texts ≡ cond (is_service verb) (served_at verb texts) (told_at verb texts)
  request_is serial verb texts none = ap (λ b. cond b (shape_at words serial texts >>= λ shape. Ok (Pushed shape)) (cond (is_service verb) (served_at verb texts) (told_at verb texts))) none

  abbrev call_by : Result (Asked K) Cause → Verb → List (List ℕ) → Result (Call K) Cause
  call_by asked verb [] = Err causes.Fields
  call_by asked verb (target ∷ texts) =
      arity_at words verb texts >>= λ arity. cond (length texts == arity) (or_fault causes.NoSuch (target_of streams target) >>= λ place. asked >>= λ asked. Ok (record { stream = place.0; end = place.1; asked = asked })) (Err causes.Fields)

  call_same : (one other : ℕ) (verb : Verb) (texts : List (List ℕ)) → is_push verb ≡ false → call_at words streams one verb texts None ≡ call_at words streams other verb texts None
  unfolding call_at
  call_same one other verb [] none = refl
  call_same one other verb (target ∷ texts) none =
      ap (λ asked. call_by asked verb (target ∷ texts)) (request_is one verb texts none ∙ sym (request_is other verb texts none))

  -- a line without fields says nothing
  pub says_nothing : AddsCalls streams (λ n d. fields_onto words n d []) []
  says_nothing = record {
    onto = λ n d same room. ap (λ (place : Place K). Ok (record d { place = place })) (sym (called_nothing d.place));
    there = All-nil (λ (call : Call K). end_is_there (slice_get streams call.stream) call.end ≡ true);
  }

  inner_call : (n : ℕ) (d : Partial K) (place : Place K) (word : List ℕ) (texts : List (List ℕ)) (verb : Verb) (call : Call K) → verb_named word ≡ Some verb → is_push verb ≡ false → reply_fields texts ≡ None → call_at words streams 0 verb (call_fields texts) None ≡ Ok call → d.streams ≡ streams → HasRoom place 1 → inner_onto words n d place word texts ≡ Ok (record d { place = called place (call ∷ []) })
  unfolding call_onto
  inner_call n d Nowhere word texts verb call named none bare read same room = absurd room
  inner_call n d (In_process process) word texts verb call named none bare read same room =
      let begun = verb_line words n d process word texts verb named in
      let is_room : nat_lt (length process.calls) MOST_CALLS ≡ true = lt-ltb (length process.calls) MOST_CALLS (omega (arith, room)) in
      let fields = call_fields texts in
      let its : call_at words d.streams (d.modules + 1) verb fields None ≡ Ok call = ap (λ (s : Streams). call_at words s (d.modules + 1) verb fields None) same ∙ call_same (d.modules + 1) 0 verb fields none ∙ read in
      let uncut = ap (λ (replies : Option (List (List ℕ))). call_at words d.streams (d.modules + 1) verb fields replies >>= λ call. with_call d process verb call (expected_of n (length process.calls) replies)) bare in
      let going = ap (λ (r : Result (Call K) Cause). r >>= λ call. with_call d process verb call []) its in
      let whole = ap (λ (expected : List Expect). Ok (record d { modules = modules_after verb d.modules; place = In_process (record process { calls = process.calls ++ call ∷ []; expected = expected }) })) (append-nil process.expected) in
      let put = ap (λ (b : Bool). cond b (Ok (record d { modules = modules_after verb d.modules; place = called (In_process process) (call ∷ []) })) (Err causes.TooMany)) is_room in
      let modules = ap (λ (b : Bool). Ok (record d { modules = cond b (d.modules + 1) d.modules; place = called (In_process process) (call ∷ []) })) none in
      begun ∙ uncut ∙ going ∙ ap (λ (r : Result (Partial K) Cause). cond (nat_lt (length process.calls) MOST_CALLS) r (Err causes.TooMany)) whole ∙ put ∙ modules
  inner_call n d (In_feed feed) word texts verb call named none bare read same room = absurd room

  -- a line that is a call, and no push, says that call
  pub says_call : (word : List ℕ) (texts : List (List ℕ)) (verb : Verb) (call : Call K) → verb_named word ≡ Some verb → is_push verb ≡ false → reply_fields texts ≡ None → call_at words streams 0 verb (call_fields texts) None ≡ Ok call → AddsCalls streams (λ n d. word_onto words n d word texts) (call ∷ [])
  unfolding word_onto
  says_call word texts verb call named none bare read = record {
    onto = λ n d same room.
        let other = verb_declares_nothing word verb named in
        let no_stream = ap (λ (b : Bool). cond b (stream_onto (ended d) texts) (cond (bytes_eq word (codes "process")) (process_onto (ended d) texts) (cond (bytes_eq word (codes "feed")) (feed_onto (ended d) texts) (other_onto words n d d.place word texts)))) other.0 in
        let no_process = ap (λ (b : Bool). cond b (process_onto (ended d) texts) (cond (bytes_eq word (codes "feed")) (feed_onto (ended d) texts) (other_onto words n d d.place word texts))) other.1 in
        let no_feed = ap (λ (b : Bool). cond b (feed_onto (ended d) texts) (other_onto words n d d.place word texts)) other.2 in
        no_stream ∙ no_process ∙ no_feed ∙ verb_other words n d d.place word texts verb named ∙ inner_call n d d.place word texts verb call named none bare read same room;
    there = All-cons (λ (call : Call K). end_is_there (slice_get streams call.stream) call.end ≡ true) call [] (call_there words streams 0 verb (call_fields texts) None call read) (All-nil (λ (call : Call K). end_is_there (slice_get streams call.stream) call.end ≡ true));
  }

  line_adds : (line : List ℕ) (fields : List (List ℕ)) (calls : List (Call K)) → fields_in line ≡ Ok fields → AddsCalls streams (λ n d. fields_onto words n d fields) calls → AddsCalls streams (λ n d. line_onto words n d line) calls
  unfolding line_onto
  line_adds line fields calls is adds = record {
    onto = λ n d same room. ap (λ (r : Result (List (List ℕ)) Cause). r >>= λ texts. fields_onto words n d texts) is ∙ adds.onto n d same room;
    there = adds.there;
  }

  says_so : (line : List ℕ) (fields : List (List ℕ)) (said : Said (Shape K)) → fields_in line ≡ Ok fields → Says streams (λ n d. fields_onto words n d fields) said → Says streams (λ n d. line_onto words n d line) said
  says_so line fields Said.Nothing is says = line_adds line fields [] is says
  says_so line fields (Said.Call call) is says = line_adds line fields (call_view call ∷ []) is says
  says_so line fields Said.Other is says = says

  -- a line says what its fields say
  pub line_says : (line : List ℕ) (fields : List (List ℕ)) (r : Result (Said (Shape K)) NoMem) → fields_in line ≡ Ok fields → IfOk r (λ said. Says streams (λ n d. fields_onto words n d fields) said) → IfOk r (λ said. Says streams (λ n d. line_onto words n d line) said)
  line_says line fields (Ok said) is says = says_so line fields said is says
  line_says line fields (Err error) is says = tt

  -- one line more of those that say calls
  pub one_said : (all rest after : List (List ℕ)) (line : List ℕ) (calls said : List (Call K)) (many : ℕ) → rest ≡ line ∷ after → ((n : ℕ) (d : Partial K) (others : List (List ℕ)) → d.streams ≡ streams → HasRoom d.place (length calls) → lines_onto words n d (all ++ others) ≡ lines_onto words (n + many) (with_calls d calls) (rest ++ others)) → AddsCalls streams (λ n d. line_onto words n d line) said → (n : ℕ) (d : Partial K) (others : List (List ℕ)) → d.streams ≡ streams → HasRoom d.place (length (calls ++ said)) → lines_onto words n d (all ++ others) ≡ lines_onto words (n + (many + 1)) (with_calls d (calls ++ said)) (after ++ others)
  one_said all rest after line calls said many first so_far says n d others same room =
      let both = room_for_both d.place calls said room in
      let next = one_more words (n + many) (with_calls d calls) (rest ++ others) (after ++ others) line (ap (λ (l : List (List ℕ)). l ++ others) first) (with_calls (with_calls d calls) said) (says.onto (n + many + 1) (with_calls d calls) same both.1) in
      so_far n d others same both.0 ∙ next
      ∙ ap (λ (place : Place K). lines_onto words (n + many + 1) (record d { place = place }) (after ++ others)) (called_twice d.place calls said)
      ∙ ap (λ (k : ℕ). lines_onto words k (with_calls d (calls ++ said)) (after ++ others)) (add_assoc n many 1)

  pub said_there : (calls said : List (Call K)) (line : List ℕ) → AreCallsThere streams calls → AddsCalls streams (λ n d. line_onto words n d line) said → AreCallsThere streams (calls ++ said)
  said_there calls said line there says = All-append (λ (call : Call K). end_is_there (slice_get streams call.stream) call.end ≡ true) calls said there says.there

  pub nothing_said : (all rest after : List (List ℕ)) (line : List ℕ) (calls : List (Call K)) (many : ℕ) → rest ≡ line ∷ after → ((n : ℕ) (d : Partial K) (others : List (List ℕ)) → d.streams ≡ streams → HasRoom d.place (length calls) → lines_onto words n d (all ++ others) ≡ lines_onto words (n + many) (with_calls d calls) (rest ++ others)) → AddsCalls streams (λ n d. line_onto words n d line) [] → (n : ℕ) (d : Partial K) (others : List (List ℕ)) → d.streams ≡ streams → HasRoom d.place (length calls) → lines_onto words n d (all ++ others) ≡ lines_onto words (n + (many + 1)) (with_calls d calls) (after ++ others)
  nothing_said all rest after line calls many first so_far says n d others same room =
      let whole = append-nil calls in
      one_said all rest after line calls [] many first so_far says n d others same (subst (λ (l : List (Call K)). HasRoom d.place (length l)) (sym whole) room)
      ∙ ap (λ (l : List (Call K)). lines_onto words (n + (many + 1)) (with_calls d l) (after ++ others)) whole
