-- What is gathered, piece by piece.
use Rattle.std.proofs.Common.{◌≡◌, ℕ, ◌+◌, ◌<◌, List, [], ◌∷◌, ◌++◌, length, take, map, get_or, Option, Some, None, IfSome, Result, Ok, Err, IsOk, OnOk, refl, sym, ap, subst, ◌∙◌, append_assoc, arith}
use Rattle.std.specs.declared.io.Error.{Error}
use Rattle.std.specs.Io.KnownBytes.{Appends, append_known}
use Rattle.std.specs.Fmt.{decimal}
use Rattle.std.specs.List.{flat_map}
use Rattle.std.proofs.lemmas.Fmt.{decimal_by_steps}
use Rattle.std.proofs.lemmas.List.{append-nil, map-append, take_more}
use Rattle.std.proofs.lemmas.List.Concat.{flat_map-append}
use Rattle.arrayvec.specs.ArrayVec.{ArrayVec}
use Rattle.strm_script_text.proofs.WriteLemmas.{appends_then}
use Rattle.strm_msg.specs.declared.words.End.{End}
use Rattle.strm_module.specs.declared.driver.Driver.{Driver}
use Rattle.strm_module.specs.declared.shape.Shape.{Shape}
use Rattle.strm_module.specs.Driver.{driver_name}
use Rattle.strm_head_calls.specs.declared.request.Request.{Request}
use Rattle.strm_shared_entry.specs.Entry.{Entry}
use Rattle.strm_script_words.specs.Field.{Field, Number, Pair, Word}
use Rattle.strm_script_words.specs.Table.{asked_of, word_of}
use Rattle.strm_script_print.specs.declared.field.Field as printed
use Rattle.strm_script_print.specs.declared.line_buffer.LineBuffer.{LineBuffer}
use Rattle.strm_script_print.specs.Fields.{KindSpelling, fields_of, said, spaced, fields_text, verb_of}
use Rattle.strm_script_print.specs.Lines.{call_text, entries_text, entry_text, target_field}
use Rattle.strm_script_print.specs.Replies.{list_fields, name_fields}
use Rattle.strm_script_print.specs.LineBuffer.{IsEmptyBuffer, KeepsError, with_buffered, BufferAppends, IsFlushed}

-- ---- the error that is kept

same_error : (before after : Option Error) → after ≡ before → IfSome before (λ error. after ≡ Some error)
same_error None after is = tt
same_error (Some error) after is = is

error_stays : (before between after : Option Error) → IfSome before (λ error. between ≡ Some error) → IfSome between (λ error. after ≡ Some error) → IfSome before (λ error. after ≡ Some error)
error_stays None between after one other = tt
error_stays (Some error) between after one other = subst (λ (mid : Option Error). IfSome mid (λ error. after ≡ Some error)) one other

no_error : (before after : Option Error) → before ≡ None → IfSome before (λ error. after ≡ Some error)
no_error None after none = tt
no_error (Some error) after none = absurd cc

-- ---- texts, one behind another

-- what the first put, and then what the second put
pub puts_then : (before between after : Option (List ℕ)) (old mid new : LineBuffer) (first second : List ℕ) → BufferAppends before between old mid first → BufferAppends between after mid new second → BufferAppends before after old new (first ++ second)
unfolding BufferAppends
puts_then before between after old mid new first second one other = record {
  stays = λ none. one.stays (other.stays none);
  puts = λ none. appends_then (with_buffered before old) (with_buffered between mid) (with_buffered after new) first second (one.puts (other.stays none)) (other.puts none);
  keeps = error_stays old.refused mid.refused new.refused one.keeps other.keeps;
}

-- the same, where the two are another text
puts_as : (before between after : Option (List ℕ)) (old mid new : LineBuffer) (first second text : List ℕ) → BufferAppends before between old mid first → BufferAppends between after mid new second → first ++ second ≡ text → BufferAppends before after old new text
puts_as before between after old mid new first second text one other is =
    subst (λ (t : List ℕ). BufferAppends before after old new t) is (puts_then before between after old mid new first second one other)

nothing_more : (known : Option (List ℕ)) → Appends known known []
nothing_more None = tt
nothing_more (Some xs) = sym (append-nil xs)

-- nothing was put
pub puts_nothing : (before : Option (List ℕ)) (old : LineBuffer) → BufferAppends before before old old []
unfolding BufferAppends
puts_nothing before old = record {
  stays = λ none. none;
  puts = λ none. nothing_more (with_buffered before old);
  keeps = same_error old.refused old.refused refl;
}

pub ruleset puts = (puts_then, puts_nothing, append-nil)

pub ruleset puts_on = (puts, append_assoc)

-- ---- bytes that are gathered, and bytes that are written

more_gathered : (known : Option (List ℕ)) (items more bytes : List ℕ) → more ≡ items ++ bytes → Appends (append_known known items) (append_known known more) bytes
more_gathered None items more bytes is = tt
more_gathered (Some xs) items more bytes is = ap (λ (rest : List ℕ). xs ++ rest) is ∙ sym (append_assoc xs items bytes)

-- bytes were gathered
pub puts_gathered : (before : Option (List ℕ)) (old new : LineBuffer) (bytes : List ℕ) → new.refused ≡ old.refused → new.bytes.items ≡ old.bytes.items ++ bytes → BufferAppends before before old new bytes
unfolding BufferAppends
puts_gathered before old new bytes same is = record {
  stays = λ none. sym same ∙ none;
  puts = λ none. more_gathered before old.bytes.items new.bytes.items bytes is;
  keeps = same_error old.refused new.refused same;
}

all_written : (before between after : Option (List ℕ)) (items left bytes : List ℕ) → left ≡ [] → Appends before between items → Appends between after bytes → Appends (append_known before items) (append_known after left) bytes
all_written None between after items left bytes none one other = tt
all_written (Some xs) None after items left bytes none one other = absurd one
all_written (Some xs) (Some ys) None items left bytes none one other = absurd other
all_written (Some xs) (Some ys) (Some zs) items left bytes none one other =
    ap (λ (rest : List ℕ). zs ++ rest) none ∙ append-nil zs ∙ other ∙ ap (λ (front : List ℕ). front ++ bytes) one

-- what was gathered is written, and then bytes
pub puts_written : (before between after : Option (List ℕ)) (old mid new : LineBuffer) (bytes : List ℕ) → IsFlushed before between old mid → new.bytes ≡ mid.bytes → (new.refused ≡ None → Appends between after bytes) → BufferAppends before after old new bytes
unfolding BufferAppends
puts_written before between after old mid new bytes flushed same written = record {
  stays = λ none. flushed.stays;
  puts = λ none. all_written before between after old.bytes.items new.bytes.items bytes (ap (λ bytes. bytes.items) same ∙ flushed.fresh.bytes) flushed.text (written none);
  keeps = no_error old.refused new.refused flushed.stays;
}

-- nothing is put any more
pub puts_refused : (before after : Option (List ℕ)) (old new : LineBuffer) (bytes : List ℕ) → (new.refused ≡ None → ⊥) → KeepsError old new → BufferAppends before after old new bytes
unfolding BufferAppends
puts_refused before after old new bytes refused kept =
    record { stays = λ none. absurd (refused none); puts = λ none. absurd (refused none); keeps = kept }

last_written : (before between after : Option (List ℕ)) (first items text : List ℕ) → first ≡ [] → Appends (append_known before first) (append_known between items) text → Appends between after items → Appends before after text
last_written None between after first items text none one other = tt
last_written (Some xs) None after first items text none one other = absurd one
last_written (Some xs) (Some ys) None first items text none one other = absurd other
last_written (Some xs) (Some ys) (Some zs) first items text none one other =
    other ∙ one ∙ ap (λ (front : List ℕ). (xs ++ front) ++ text) none ∙ ap (λ (front : List ℕ). front ++ text) (append-nil xs)

-- what is left is written
pub finished : (before between after : Option (List ℕ)) (fresh last : LineBuffer) (text : List ℕ) → IsEmptyBuffer fresh → BufferAppends before between fresh last text → last.refused ≡ None → Appends between after last.bytes.items → Appends before after text
unfolding BufferAppends
finished before between after fresh last text is puts none written =
    last_written before between after fresh.bytes.items last.bytes.items text is.bytes (puts.puts none) written

-- what a success leaves
pub ok_leaves : {T E P : Type 0} (r : Result T E) → IsOk r → OnOk r P → P
ok_leaves (Ok x) is leaves = leaves
ok_leaves (Err e) is leaves = absurd cc

-- ---- fields, names and steps

-- a number of one digit
pub digit_is : (n : ℕ) → n < 10 → (48 + n) ∷ [] ≡ decimal n
digit_is n below =
    decimal_by_steps (λ m digits. m < 10 → (48 + m) ∷ [] ≡ digits) (λ m few under. refl) (λ m digits above was under. absurd (omega arith)) n (omega arith) below

-- one element more
pub one_more : {X : Type 0} (xs : List X) (left : ℕ) (x : X) → left < length xs → x ≡ get_or xs left x → take (left + 1) xs ≡ take left xs ++ x ∷ []
one_more xs left x within is = take_more xs left x within ∙ ap (λ last. take left xs ++ last ∷ []) (sym is)

spaced_more : {X : Type 0} (field : X → Field) (xs : List X) (left : ℕ) (x : X) → take (left + 1) xs ≡ take left xs ++ x ∷ [] → spaced (map field (take (left + 1) xs)) ≡ spaced (map field (take left xs)) ++ spaced (field x ∷ [])
spaced_more field xs left x more =
    ap (λ all. spaced (map field all)) more
    ∙ ap spaced (map-append field (take left xs) (x ∷ []))
    ∙ flat_map-append (λ one. 32 ∷ fields_text one) (map field (take left xs)) (field x ∷ [])

-- one field more
pub field_put : (before between after : Option (List ℕ)) (old mid new : LineBuffer) (fields : List printed.Field) (left : ℕ) (other : printed.Field) → left < length fields → BufferAppends before between old mid (spaced (map said (take left fields))) → BufferAppends between after mid new (spaced (said (get_or fields left other) ∷ [])) → BufferAppends before after old new (spaced (map said (take (left + 1) fields)))
field_put before between after old mid new fields left other within so_far more =
    rw (spaced_more said fields left (get_or fields left other) (take_more fields left other within)) (puts_then before between after old mid new (spaced (map said (take left fields))) (spaced (said (get_or fields left other) ∷ [])) so_far more)

-- one name more
pub name_put : (before between after : Option (List ℕ)) (old mid new : LineBuffer) (names : List (ArrayVec ℕ)) (left : ℕ) (name : ArrayVec ℕ) → left < length names → name ≡ get_or names left name → BufferAppends before between old mid (spaced (name_fields (take left names))) → BufferAppends between after mid new (spaced (Word name.items ∷ [])) → BufferAppends before after old new (spaced (name_fields (take (left + 1) names)))
name_put before between after old mid new names left name within is one other =
    rw (spaced_more (λ (name : ArrayVec ℕ). Word name.items) names left name (one_more names left name within is)) (puts_then before between after old mid new (spaced (name_fields (take left names))) (spaced (Word name.items ∷ [])) one other)

-- one step more
pub entry_put : {K : Type 0} (spelling : KindSpelling K) (before between after : Option (List ℕ)) (old mid new : LineBuffer) (processes : List (List ℕ)) (stream : List ℕ) (entries : List (Entry K)) (left : ℕ) (entry : Entry K) → left < length entries → entry ≡ get_or entries left entry → BufferAppends before between old mid (entries_text spelling processes stream (take left entries)) → BufferAppends between after mid new (entry_text spelling processes stream entry) → BufferAppends before after old new (entries_text spelling processes stream (take (left + 1) entries))
entry_put spelling before between after old mid new processes stream entries left entry within is one other =
    let text = entry_text spelling processes stream in
    let more : entries_text spelling processes stream (take (left + 1) entries) ≡ entries_text spelling processes stream (take left entries) ++ (text entry ++ []) =
    ap (flat_map text) (one_more entries left entry within is) ∙ flat_map-append text (take left entries) (entry ∷ []) in
    rw (more, append-nil (text entry)) (puts_then before between after old mid new (entries_text spelling processes stream (take left entries)) (text entry) one other)

-- two numbers with a stroke between them
pub pair_put : (c0 c1 c2 c3 : Option (List ℕ)) (o0 o1 o2 o3 : LineBuffer) (high low : ℕ) → BufferAppends c0 c1 o0 o1 (spaced (Number high ∷ [])) → BufferAppends c1 c2 o1 o2 (47 ∷ []) → BufferAppends c2 c3 o2 o3 (decimal low) → BufferAppends c0 c3 o0 o3 (spaced (Pair high low ∷ []))
pair_put c0 c1 c2 c3 o0 o1 o2 o3 high low one stroke other =
    let front = puts_then c0 c1 c2 o0 o1 o2 (spaced (Number high ∷ [])) (47 ∷ []) one stroke in
    puts_as c0 c2 c3 o0 o2 o3 (spaced (Number high ∷ []) ++ 47 ∷ []) (decimal low) (spaced (Pair high low ∷ [])) front other (simp (append-nil, append_assoc))

-- the word of a call, NAME:END, and its fields
pub call_put : {K : Type 0} (spelling : KindSpelling K) (c0 c1 c2 c3 : Option (List ℕ)) (o0 o1 o2 o3 : LineBuffer) (word stream : List ℕ) (at_end : End) (request : Request (Shape K)) → word ≡ word_of (verb_of (asked_of request)) → BufferAppends c0 c1 o0 o1 (spaced (Word word ∷ [])) → BufferAppends c1 c2 o1 o2 (spaced (target_field stream at_end ∷ [])) → BufferAppends c2 c3 o2 o3 (spaced (fields_of spelling (asked_of request))) → BufferAppends c0 c3 o0 o3 (call_text spelling stream at_end request)
unfolding call_text
call_put spelling c0 c1 c2 c3 o0 o1 o2 o3 word stream at_end request is verb target fields =
    let target_text = spaced (target_field stream at_end ∷ []) in
    let whole : spaced (Word word ∷ []) ++ target_text ≡ spaced (Word (word_of (verb_of (asked_of request))) ∷ target_field stream at_end ∷ []) =
    ap (λ (front : List ℕ). 32 ∷ (front ++ target_text)) (append-nil word ∙ is) in
    puts_then c0 c2 c3 o0 o2 o3 _ (spaced (fields_of spelling (asked_of request))) (puts_as c0 c1 c2 o0 o1 o2 (spaced (Word word ∷ [])) target_text _ verb target whole) fields

-- names were put, and then that of a driver
pub list_put : (before between after : Option (List ℕ)) (old mid new : LineBuffer) (names : List (ArrayVec ℕ)) (driver : Driver) → BufferAppends before between old mid (spaced (name_fields names)) → BufferAppends between after mid new (spaced (Word (driver_name driver) ∷ [])) → BufferAppends before after old new (spaced (list_fields names driver))
list_put before between after old mid new names driver one other =
    puts_as before between after old mid new (spaced (name_fields names)) (spaced (Word (driver_name driver) ∷ [])) (spaced (list_fields names driver)) one other (sym (flat_map-append (λ field. 32 ∷ fields_text field) (name_fields names) (Word (driver_name driver) ∷ [])))
