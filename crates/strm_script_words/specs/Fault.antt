-- The result of reading a text: a value, or the first fault.
use Rattle.std.specs.Prelude.{◌≡◌, ℕ, List, codes, Option, Some, None, Result, Ok, Err}
use Rattle.strm_script_words.specs.declared.fault.Cause.{Cause}
use Rattle.strm_script_words.specs.declared.fault.Cause.TheVariants.{TooLong, Byte, UnknownWord, Fields, Number, Part, NoSuch, Name, Marks, TooMany, OutOfPlace, NoMemory}
use Rattle.strm_script_words.specs.declared.fault.ReadError.{ReadError}
use Rattle.strm_script_words.specs.declared.fault.ReadError.TheVariants as errors

infixl 10 ◌>>=◌
abbrev pub ◌>>=◌ : {A B : Type 0} → Result A Cause → (A → Result B Cause) → Result B Cause
(Ok x) >>= next = next x
(Err cause) >>= next = Err cause

-- the value, or this fault if there is none
abbrev pub or_fault : {A : Type 0} → Cause → Option A → Result A Cause
or_fault cause (Some x) = Ok x
or_fault cause None = Err cause

-- the error in the place of a value: out of memory, which says nothing of the text, or the fault of the text
abbrev pub Fails : {Y : Type 0} → ReadError → Result Y Cause → Type 0
Fails errors.Memory read = Unit {0}
Fails (errors.Fault cause) read = read ≡ Err cause

-- the result, as it is seen, is that of the text, unless memory ran out
abbrev pub Gives : {X Y : Type 0} → (X → Y) → Result X ReadError → Result Y Cause → Type 0
Gives view (Ok x) read = read ≡ Ok (view x)
Gives view (Err error) read = Fails error read

-- the same for results that take no memory, and so never run out of it
abbrev pub Tells : {X Y : Type 0} → (X → Y) → Result X Cause → Result Y Cause → Type 0
Tells view (Ok x) read = read ≡ Ok (view x)
Tells view (Err cause) read = read ≡ Err cause

-- the number of a cause
abbrev pub cause_number : Cause → ℕ
cause_number TooLong = 1
cause_number Byte = 2
cause_number UnknownWord = 3
cause_number Fields = 4
cause_number Number = 5
cause_number Part = 6
cause_number NoSuch = 7
cause_number Name = 8
cause_number Marks = 9
cause_number TooMany = 10
cause_number OutOfPlace = 11
cause_number NoMemory = 12

-- the text of a cause
abbrev pub cause_text : Cause → List ℕ
cause_text TooLong = codes "too long"
cause_text Byte = codes "byte"
cause_text UnknownWord = codes "unknown word"
cause_text Fields = codes "fields"
cause_text Number = codes "number"
cause_text Part = codes "part"
cause_text NoSuch = codes "no such stream or end"
cause_text Name = codes "name"
cause_text Marks = codes "marks"
cause_text TooMany = codes "too many"
cause_text OutOfPlace = codes "out of place"
cause_text NoMemory = codes "no memory"
