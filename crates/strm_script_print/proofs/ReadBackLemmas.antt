-- What is printed of a field is read back.
use Rattle.std.proofs.Common.{◌≡◌, ℕ, ◌+◌, ◌*◌, ◌-◌, ◌<◌, ◌≤◌, ◌^◌, ◌/◌, ◌%◌, ◌==◌, ◌&&◌, ◌++◌, Bool, true, false, cond, List, [], ◌∷◌, length, Option, Some, None, Result, Ok, Err, refl, ap, ◌∙◌, arith}
use Rattle.std.specs.Prelude.{nat_le, codes, option_and_then}
use Rattle.std.specs.Str.{bytes_eq}
use Rattle.std.specs.Fmt.{decimal}
use Rattle.std.proofs.lemmas.Bool.{le-leb, and_from}
use Rattle.std.proofs.lemmas.Bool.Decides.{nat_tests}
use Rattle.std.proofs.lemmas.Fmt.{decimal_by_steps, decimal_nonempty, length-decimal-le}
use Rattle.strm_script_text.specs.Bytes.{is_digit}
use Rattle.strm_script_text.specs.Text.{limited, number_from, number_of}
use Rattle.strm_script_text.specs.Spelling.{part_text}
use Rattle.strm_script_text.proofs.ReadBackLemmas.{read_back}
use Rattle.strm_script_words.specs.Fault.{◌>>=◌, or_fault}
use Rattle.strm_script_words.specs.Field.{Bytes, Number, Word, part_field, maximum_field, number_at, part_at}
use Rattle.strm_script_words.specs.declared.fault.Cause.{Cause}
use Rattle.strm_script_words.specs.declared.fault.Cause.TheVariants as causes
use Rattle.strm_script_words.specs.declared.field.TheConstants.{MOST_ASKED}
use Rattle.strm_script_print.specs.ReadBack.{AreBytes, A_part, A_part_if_any, No_part, A_maximum, No_maximum, A_number, A_word, FieldsAreReadBack}

-- a digit that stands behind others
under : (b : Bool) (one other : Option ℕ) (next : ℕ → Option ℕ) → one ≡ option_and_then next other → cond b one None ≡ option_and_then next (cond b other None)
under true one other next is = is
under false one other next is = refl

digit_behind : (value digit : ℕ) (digits : List ℕ) → number_from value (digits ++ digit ∷ []) ≡ option_and_then (λ front. number_from front (digit ∷ [])) (number_from value digits)
digit_behind value digit [] = refl
digit_behind value digit (first ∷ digits) =
    under (is_digit first) (number_from (value * 10 + (first - 48)) (digits ++ digit ∷ [])) (number_from (value * 10 + (first - 48)) digits) (λ front. number_from front (digit ∷ [])) (digit_behind (value * 10 + (first - 48)) digit digits)

is_digit_of : (n : ℕ) → n < 10 → is_digit (48 + n) ≡ true
is_digit_of n below = grind (arith, nat_tests)

-- what one digit adds
digit_adds : (value n : ℕ) → n < 10 → number_from value ((48 + n) ∷ []) ≡ Some (value * 10 + n)
digit_adds value n below =
    let counts : 48 + n - 48 ≡ n = omega arith in
    ap (λ (b : Bool). cond b (Some (value * 10 + (48 + n - 48))) None) (is_digit_of n below) ∙ ap (λ (m : ℕ). Some (value * 10 + m)) counts

abbrev IsBack : ℕ → List ℕ → Type 0
IsBack n digits = number_from 0 digits ≡ Some n

one_digit : (n : ℕ) → n < 10 → IsBack n ((48 + n) ∷ [])
one_digit n below = let none : 0 + n ≡ n = omega arith in digit_adds 0 n below ∙ ap Some none

more_digits : (n : ℕ) (digits : List ℕ) → 10 ≤ n → IsBack (n / 10) digits → IsBack n (digits ++ (48 + n % 10) ∷ [])
more_digits n digits above is =
    let whole : n / 10 * 10 + n % 10 ≡ n = omega arith in
    digit_behind 0 (48 + n % 10) digits
    ∙ ap (option_and_then (λ front. number_from front ((48 + n % 10) ∷ []))) is
    ∙ digit_adds (n / 10) (n % 10) (omega arith)
    ∙ ap Some whole

digits_back : (n : ℕ) → n < 2 ^ 64 → number_from 0 (decimal n) ≡ Some n
digits_back n below = decimal_by_steps IsBack one_digit more_digits n below

-- a number that is printed is read
number_back : (most n : ℕ) → n ≤ most → n < 2 ^ 64 → number_of most (decimal n) ≡ Some n
number_back most n within below =
    let some : nat_le 1 (length (decimal n)) ≡ true = le-leb _ _ (decimal_nonempty n below) in
    let few : nat_le (length (decimal n)) 20 ≡ true = le-leb _ _ (length-decimal-le 20 n (omega arith) (omega (arith, below)) below) in
    ap (λ (b : Bool). cond b (option_and_then (limited most) (number_from 0 (decimal n))) None) (and_from _ _ some few)
    ∙ ap (option_and_then (limited most)) (digits_back n below)
    ∙ ap (λ (b : Bool). cond b (Some n) None) (le-leb _ _ within)

number_read : (most n : ℕ) → n ≤ most → n < 2 ^ 64 → number_at most (decimal n) ≡ Ok n
number_read most n within below = ap (or_fault causes.Number) (number_back most n within below)

part_read : (bytes : List ℕ) → AreBytes bytes → part_at (part_text bytes) ≡ Ok bytes
part_read bytes are = ap (or_fault causes.Part) (read_back bytes are)

-- what stands first is a digit, if anything
abbrev begins : List ℕ → Bool
begins [] = true
begins (first ∷ digits) = is_digit first

begins_behind : (digits : List ℕ) (n : ℕ) → n < 10 → begins digits ≡ true → begins (digits ++ (48 + n) ∷ []) ≡ true
begins_behind [] n below is = is_digit_of n below
begins_behind (first ∷ digits) n below is = is

number_begins : (n : ℕ) → n < 2 ^ 64 → begins (decimal n) ≡ true
number_begins n below =
    decimal_by_steps (λ m digits. begins digits ≡ true) is_digit_of (λ m digits above is. begins_behind digits (m % 10) (omega arith) is) n below

no_sign : (byte : ℕ) → is_digit byte ≡ true → (byte == 45) ≡ false
no_sign byte is = grind (arith, nat_tests)

-- such a text is not `-1`
not_missing : (digits : List ℕ) → begins digits ≡ true → bytes_eq digits (codes "-1") ≡ false
not_missing [] is = refl
not_missing (first ∷ digits) is = ap (λ (b : Bool). b && bytes_eq digits (codes "1")) (no_sign first is)

pub fields_back : FieldsAreReadBack
fields_back form field (A_part bytes are) = ap (λ (read : Result (List ℕ) Cause). read >>= λ all. Ok (Bytes all)) (part_read bytes are)
fields_back form field (A_part_if_any bytes are) =
    ap (λ (read : Result (List ℕ) Cause). (read >>= λ all. Ok (Some all)) >>= λ part. Ok (part_field part)) (part_read bytes are)
fields_back form field No_part = refl
fields_back form field (A_maximum n within) =
    let below : n < 2 ^ 64 = omega (arith, within) in
    ap (λ (b : Bool). cond b (Ok None) (number_at MOST_ASKED (decimal n) >>= λ m. Ok (Some m)) >>= λ most. Ok (maximum_field most)) (not_missing (decimal n) (number_begins n below))
    ∙ ap (λ (read : Result ℕ Cause). (read >>= λ m. Ok (Some m)) >>= λ most. Ok (maximum_field most)) (number_read MOST_ASKED n within below)
fields_back form field No_maximum = refl
fields_back form field (A_number most n within below) = ap (λ (read : Result ℕ Cause). read >>= λ m. Ok (Number m)) (number_read most n within below)
fields_back form field (A_word words word is) =
    ap (λ (b : Bool). cond b (Ok word) (Err causes.UnknownWord) >>= λ chosen. Ok (Word chosen)) is
