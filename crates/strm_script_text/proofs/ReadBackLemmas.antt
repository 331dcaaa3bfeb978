-- What is spelt is read as it was.
use Rattle.std.proofs.Common.{◌≡◌, ℕ, suc, ◌+◌, ◌*◌, ◌-◌, ◌<◌, ◌/◌, ◌%◌, ◌++◌, Bool, true, false, cond, ltb, ◌≤◌, List, [], ◌∷◌, All, Option, Some, None, refl, ap, ◌∙◌, arith}
use Rattle.std.specs.Option.{option_map}
use Rattle.std.proofs.lemmas.Bool.{ltb-true, ltb-false}
use Rattle.std.proofs.lemmas.Bool.Decides.{nat_tests}
use Rattle.strm_script_text.specs.Bytes.{is_digit, is_itself, is_within, hex_of}
use Rattle.strm_script_text.specs.Text.{◌>>=◌, byte_of, bytes_of}
use Rattle.strm_script_text.specs.Spelling.{hex_digit, spelling_of, spelling, PartsAreReadBack}
use Rattle.strm_script_text.proofs.SpellingLemmas.{front_first, goes_on, itself_first}

-- a digit below ten
small_back : (n : ℕ) → n < 10 → hex_of (n + 48) ≡ Some n
small_back n below =
    let digit : is_digit (n + 48) ≡ true = grind (arith, nat_tests) in
    let counts : n + 48 - 48 ≡ n = omega arith in
    ap (λ (b : Bool). cond b (Some (n + 48 - 48)) (cond (is_within 97 102 (n + 48)) (Some (n + 48 - 87)) (cond (is_within 65 70 (n + 48)) (Some (n + 48 - 55)) None))) digit ∙ ap Some counts

-- and one of ten to fifteen
great_back : (n : ℕ) → 10 ≤ n → n < 16 → hex_of (n + 87) ≡ Some n
great_back n above below =
    let letter : is_digit (n + 87) ≡ false = grind (arith, nat_tests) in
    let lower : is_within 97 102 (n + 87) ≡ true = grind (arith, nat_tests) in
    let counts : n + 87 - 87 ≡ n = omega arith in
    ap (λ (b : Bool). cond b (Some (n + 87 - 48)) (cond (is_within 97 102 (n + 87)) (Some (n + 87 - 87)) (cond (is_within 65 70 (n + 87)) (Some (n + 87 - 55)) None))) letter
    ∙ ap (λ (b : Bool). cond b (Some (n + 87 - 87)) (cond (is_within 65 70 (n + 87)) (Some (n + 87 - 55)) None)) lower
    ∙ ap Some counts

digit_back_by : (n : ℕ) (b : Bool) → ltb n 10 ≡ b → n < 16 → hex_of (cond b (n + 48) (n + 87)) ≡ Some n
digit_back_by n true is below = small_back n (ltb-true _ _ is)
digit_back_by n false is below = great_back n (ltb-false _ _ is) below

-- a digit counts what it was made of
digit_back : (n : ℕ) → n < 16 → hex_of (hex_digit n) ≡ Some n
digit_back n below = digit_back_by n (ltb n 10) refl below

-- so do two
byte_back : (byte : ℕ) → byte < 256 → byte_of (hex_digit (byte / 16)) (hex_digit (byte % 16)) ≡ Some byte
byte_back byte below =
    let whole : byte / 16 * 16 + byte % 16 ≡ byte = omega arith in
    ap (λ (o : Option ℕ). o >>= λ h. hex_of (hex_digit (byte % 16)) >>= λ l. Some (h * 16 + l)) (digit_back (byte / 16) (omega arith))
    ∙ ap (λ (o : Option ℕ). o >>= λ l. Some (byte / 16 * 16 + l)) (digit_back (byte % 16) (omega arith))
    ∙ ap Some whole

one_back_by : (byte : ℕ) (rest bytes : List ℕ) (b : Bool) → is_itself byte ≡ b → byte < 256 → bytes_of rest ≡ Some bytes → bytes_of (cond b (byte ∷ []) (37 ∷ hex_digit (byte / 16) ∷ hex_digit (byte % 16) ∷ []) ++ rest) ≡ Some (byte ∷ bytes)
one_back_by byte rest bytes true itself below is =
    front_first (byte ∷ rest) (omega arith) ∙ ap (λ (found : Option (ℕ × List ℕ)). found >>= goes_on) (itself_first byte rest itself) ∙ ap (option_map (λ all. byte ∷ all)) is
one_back_by byte rest bytes false itself below is =
    ap (λ (o : Option ℕ). o >>= λ spelt. option_map (λ all. spelt ∷ all) (bytes_of rest)) (byte_back byte below) ∙ ap (option_map (λ all. byte ∷ all)) is

-- one byte more
one_back : (byte : ℕ) (rest bytes : List ℕ) → byte < 256 → bytes_of rest ≡ Some bytes → bytes_of (spelling_of byte ++ rest) ≡ Some (byte ∷ bytes)
one_back byte rest bytes below is = one_back_by byte rest bytes (is_itself byte) refl below is

all_back : (bytes : List ℕ) → All (λ byte. byte < 256) bytes → bytes_of (spelling bytes) ≡ Some bytes
all_back [] below = refl
all_back (byte ∷ bytes) below = one_back byte (spelling bytes) bytes (below 0 byte (omega arith)) (all_back bytes (λ k d under. below (suc k) d (omega arith)))

pub read_back : PartsAreReadBack
read_back bytes below = all_back bytes below
