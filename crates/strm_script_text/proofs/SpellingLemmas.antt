-- Bytes that are spelt one after another.
use Rattle.std.proofs.Common.{◌≡◌, ℕ, ◌<◌, ◌==◌, Bool, true, false, cond, List, [], ◌∷◌, ◌++◌, length, Option, Some, None, refl, sym, ap, ◌∙◌, arith, append_assoc}
use Rattle.std.specs.Option.{option_map}
use Rattle.strm_script_text.specs.Bytes.{is_itself}
use Rattle.strm_script_text.specs.Text.{◌>>=◌, next_byte, byte_of, bytes_of}

-- a byte, and then what the rest spells
abbrev pub goes_on : ℕ × List ℕ → Option (List ℕ)
goes_on found = option_map (λ bytes. found.0 ∷ bytes) (bytes_of found.1)

-- a byte and what follows it
abbrev pub front : ℕ → List ℕ → ℕ × List ℕ
front byte rest = (byte, rest)

one_left : (b : Bool) (byte : ℕ) (all : Option (List ℕ)) → all ≡ goes_on (front byte []) → cond b all None ≡ (cond b (Some (front byte [])) None >>= goes_on)
one_left true byte all is = is
one_left false byte all is = refl

two_left : (b : Bool) (byte next : ℕ) → cond b (goes_on (front byte (next ∷ []))) None ≡ (cond b (Some (front byte (next ∷ []))) None >>= goes_on)
two_left true byte next = refl
two_left false byte next = refl

spelt_by_two : (found : Option ℕ) (rest : List ℕ) → (found >>= λ byte. option_map (λ bytes. byte ∷ bytes) (bytes_of rest)) ≡ ((found >>= λ byte. Some (front byte rest)) >>= goes_on)
spelt_by_two None rest = refl
spelt_by_two (Some byte) rest = refl

more_left : (b escaped : Bool) (byte : ℕ) (rest after : List ℕ) (found : Option ℕ) → cond b (goes_on (front byte rest)) (cond escaped (found >>= λ spelt. option_map (λ bytes. spelt ∷ bytes) (bytes_of after)) None) ≡ (cond b (Some (front byte rest)) (cond escaped (found >>= λ spelt. Some (front spelt after)) None) >>= goes_on)
more_left true escaped byte rest after found = refl
more_left false true byte rest after found = spelt_by_two found after
more_left false false byte rest after found = refl

-- what is spelt is the byte at the front, and then what the rest spells
pub front_first : (text : List ℕ) → 0 < length text → bytes_of text ≡ (next_byte text >>= goes_on)
front_first [] some = absurd (omega (arith, some))
front_first (a ∷ []) some = one_left (is_itself a) a (Some (a ∷ [])) refl
front_first (a ∷ b ∷ []) some = two_left (is_itself a) a b
front_first (a ∷ b ∷ c ∷ rest) some = more_left (is_itself a) (a == 37) a (b ∷ c ∷ rest) rest (byte_of b c)

-- a byte that stands for itself is the one at the front
pub itself_first : (byte : ℕ) (rest : List ℕ) → is_itself byte ≡ true → next_byte (byte ∷ rest) ≡ Some (front byte rest)
itself_first byte [] is = ap (λ (b : Bool). cond b (Some (front byte [])) None) is
itself_first byte (b ∷ []) is = ap (λ (t : Bool). cond t (Some (front byte (b ∷ []))) None) is
itself_first byte (b ∷ c ∷ rest) is = ap (λ (t : Bool). cond t (Some (front byte (b ∷ c ∷ rest))) (cond (byte == 37) (byte_of b c >>= λ spelt. Some (front spelt rest)) None)) is

behind : (all : List ℕ) (byte : ℕ) (more : Option (List ℕ)) → option_map (λ bytes. all ++ bytes) (option_map (λ bytes. byte ∷ bytes) more) ≡ option_map (λ bytes. (all ++ byte ∷ []) ++ bytes) more
behind all byte None = refl
behind all byte (Some bytes) = ap Some (sym (append_assoc all (byte ∷ []) bytes))

-- one byte more
pub spelt_more : (all longer text after : List ℕ) (byte : ℕ) (whole : Option (List ℕ)) → 0 < length text → Some (front byte after) ≡ next_byte text → longer ≡ all ++ byte ∷ [] → option_map (λ bytes. all ++ bytes) (bytes_of text) ≡ whole → option_map (λ bytes. longer ++ bytes) (bytes_of after) ≡ whole
spelt_more all longer text after byte whole some found is before =
    ap (λ (l : List ℕ). option_map (λ bytes. l ++ bytes) (bytes_of after)) is
    ∙ sym (behind all byte (bytes_of after))
    ∙ ap (λ (next : Option (ℕ × List ℕ)). option_map (λ bytes. all ++ bytes) (next >>= goes_on)) found
    ∙ ap (option_map (λ bytes. all ++ bytes)) (sym (front_first text some))
    ∙ before

-- no byte stands at the front, so nothing is spelt
pub spelt_none : (all text : List ℕ) (whole : Option (List ℕ)) → 0 < length text → None ≡ next_byte text → option_map (λ bytes. all ++ bytes) (bytes_of text) ≡ whole → None ≡ whole
spelt_none all text whole some none before =
    ap (λ (next : Option (ℕ × List ℕ)). option_map (λ bytes. all ++ bytes) (next >>= goes_on)) none
    ∙ ap (option_map (λ bytes. all ++ bytes)) (sym (front_first text some))
    ∙ before
