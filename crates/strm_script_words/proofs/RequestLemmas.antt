-- What the fields of a call say, and which of them fails first.
use Rattle.std.proofs.Common.{◌≡◌, ℕ, ◌<◌, ◌≤◌, List, [], ◌∷◌, length, get_or, Bor, Option, Result, Ok, refl, ap, ◌∙◌, arith}
use Rattle.strm_script_text.specs.Text.{texts_of}
use Rattle.strm_script_words.specs.Fault.{◌>>=◌, Fails}
use Rattle.strm_script_words.specs.Field.{Form, Whole, Optional, Maximum, Upto, Choice, Field, Bytes, Number, Word, part_field, maximum_field, number_at, part_at, optional_at, maximum_at, keyword_at, field_at, each_at, fields_at}
use Rattle.strm_script_words.specs.Table.{Asked, Told}
use Rattle.strm_script_words.specs.declared.fault.Cause.{Cause}
use Rattle.strm_script_words.specs.declared.fault.ReadError.{ReadError}
use Rattle.strm_script_words.specs.declared.verb.Verb.{Verb}
use Rattle.strm_script_words.proofs.FaultLemmas.{fails_first, fails_second}

-- ---- one field

pub whole : (text bytes : List ℕ) → part_at text ≡ Ok bytes → field_at Whole text ≡ Ok (Bytes bytes)
whole text bytes is = ap (λ (r : Result (List ℕ) Cause). r >>= λ all. Ok (Bytes all)) is

pub optional : (text : List ℕ) (part : Option (List ℕ)) → optional_at text ≡ Ok part → field_at Optional text ≡ Ok (part_field part)
optional text part is = ap (λ (r : Result (Option (List ℕ)) Cause). r >>= λ all. Ok (part_field all)) is

pub maximum : (text : List ℕ) (most : Option ℕ) → maximum_at text ≡ Ok most → field_at Maximum text ≡ Ok (maximum_field most)
maximum text most is = ap (λ (r : Result (Option ℕ) Cause). r >>= λ all. Ok (maximum_field all)) is

pub upto : (most : ℕ) (text : List ℕ) (n : ℕ) → number_at most text ≡ Ok n → field_at (Upto most) text ≡ Ok (Number n)
upto most text n is = ap (λ (r : Result ℕ Cause). r >>= λ all. Ok (Number all)) is

pub choice : (words : List (List ℕ)) (text word : List ℕ) → keyword_at words text ≡ Ok word → field_at (Choice words) text ≡ Ok (Word word)
choice words text word is = ap (λ (r : Result (List ℕ) Cause). r >>= λ all. Ok (Word all)) is

pub whole_fails : (error : ReadError) (text : List ℕ) → Fails error (part_at text) → Fails error (field_at Whole text)
whole_fails error text fails = fails_first error (part_at text) (λ all. Ok (Bytes all)) fails

pub optional_fails : (error : ReadError) (text : List ℕ) → Fails error (optional_at text) → Fails error (field_at Optional text)
optional_fails error text fails = fails_first error (optional_at text) (λ all. Ok (part_field all)) fails

pub maximum_fails : (error : ReadError) (text : List ℕ) → Fails error (maximum_at text) → Fails error (field_at Maximum text)
maximum_fails error text fails = fails_first error (maximum_at text) (λ all. Ok (maximum_field all)) fails

pub upto_fails : (error : ReadError) (most : ℕ) (text : List ℕ) → Fails error (number_at most text) → Fails error (field_at (Upto most) text)
upto_fails error most text fails = fails_first error (number_at most text) (λ all. Ok (Number all)) fails

pub choice_fails : (error : ReadError) (words : List (List ℕ)) (text : List ℕ) → Fails error (keyword_at words text) → Fails error (field_at (Choice words) text)
choice_fails error words text fails = fails_first error (keyword_at words text) (λ all. Ok (Word all)) fails

-- ---- one after another

-- one field, and those behind it
says : (form : Form) (forms : List Form) (text : List ℕ) (texts : List (List ℕ)) (field : Field) (fields : List Field) → field_at form text ≡ Ok field → each_at forms texts ≡ Ok fields → each_at (form ∷ forms) (text ∷ texts) ≡ Ok (field ∷ fields)
says form forms text texts field fields is are =
    ap (λ (r : Result Field Cause). r >>= λ one. each_at forms texts >>= λ others. Ok (one ∷ others)) is ∙ ap (λ (r : Result (List Field) Cause). r >>= λ others. Ok (field ∷ others)) are

-- the first fails
at_first : (error : ReadError) (form : Form) (forms : List Form) (text : List ℕ) (texts : List (List ℕ)) → Fails error (field_at form text) → Fails error (each_at (form ∷ forms) (text ∷ texts))
at_first error form forms text texts fails = fails_first error (field_at form text) (λ one. each_at forms texts >>= λ others. Ok (one ∷ others)) fails

-- one behind it fails
behind : (error : ReadError) (form : Form) (forms : List Form) (text : List ℕ) (texts : List (List ℕ)) (field : Field) → field_at form text ≡ Ok field → Fails error (each_at forms texts) → Fails error (each_at (form ∷ forms) (text ∷ texts))
behind error form forms text texts field is fails = fails_second error (field_at form text) field (λ one. each_at forms texts) (λ one others. Ok (one ∷ others)) is fails

-- ---- as many texts as there are forms

abbrev nothing : Bor (List ℕ)
nothing = record { ref_ptr = (0, 0); now = [] }

-- the text of this number
abbrev pub at : List (Bor (List ℕ)) → ℕ → List ℕ
at texts n = (get_or texts n nothing).now

one_texts : (texts : List (Bor (List ℕ))) → 1 ≤ length texts → length texts < 2 → texts_of texts ≡ at texts 0 ∷ []
one_texts [] least below = absurd (omega (arith, least))
one_texts (a ∷ []) least below = refl
one_texts (a ∷ b ∷ texts) least below = absurd (omega (arith, below))

two_texts : (texts : List (Bor (List ℕ))) → 2 ≤ length texts → length texts < 3 → texts_of texts ≡ at texts 0 ∷ at texts 1 ∷ []
two_texts [] least below = absurd (omega (arith, least))
two_texts (a ∷ []) least below = absurd (omega (arith, least))
two_texts (a ∷ b ∷ []) least below = refl
two_texts (a ∷ b ∷ c ∷ texts) least below = absurd (omega (arith, below))

three_texts : (texts : List (Bor (List ℕ))) → 3 ≤ length texts → length texts < 4 → texts_of texts ≡ at texts 0 ∷ at texts 1 ∷ at texts 2 ∷ []
three_texts [] least below = absurd (omega (arith, least))
three_texts (a ∷ []) least below = absurd (omega (arith, least))
three_texts (a ∷ b ∷ []) least below = absurd (omega (arith, least))
three_texts (a ∷ b ∷ c ∷ []) least below = refl
three_texts (a ∷ b ∷ c ∷ e ∷ texts) least below = absurd (omega (arith, below))

four_texts : (texts : List (Bor (List ℕ))) → 4 ≤ length texts → length texts < 5 → texts_of texts ≡ at texts 0 ∷ at texts 1 ∷ at texts 2 ∷ at texts 3 ∷ []
four_texts [] least below = absurd (omega (arith, least))
four_texts (a ∷ []) least below = absurd (omega (arith, least))
four_texts (a ∷ b ∷ []) least below = absurd (omega (arith, least))
four_texts (a ∷ b ∷ c ∷ []) least below = absurd (omega (arith, least))
four_texts (a ∷ b ∷ c ∷ e ∷ []) least below = refl
four_texts (a ∷ b ∷ c ∷ e ∷ f ∷ texts) least below = absurd (omega (arith, below))

-- ---- a call

abbrev asked : {K : Type 0} → Verb → List Form → List (List ℕ) → Result (Asked K) Cause
asked verb forms texts = fields_at forms texts >>= λ fields. Ok (Told verb fields)

told : {K : Type 0} (verb : Verb) (forms : List Form) (texts : List (List ℕ)) (fields : List Field) → each_at forms texts ≡ Ok fields → ◌≡◌ {A = Result (Asked K) Cause} (each_at forms texts >>= λ all. Ok (Told verb all)) (Ok (Told verb fields))
told verb forms texts fields are = ap (λ (r : Result (List Field) Cause). r >>= λ all. Ok (Told verb all)) are

module _ (K : Type 0) (verb : Verb) (texts : List (Bor (List ℕ))) where
  pub of_one : (a : Form) (v : Field) → 1 ≤ length texts → length texts < 2 → field_at a (at texts 0) ≡ Ok v → asked {K = K} verb (a ∷ []) (texts_of texts) ≡ Ok (Told verb (v ∷ []))
  of_one a v least below is0 =
      rw (one_texts texts least below) (told {K = K} verb (a ∷ []) (at texts 0 ∷ []) (v ∷ []) (says a [] (at texts 0) [] v [] is0 refl))

  pub one_fails_0 : (error : ReadError) (a : Form) → 1 ≤ length texts → length texts < 2 → Fails error (field_at a (at texts 0)) → Fails error (asked {K = K} verb (a ∷ []) (texts_of texts))
  one_fails_0 error a least below fails =
      rw (one_texts texts least below) (fails_first error (each_at (a ∷ []) (at texts 0 ∷ [])) (λ all. Ok (Told verb all)) (at_first error a [] (at texts 0) [] fails))

  pub of_two : (a b : Form) (v x : Field) → 2 ≤ length texts → length texts < 3 → field_at a (at texts 0) ≡ Ok v → field_at b (at texts 1) ≡ Ok x → asked {K = K} verb (a ∷ b ∷ []) (texts_of texts) ≡ Ok (Told verb (v ∷ x ∷ []))
  of_two a b v x least below is0 is1 =
      rw (two_texts texts least below) (told {K = K} verb (a ∷ b ∷ []) (at texts 0 ∷ at texts 1 ∷ []) (v ∷ x ∷ []) (says a (b ∷ []) (at texts 0) (at texts 1 ∷ []) v (x ∷ []) is0 (says b [] (at texts 1) [] x [] is1 refl)))

  pub two_fails_0 : (error : ReadError) (a b : Form) → 2 ≤ length texts → length texts < 3 → Fails error (field_at a (at texts 0)) → Fails error (asked {K = K} verb (a ∷ b ∷ []) (texts_of texts))
  two_fails_0 error a b least below fails =
      rw (two_texts texts least below) (fails_first error (each_at (a ∷ b ∷ []) (at texts 0 ∷ at texts 1 ∷ [])) (λ all. Ok (Told verb all)) (at_first error a (b ∷ []) (at texts 0) (at texts 1 ∷ []) fails))

  pub two_fails_1 : (error : ReadError) (a b : Form) (v : Field) → 2 ≤ length texts → length texts < 3 → field_at a (at texts 0) ≡ Ok v → Fails error (field_at b (at texts 1)) → Fails error (asked {K = K} verb (a ∷ b ∷ []) (texts_of texts))
  two_fails_1 error a b v least below is0 fails =
      rw (two_texts texts least below) (fails_first error (each_at (a ∷ b ∷ []) (at texts 0 ∷ at texts 1 ∷ [])) (λ all. Ok (Told verb all)) (behind error a (b ∷ []) (at texts 0) (at texts 1 ∷ []) v is0 (at_first error b [] (at texts 1) [] fails)))

  pub of_three : (a b c : Form) (v x y : Field) → 3 ≤ length texts → length texts < 4 → field_at a (at texts 0) ≡ Ok v → field_at b (at texts 1) ≡ Ok x → field_at c (at texts 2) ≡ Ok y → asked {K = K} verb (a ∷ b ∷ c ∷ []) (texts_of texts) ≡ Ok (Told verb (v ∷ x ∷ y ∷ []))
  of_three a b c v x y least below is0 is1 is2 =
      rw (three_texts texts least below) (told {K = K} verb (a ∷ b ∷ c ∷ []) (at texts 0 ∷ at texts 1 ∷ at texts 2 ∷ []) (v ∷ x ∷ y ∷ []) (says a (b ∷ c ∷ []) (at texts 0) (at texts 1 ∷ at texts 2 ∷ []) v (x ∷ y ∷ []) is0 (says b (c ∷ []) (at texts 1) (at texts 2 ∷ []) x (y ∷ []) is1 (says c [] (at texts 2) [] y [] is2 refl))))

  pub three_fails_0 : (error : ReadError) (a b c : Form) → 3 ≤ length texts → length texts < 4 → Fails error (field_at a (at texts 0)) → Fails error (asked {K = K} verb (a ∷ b ∷ c ∷ []) (texts_of texts))
  three_fails_0 error a b c least below fails =
      rw (three_texts texts least below) (fails_first error (each_at (a ∷ b ∷ c ∷ []) (at texts 0 ∷ at texts 1 ∷ at texts 2 ∷ [])) (λ all. Ok (Told verb all)) (at_first error a (b ∷ c ∷ []) (at texts 0) (at texts 1 ∷ at texts 2 ∷ []) fails))

  pub three_fails_1 : (error : ReadError) (a b c : Form) (v : Field) → 3 ≤ length texts → length texts < 4 → field_at a (at texts 0) ≡ Ok v → Fails error (field_at b (at texts 1)) → Fails error (asked {K = K} verb (a ∷ b ∷ c ∷ []) (texts_of texts))
  three_fails_1 error a b c v least below is0 fails =
      rw (three_texts texts least below) (fails_first error (each_at (a ∷ b ∷ c ∷ []) (at texts 0 ∷ at texts 1 ∷ at texts 2 ∷ [])) (λ all. Ok (Told verb all)) (behind error a (b ∷ c ∷ []) (at texts 0) (at texts 1 ∷ at texts 2 ∷ []) v is0 (at_first error b (c ∷ []) (at texts 1) (at texts 2 ∷ []) fails)))

  pub three_fails_2 : (error : ReadError) (a b c : Form) (v x : Field) → 3 ≤ length texts → length texts < 4 → field_at a (at texts 0) ≡ Ok v → field_at b (at texts 1) ≡ Ok x → Fails error (field_at c (at texts 2)) → Fails error (asked {K = K} verb (a ∷ b ∷ c ∷ []) (texts_of texts))
  three_fails_2 error a b c v x least below is0 is1 fails =
      rw (three_texts texts least below) (fails_first error (each_at (a ∷ b ∷ c ∷ []) (at texts 0 ∷ at texts 1 ∷ at texts 2 ∷ [])) (λ all. Ok (Told verb all)) (behind error a (b ∷ c ∷ []) (at texts 0) (at texts 1 ∷ at texts 2 ∷ []) v is0 (behind error b (c ∷ []) (at texts 1) (at texts 2 ∷ []) x is1 (at_first error c [] (at texts 2) [] fails))))

  pub of_four : (a b c e : Form) (v x y z : Field) → 4 ≤ length texts → length texts < 5 → field_at a (at texts 0) ≡ Ok v → field_at b (at texts 1) ≡ Ok x → field_at c (at texts 2) ≡ Ok y → field_at e (at texts 3) ≡ Ok z → asked {K = K} verb (a ∷ b ∷ c ∷ e ∷ []) (texts_of texts) ≡ Ok (Told verb (v ∷ x ∷ y ∷ z ∷ []))
  of_four a b c e v x y z least below is0 is1 is2 is3 =
      rw (four_texts texts least below) (told {K = K} verb (a ∷ b ∷ c ∷ e ∷ []) (at texts 0 ∷ at texts 1 ∷ at texts 2 ∷ at texts 3 ∷ []) (v ∷ x ∷ y ∷ z ∷ []) (says a (b ∷ c ∷ e ∷ []) (at texts 0) (at texts 1 ∷ at texts 2 ∷ at texts 3 ∷ []) v (x ∷ y ∷ z ∷ []) is0 (says b (c ∷ e ∷ []) (at texts 1) (at texts 2 ∷ at texts 3 ∷ []) x (y ∷ z ∷ []) is1 (says c (e ∷ []) (at texts 2) (at texts 3 ∷ []) y (z ∷ []) is2 (says e [] (at texts 3) [] z [] is3 refl)))))

  pub four_fails_0 : (error : ReadError) (a b c e : Form) → 4 ≤ length texts → length texts < 5 → Fails error (field_at a (at texts 0)) → Fails error (asked {K = K} verb (a ∷ b ∷ c ∷ e ∷ []) (texts_of texts))
  four_fails_0 error a b c e least below fails =
      rw (four_texts texts least below) (fails_first error (each_at (a ∷ b ∷ c ∷ e ∷ []) (at texts 0 ∷ at texts 1 ∷ at texts 2 ∷ at texts 3 ∷ [])) (λ all. Ok (Told verb all)) (at_first error a (b ∷ c ∷ e ∷ []) (at texts 0) (at texts 1 ∷ at texts 2 ∷ at texts 3 ∷ []) fails))

  pub four_fails_1 : (error : ReadError) (a b c e : Form) (v : Field) → 4 ≤ length texts → length texts < 5 → field_at a (at texts 0) ≡ Ok v → Fails error (field_at b (at texts 1)) → Fails error (asked {K = K} verb (a ∷ b ∷ c ∷ e ∷ []) (texts_of texts))
  four_fails_1 error a b c e v least below is0 fails =
      rw (four_texts texts least below) (fails_first error (each_at (a ∷ b ∷ c ∷ e ∷ []) (at texts 0 ∷ at texts 1 ∷ at texts 2 ∷ at texts 3 ∷ [])) (λ all. Ok (Told verb all)) (behind error a (b ∷ c ∷ e ∷ []) (at texts 0) (at texts 1 ∷ at texts 2 ∷ at texts 3 ∷ []) v is0 (at_first error b (c ∷ e ∷ []) (at texts 1) (at texts 2 ∷ at texts 3 ∷ []) fails)))

  pub four_fails_2 : (error : ReadError) (a b c e : Form) (v x : Field) → 4 ≤ length texts → length texts < 5 → field_at a (at texts 0) ≡ Ok v → field_at b (at texts 1) ≡ Ok x → Fails error (field_at c (at texts 2)) → Fails error (asked {K = K} verb (a ∷ b ∷ c ∷ e ∷ []) (texts_of texts))
  four_fails_2 error a b c e v x least below is0 is1 fails =
      rw (four_texts texts least below) (fails_first error (each_at (a ∷ b ∷ c ∷ e ∷ []) (at texts 0 ∷ at texts 1 ∷ at texts 2 ∷ at texts 3 ∷ [])) (λ all. Ok (Told verb all)) (behind error a (b ∷ c ∷ e ∷ []) (at texts 0) (at texts 1 ∷ at texts 2 ∷ at texts 3 ∷ []) v is0 (behind error b (c ∷ e ∷ []) (at texts 1) (at texts 2 ∷ at texts 3 ∷ []) x is1 (at_first error c (e ∷ []) (at texts 2) (at texts 3 ∷ []) fails))))

  pub four_fails_3 : (error : ReadError) (a b c e : Form) (v x y : Field) → 4 ≤ length texts → length texts < 5 → field_at a (at texts 0) ≡ Ok v → field_at b (at texts 1) ≡ Ok x → field_at c (at texts 2) ≡ Ok y → Fails error (field_at e (at texts 3)) → Fails error (asked {K = K} verb (a ∷ b ∷ c ∷ e ∷ []) (texts_of texts))
  four_fails_3 error a b c e v x y least below is0 is1 is2 fails =
      rw (four_texts texts least below) (fails_first error (each_at (a ∷ b ∷ c ∷ e ∷ []) (at texts 0 ∷ at texts 1 ∷ at texts 2 ∷ at texts 3 ∷ [])) (λ all. Ok (Told verb all)) (behind error a (b ∷ c ∷ e ∷ []) (at texts 0) (at texts 1 ∷ at texts 2 ∷ at texts 3 ∷ []) v is0 (behind error b (c ∷ e ∷ []) (at texts 1) (at texts 2 ∷ at texts 3 ∷ []) x is1 (behind error c (e ∷ []) (at texts 2) (at texts 3 ∷ []) y is2 (at_first error e [] (at texts 3) [] fails)))))
