-- What a word names, and that it is one of the words.
use Rattle.std.proofs.Common.{◌≡◌, ◌↔◌, ℕ, ◌+◌, ◌<◌, ◌||◌, ◌==◌, Bool, true, false, cond, List, [], ◌∷◌, length, map, drop, filter, get_or, Option, Some, None, Ok, Err, refl, sym, ap, ◌∙◌}
use Rattle.std.specs.Str.{bytes_eq}
use Rattle.std.specs.List.{find, list_any}
use Rattle.std.proofs.lemmas.List.{at_drop_more}
use Rattle.std.proofs.lemmas.Bool.{eqb-false}
use Rattle.std.proofs.lemmas.Slice.Eq.{bytes_eq-Decides}
use Rattle.strm_script_words.specs.Field.{keyword_at}
use Rattle.strm_script_words.specs.Words.{named}
use Rattle.strm_script_words.specs.declared.fault.Cause.TheVariants as causes

same_by : (b c : Bool) → (b ≡ true → c ≡ true) → (c ≡ true → b ≡ true) → b ≡ c
same_by true true one other = refl
same_by false false one other = refl
same_by true false one other = absurd (let no = one refl in cc)
same_by false true one other = absurd (let no = other refl in cc)

-- two words were compared
pub compared : (same : Bool) (a b : List ℕ) → (same ≡ true ↔ a ≡ b) → same ≡ bytes_eq a b
compared same a b told = same_by same (bytes_eq a b) (λ is. (bytes_eq-Decides a b).1 (told.0 is)) (λ is. told.1 ((bytes_eq-Decides a b).0 is))

-- words are compared from either side
turned : (a b : List ℕ) → bytes_eq a b ≡ bytes_eq b a
turned a b = same_by (bytes_eq a b) (bytes_eq b a) (λ is. (bytes_eq-Decides b a).1 (sym ((bytes_eq-Decides a b).0 is))) (λ is. (bytes_eq-Decides a b).1 (sym ((bytes_eq-Decides b a).0 is)))

module _ {A : Type 0} (word : A → List ℕ) (text : List ℕ) where
  abbrev has_word : A → Bool
  has_word one = bytes_eq (word one) text

  -- where the word is another one, what is named is found behind it
  pub goes_on : (all : List A) (i : ℕ) (d : A) (seen : List ℕ) (same : Bool) → i < length all → seen ≡ word (get_or all i d) → same ≡ bytes_eq seen text → same ≡ false → find has_word (drop i all) ≡ named word all text → find has_word (drop (i + 1) all) ≡ named word all text
  goes_on all i d seen same inside is compared other so_far =
      let no : has_word (get_or all i d) ≡ false = ap (λ (w : List ℕ). bytes_eq w text) (sym is) ∙ sym compared ∙ other in
      ap (λ (b : Bool). cond b (Some (get_or all i d)) (find has_word (drop (i + 1) all))) (sym no) ∙ sym (at_drop_more (find has_word) all i d inside) ∙ so_far

  -- where it is this one, this one is named
  pub stops : (all : List A) (i : ℕ) (d : A) (seen : List ℕ) (same : Bool) → i < length all → seen ≡ word (get_or all i d) → same ≡ bytes_eq seen text → same ≡ true → find has_word (drop i all) ≡ named word all text → Some (get_or all i d) ≡ named word all text
  stops all i d seen same inside is compared this so_far =
      let yes : has_word (get_or all i d) ≡ true = ap (λ (w : List ℕ). bytes_eq w text) (sym is) ∙ sym compared ∙ this in
      ap (λ (b : Bool). cond b (Some (get_or all i d)) (find has_word (drop (i + 1) all))) (sym yes) ∙ sym (at_drop_more (find has_word) all i d inside) ∙ so_far

  -- a word of another length is another word
  differs : (one : A) (b : Bool) → has_word one ≡ b → (length (word one) == length text) ≡ false → b ≡ false
  differs one false is other = refl
  differs one true is other =
      let same : word one ≡ text = (bytes_eq-Decides (word one) text).0 is in
      absurd (eqb-false (length (word one)) (length text) other (ap length same))

  kept_by : (b : Bool) (one : A) (some all : List A) → (length (word one) == length text) ≡ b → find has_word some ≡ find has_word all → find has_word (cond b (one ∷ some) some) ≡ find has_word (one ∷ all)
  kept_by true one some all is rest = ap (λ (r : Option A). cond (has_word one) (Some one) r) rest
  kept_by false one some all is rest = rest ∙ ap (λ (b : Bool). cond b (Some one) (find has_word all)) (sym (differs one (has_word one) refl is))

  -- it is enough to look among those whose words have the length of the text
  pub named_by_length : (all : List A) → named word (filter (λ one. length (word one) == length text) all) text ≡ named word all text
  named_by_length [] = refl
  named_by_length (one ∷ all) = kept_by (length (word one) == length text) one (filter (λ one. length (word one) == length text) all) all refl (named_by_length all)

  -- it is one of the words
  record IsChosen (all : List A) (one : A) : Type 0 where
    pub any : list_any (bytes_eq text) (map word all) ≡ true
    pub same : word one ≡ text

  chosen_by : (b : Bool) (x one : A) (all : List A) → has_word x ≡ b → cond b (Some x) (named word all text) ≡ Some one → (named word all text ≡ Some one → IsChosen all one) → IsChosen (x ∷ all) one
  chosen_by true x one all here is rest =
      let same : x ≡ one = cc in
      record { any = ap (λ (b : Bool). b || list_any (bytes_eq text) (map word all)) (turned text (word x) ∙ here); same = ap word (sym same) ∙ (bytes_eq-Decides (word x) text).0 here }
  chosen_by false x one all here is rest =
      let behind = rest is in
      record { any = ap (λ (b : Bool). b || list_any (bytes_eq text) (map word all)) (turned text (word x) ∙ here) ∙ behind.any; same = behind.same }

  chosen : (all : List A) (one : A) → named word all text ≡ Some one → IsChosen all one
  chosen [] one is = absurd cc
  chosen (x ∷ all) one is = chosen_by (has_word x) x one all refl is (chosen all one)

  none_by : (b : Bool) (x : A) (rest : Option A) → cond b (Some x) rest ≡ None → (b ≡ false) × (rest ≡ None)
  none_by true x rest is = absurd cc
  none_by false x rest is = (refl, is)

  -- or none of them is the text
  no_word : (all : List A) → named word all text ≡ None → list_any (bytes_eq text) (map word all) ≡ false
  no_word [] is = refl
  no_word (x ∷ all) is =
      let both = none_by (has_word x) x (named word all text) is in
      ap (λ (b : Bool). b || list_any (bytes_eq text) (map word all)) (turned text (word x) ∙ both.0) ∙ no_word all both.1

  -- so what a text names has the word that a field says
  pub one_chosen : (all : List A) (one : A) → named word all text ≡ Some one → keyword_at (map word all) text ≡ Ok (word one)
  one_chosen all one is =
      let found = chosen all one is in
      ap (λ (b : Bool). cond b (Ok text) (Err causes.UnknownWord)) found.any ∙ ap Ok (sym found.same)

  pub none_chosen : (all : List A) → named word all text ≡ None → keyword_at (map word all) text ≡ Err causes.UnknownWord
  none_chosen all is = ap (λ (b : Bool). cond b (Ok text) (Err causes.UnknownWord)) (no_word all is)
