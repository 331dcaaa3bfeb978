-- The fields of a call and those of its expected replies, cut at the first `:`; and the choices, field by
-- field.
use denote.Ref.{Bor}
use Rattle.std.proofs.Common.{◌≡◌, ℕ, ◌+◌, ◌-◌, ◌≤◌, nat_lt, not, ◌&&◌, Bool, true, false, cond, Option, Some, None, List, [], ◌∷◌, ◌++◌, length, position, take, drop, length-drop, refl, sym, ap, ◌∙◌, arith}
use Rattle.std.specs.List.{position_or_len}
use Rattle.std.specs.Option.{option_map}
use Rattle.std.proofs.lemmas.Bool.{ltb-false}
use Rattle.std.proofs.lemmas.List.{drop-map, length-map, take-map, take_all}
use Rattle.strm_script_text.specs.Text.{texts_of}
use Rattle.strm_script_parse.specs.Expected.{call_fields, choices_from, each_has, is_bar, is_colon, reply_fields}

abbrev pub at_colon : Bor (List ℕ) → Bool
at_colon slice = is_colon slice.now

first_colon : (slices : List (Bor (List ℕ))) → position_or_len at_colon slices ≡ position_or_len is_colon (texts_of slices)
first_colon [] = refl
first_colon (slice ∷ slices) = ap (λ (n : ℕ). cond (not (is_colon slice.now)) (1 + n) 0) (first_colon slices)

as_many : (slices : List (Bor (List ℕ))) → length slices ≡ length (texts_of slices)
as_many slices = sym (length-map slices (λ slice. slice.now))

-- where the first `:` is
place_of : (slices : List (Bor (List ℕ))) → position at_colon slices ≡ position is_colon (texts_of slices)
place_of slices = λ i. cond (nat_lt (first_colon slices i) (as_many slices i)) (Some (first_colon slices i)) None

found_there : (b : Bool) (n at : ℕ) → Some at ≡ cond b (Some n) None → n ≡ at
found_there true n at is = cc
found_there false n at is = absurd cc

none_there : (b : Bool) (n : ℕ) → None ≡ cond b (Some n) None → b ≡ false
none_there true n is = absurd cc
none_there false n is = refl

module _ (slices : List (Bor (List ℕ))) where
  abbrev behind : List (Bor (List ℕ))
  behind = drop 1 slices

  same_behind : texts_of behind ≡ drop 1 (texts_of slices)
  same_behind = sym (drop-map (λ (slice : Bor (List ℕ)). slice.now) 1 slices)

  -- a `:` was found at this place behind the first field
  pub fields_before : (at : ℕ) → Some at ≡ position at_colon behind → texts_of (take (at + 1) slices) ≡ call_fields (texts_of slices)
  fields_before at is =
      let here : position_or_len is_colon (texts_of behind) ≡ at = found_there _ _ at (is ∙ place_of behind) in
      sym (take-map (λ (slice : Bor (List ℕ)). slice.now) (at + 1) slices)
      ∙ ap (λ (n : ℕ). take (n + 1) (texts_of slices)) (sym here)
      ∙ ap (λ (texts : List (List ℕ)). take (position_or_len is_colon texts + 1) (texts_of slices)) same_behind

  pub fields_behind : (at : ℕ) → Some at ≡ position at_colon behind → Some (texts_of (drop (at + 1) behind)) ≡ reply_fields (texts_of slices)
  fields_behind at is =
      ap (λ (texts : List (List ℕ)). Some texts) (sym (drop-map (λ (slice : Bor (List ℕ)). slice.now) (at + 1) behind))
      ∙ ap (λ (found : Option ℕ). option_map (λ at. drop (at + 1) (texts_of behind)) found) (is ∙ place_of behind)
      ∙ ap (λ (texts : List (List ℕ)). option_map (λ at. drop (at + 1) texts) (position is_colon texts)) same_behind

  -- there is none
  pub all_fields : None ≡ position at_colon behind → texts_of slices ≡ call_fields (texts_of slices)
  all_fields is =
      let none = none_there _ _ (is ∙ place_of behind) in
      let far : length (texts_of behind) ≤ position_or_len is_colon (texts_of behind) = ltb-false _ _ none in
      let long : length (texts_of behind) ≡ length (texts_of slices) - 1 = ap (λ (texts : List (List ℕ)). length texts) same_behind ∙ length-drop 1 (texts_of slices) in
      sym (take_all (position_or_len is_colon (texts_of behind) + 1) (texts_of slices) (omega (arith, far, long)))
      ∙ ap (λ (texts : List (List ℕ)). take (position_or_len is_colon texts + 1) (texts_of slices)) same_behind

  pub no_replies : None ≡ position at_colon behind → None ≡ reply_fields (texts_of slices)
  no_replies is =
      ap (λ (found : Option ℕ). option_map (λ at. drop (at + 1) (texts_of behind)) found) (is ∙ place_of behind)
      ∙ ap (λ (texts : List (List ℕ)). option_map (λ at. drop (at + 1) texts) (position is_colon texts)) same_behind

-- ---- the choices, field by field

-- a field that is no bar, and a bar behind a choice that has a field
pub field_seen : (has : Bool) (text : List ℕ) (texts : List (List ℕ)) → is_bar text ≡ false → each_has has (text ∷ texts) ≡ each_has true texts
field_seen has text texts is = ap (λ (b : Bool). cond b (has && each_has false texts) (each_has true texts)) is

pub bar_seen : (has : Bool) (text : List ℕ) (texts : List (List ℕ)) → is_bar text ≡ true → has ≡ true → each_has has (text ∷ texts) ≡ each_has false texts
bar_seen has text texts is some = ap (λ (b : Bool). cond b (has && each_has false texts) (each_has true texts)) is ∙ ap (λ (b : Bool). b && each_has false texts) some

pub bar_too_early : (has : Bool) (text : List ℕ) (texts : List (List ℕ)) → is_bar text ≡ true → has ≡ false → each_has has (text ∷ texts) ≡ false
bar_too_early has text texts is none = ap (λ (b : Bool). cond b (has && each_has false texts) (each_has true texts)) is ∙ ap (λ (b : Bool). b && each_has false texts) none

-- a field of a choice, and the end of one
pub field_added : (choice field : List ℕ) (fields : List (List ℕ)) → is_bar field ≡ false → choices_from choice (field ∷ fields) ≡ choices_from (choice ++ 32 ∷ field) fields
field_added choice field fields is = ap (λ (b : Bool). cond b (choice ∷ choices_from [] fields) (choices_from (choice ++ 32 ∷ field) fields)) is

pub choice_ended : (choice field : List ℕ) (fields : List (List ℕ)) → is_bar field ≡ true → choices_from choice (field ∷ fields) ≡ choice ∷ choices_from [] fields
choice_ended choice field fields is = ap (λ (b : Bool). cond b (choice ∷ choices_from [] fields) (choices_from (choice ++ 32 ∷ field) fields)) is
