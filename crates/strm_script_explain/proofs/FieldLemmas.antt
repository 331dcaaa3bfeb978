-- The fields of a line, cut at a blank.
use Rattle.std.proofs.Common.{◌≡◌, ℕ, ◌+◌, ◌-◌, ◌<◌, ◌≤◌, Bool, true, false, cond, nat_lt, List, [], ◌∷◌, ◌++◌, filter, length, take, drop, get_or, refl, sym, ap, subst, ◌∙◌, arith, length-append, length-take, take-append-drop}
use Rattle.std.specs.List.{slice_split, onto_first, All}
use Rattle.std.proofs.Math.Seq.{take-add}
use Rattle.std.proofs.lemmas.Bool.{ltb-false}
use Rattle.std.proofs.lemmas.List.{append_assoc, append-nil, drop_all, drop-drop, drop_more, take_more, get_or-take, get_or-drop, length-drop}
use Rattle.std.proofs.lemmas.List.Elements.{All-from_get_or, filter-append}
use Rattle.std.proofs.lemmas.List.Splits.{slice_split_none, slice_split-cons_yes, slice_split-cons_no, length-slice_split}
use Rattle.strm_script_text.specs.Bytes.{is_blank}
use Rattle.strm_script_text.specs.Text.{fields_of}
use Rattle.strm_script_text.proofs.FieldLemmas.{AreUnparted}
use Rattle.strm_script_explain.specs.Field.{IsField}

abbrev has_bytes : List ℕ → Bool
has_bytes field = nat_lt 0 (length field)

onto_append : (x : ℕ) (parts others : List (List ℕ)) → 0 < length parts → onto_first x (parts ++ others) ≡ onto_first x parts ++ others
onto_append x [] others some = absurd (omega (arith, some))
onto_append x (part ∷ parts) others some = refl

-- the parts of a text that is cut at a blank are those of both sides
parts_cut : (xs : List ℕ) (b : ℕ) (ys : List ℕ) → is_blank b ≡ true → slice_split is_blank (xs ++ b ∷ ys) ≡ slice_split is_blank xs ++ slice_split is_blank ys
parts_cut [] b ys blank = slice_split-cons_yes is_blank b ys blank
parts_cut (x ∷ xs) b ys blank = by (is_blank x) refl (parts_cut xs b ys blank)
  where
    by : (c : Bool) → is_blank x ≡ c → slice_split is_blank (xs ++ b ∷ ys) ≡ slice_split is_blank xs ++ slice_split is_blank ys → slice_split is_blank (x ∷ (xs ++ b ∷ ys)) ≡ slice_split is_blank (x ∷ xs) ++ slice_split is_blank ys
    by true is others =
        slice_split-cons_yes is_blank x (xs ++ b ∷ ys) is
        ∙ ap (λ (parts : List (List ℕ)). [] ∷ parts) others
        ∙ ap (λ (parts : List (List ℕ)). parts ++ slice_split is_blank ys) (sym (slice_split-cons_yes is_blank x xs is))
    by false is others =
        slice_split-cons_no is_blank x (xs ++ b ∷ ys) is
        ∙ ap (onto_first x) others
        ∙ onto_append x (slice_split is_blank xs) (slice_split is_blank ys) (omega (arith, length-slice_split is_blank xs))
        ∙ ap (λ (parts : List (List ℕ)). parts ++ slice_split is_blank ys) (sym (slice_split-cons_no is_blank x xs is))

-- and so are its fields
fields_cut : (xs : List ℕ) (b : ℕ) (ys : List ℕ) → is_blank b ≡ true → fields_of (xs ++ b ∷ ys) ≡ fields_of xs ++ fields_of ys
fields_cut xs b ys blank = ap (filter has_bytes) (parts_cut xs b ys blank) ∙ filter-append has_bytes (slice_split is_blank xs) (slice_split is_blank ys)

-- what is in front of this place ends with a blank, or is nothing: it has no part of the fields behind it
abbrev pub IsEdge : List ℕ → ℕ → Type 0
IsEdge line at = (others : List ℕ) → fields_of (take at line ++ others) ≡ fields_of (take at line) ++ fields_of others

module _ (line : List ℕ) (start at : ℕ) (within : start ≤ at) (inside : at ≤ length line) (edge : IsEdge line start) (unparted : AreUnparted line start at) where
  abbrev piece : List ℕ
  piece = take (at - start) (drop start line)

  there : start + (at - start) ≡ at
  there = omega arith

  length-piece : length piece ≡ at - start
  length-piece = omega (arith, length-take (at - start) (drop start line), length-drop start line)

  no_blank : All (λ byte. is_blank byte ≡ false) piece
  no_blank =
      All-from_get_or (λ byte. is_blank byte ≡ false) piece 0 (λ i under.
      let here : i < at - start = omega (arith, length-piece, under) in
      rw (get_or-take (at - start) (drop start line) i 0 here, get_or-drop start line i 0) (unparted (start + i) (omega arith) (omega arith)))

  -- a piece without a blank is one field, unless it has no byte
  one_field : start < at → fields_of piece ≡ piece ∷ []
  one_field some =
      ap (filter has_bytes) (slice_split_none is_blank piece no_blank) ∙ has (has_bytes piece) refl
    where
      has : (b : Bool) → has_bytes piece ≡ b → cond (has_bytes piece) (piece ∷ []) [] ≡ piece ∷ []
      has true is = ap (λ (b : Bool). cond b (piece ∷ []) []) is
      has false is = absurd (omega (arith, ltb-false 0 (length piece) is, length-piece, some))

  no_field : at ≤ start → fields_of piece ≡ []
  no_field none = let nothing : at - start ≡ 0 = omega arith in ap (λ (n : ℕ). fields_of (take n (drop start line))) nothing

  taken : take at line ≡ take start line ++ piece
  taken = ap (λ (n : ℕ). take n line) (sym there) ∙ take-add start (at - start) line

  fields_taken : fields_of (take at line) ≡ fields_of (take start line) ++ fields_of piece
  fields_taken = ap fields_of taken ∙ edge piece

  rest_is : drop start line ≡ piece ++ drop at line
  rest_is = sym (take-append-drop (at - start) (drop start line)) ∙ ap (λ (rest : List ℕ). piece ++ rest) (drop-drop (at - start) start line ∙ ap (λ (n : ℕ). drop n line) there)

  fields_are : fields_of line ≡ fields_of (take start line) ++ fields_of (piece ++ drop at line)
  fields_are = ap fields_of (sym (take-append-drop start line)) ∙ edge (drop start line) ∙ ap (λ (rest : List ℕ). fields_of (take start line) ++ fields_of rest) rest_is

  -- a field ends at a blank
  pub field_here : start < at → at < length line → is_blank (get_or line at 0) ≡ true → (number : ℕ) → length (fields_of (take start line)) ≡ number → IsField line number start (at - start)
  field_here some before blank number many = record {
    within = omega arith;
    before = many;
    fields =
        fields_are
        ∙ ap (λ (rest : List ℕ). fields_of (take start line) ++ fields_of (piece ++ rest)) (drop_more line at 0 before)
        ∙ ap (λ (all : List (List ℕ)). fields_of (take start line) ++ all)
        (fields_cut piece (get_or line at 0) (drop (at + 1) line) blank
        ∙ ap (λ (all : List (List ℕ)). all ++ fields_of (drop (at + 1) line)) (one_field some)
        ∙ ap (λ (all : List (List ℕ)). piece ∷ all)
        (sym (fields_cut [] (get_or line at 0) (drop (at + 1) line) blank)
        ∙ ap fields_of (sym (drop_more line at 0 before))
        ∙ ap (λ (n : ℕ). fields_of (drop n line)) (sym there)));
  }

  -- the number of fields up to a blank
  pub many_here : at < length line → is_blank (get_or line at 0) ≡ true → fields_of (take (at + 1) line) ≡ fields_of (take start line) ++ fields_of piece
  many_here before blank =
      ap fields_of (take_more line at 0 before) ∙ fields_cut (take at line) (get_or line at 0) [] blank ∙ append-nil (fields_of (take at line)) ∙ fields_taken

  pub more_here : start < at → at < length line → is_blank (get_or line at 0) ≡ true → length (fields_of (take (at + 1) line)) ≡ length (fields_of (take start line)) + 1
  more_here some before blank =
      ap length (many_here before blank) ∙ length-append (fields_of (take start line)) (fields_of piece) ∙ ap (λ (all : List (List ℕ)). length (fields_of (take start line)) + length all) (one_field some)

  pub same_here : at ≤ start → at < length line → is_blank (get_or line at 0) ≡ true → length (fields_of (take (at + 1) line)) ≡ length (fields_of (take start line))
  same_here none before blank =
      ap length (many_here before blank) ∙ ap (λ (all : List (List ℕ)). length (fields_of (take start line) ++ all)) (no_field none) ∙ ap length (append-nil (fields_of (take start line)))

-- a blank is an edge
pub edge_after : (line : List ℕ) (at : ℕ) → at < length line → is_blank (get_or line at 0) ≡ true → IsEdge line (at + 1)
edge_after line at inside blank others =
    let b = get_or line at 0 in
    ap (λ (front : List ℕ). fields_of (front ++ others)) (take_more line at 0 inside)
    ∙ ap fields_of (append_assoc (take at line) (b ∷ []) others)
    ∙ fields_cut (take at line) b others blank
    ∙ ap (λ (all : List (List ℕ)). all ++ fields_of others) (sym (append-nil (fields_of (take at line))) ∙ sym (fields_cut (take at line) b [] blank) ∙ ap fields_of (sym (take_more line at 0 inside)))

-- the end of a line ends the last field
module _ (line : List ℕ) (start at : ℕ) (within : start ≤ at) (past : length line ≤ at) (end : at ≤ length line) (edge : IsEdge line start) (unparted : AreUnparted line start at) where
  all : at ≡ length line
  all = omega arith

  abbrev last : List ℕ
  last = take (at - start) (drop start line)

  none_behind : drop at line ≡ []
  none_behind = drop_all at line past

  lasts : fields_of line ≡ fields_of (take start line) ++ fields_of last
  lasts =
      fields_are line start at within end edge unparted
      ∙ ap (λ (rest : List ℕ). fields_of (take start line) ++ fields_of (last ++ rest)) none_behind
      ∙ ap (λ (rest : List ℕ). fields_of (take start line) ++ fields_of rest) (append-nil last)

  pub field_last : start < length line → (number : ℕ) → length (fields_of (take start line)) ≡ number → IsField line number start (length line - start)
  field_last some number many = record {
    within = omega arith;
    before = many;
    fields = subst (λ (n : ℕ). fields_of line ≡ fields_of (take start line) ++ take (n - start) (drop start line) ∷ fields_of (drop (start + (n - start)) line)) all
        (lasts
        ∙ ap (λ (fields : List (List ℕ)). fields_of (take start line) ++ fields)
        (one_field line start at within end edge unparted (omega arith)
        ∙ ap (λ (rest : List ℕ). last ∷ fields_of rest) (sym none_behind)
        ∙ ap (λ (n : ℕ). last ∷ fields_of (drop n line)) (sym (there line start at within end edge unparted))));
  }

  pub more_last : start < length line → length (fields_of line) ≡ length (fields_of (take start line)) + 1
  more_last some =
      ap length lasts ∙ length-append (fields_of (take start line)) (fields_of last)
      ∙ ap (λ (fields : List (List ℕ)). length (fields_of (take start line)) + length fields) (one_field line start at within end edge unparted (omega arith))

  pub same_last : length line ≤ start → length (fields_of line) ≡ length (fields_of (take start line))
  same_last none =
      ap length lasts
      ∙ ap (λ (fields : List (List ℕ)). length (fields_of (take start line) ++ fields)) (no_field line start at within end edge unparted (omega arith))
      ∙ ap length (append-nil (fields_of (take start line)))
