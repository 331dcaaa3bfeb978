-- The bytes that a table changes, byte by byte.
use Rattle.std.proofs.Common.{◌≡◌, ◌≤◌, ℕ, ◌+◌, ◌==◌, not, Bool, true, false, cond, List, [], ◌∷◌, ◌++◌, map, filter, refl, sym, ap, ◌∙◌, arith}
use Rattle.std.specs.Prelude.{slice_index}
use Rattle.strm_script_print.specs.Fields.{all_bytes}
use Rattle.std.specs.List.{range_with_len}
use Rattle.std.proofs.lemmas.List.{append-nil, map-append, map-id}
use Rattle.std.proofs.lemmas.List.Elements.{filter-append}
use Rattle.std.proofs.lemmas.List.FromFn.{map-range_with_len_more}

abbrev pub changes : List ℕ → ℕ → Bool
changes table byte = not (slice_index table byte == byte)

-- those below a number
abbrev pub changed_below : List ℕ → ℕ → List ℕ
changed_below table n = filter (changes table) (range_with_len 0 n)

numbers_more : (n : ℕ) → range_with_len 0 (n + 1) ≡ range_with_len 0 n ++ n ∷ []
numbers_more n =
    sym (map-id (range_with_len 0 (n + 1))) ∙ map-range_with_len_more (λ (m : ℕ). m) 0 n n (omega arith) ∙ ap (λ (front : List ℕ). front ++ n ∷ []) (map-id (range_with_len 0 n))

changed_more : (table : List ℕ) (n : ℕ) → changed_below table (n + 1) ≡ changed_below table n ++ cond (changes table n) (n ∷ []) []
changed_more table n = ap (filter (changes table)) (numbers_more n) ∙ filter-append (changes table) (range_with_len 0 n) (n ∷ [])

-- a byte that is changed
pub one_changed : (table all : List ℕ) (n : ℕ) → changes table n ≡ true → all ≡ changed_below table n → all ++ n ∷ [] ≡ changed_below table (n + 1)
one_changed table all n is so_far =
    ap (λ (front : List ℕ). front ++ n ∷ []) so_far ∙ ap (λ (b : Bool). changed_below table n ++ cond b (n ∷ []) []) (sym is) ∙ sym (changed_more table n)

-- one that is not
kept_below : (table : List ℕ) (n : ℕ) → changes table n ≡ false → changed_below table n ≡ changed_below table (n + 1)
kept_below table n is =
    sym (append-nil (changed_below table n)) ∙ ap (λ (b : Bool). changed_below table n ++ cond b (n ∷ []) []) (sym is) ∙ sym (changed_more table n)

pub one_kept : (table all : List ℕ) (n : ℕ) → changes table n ≡ false → all ≡ changed_below table n → all ≡ changed_below table (n + 1)
one_kept table all n is so_far = so_far ∙ kept_below table n is

pub one_image_kept : (table all : List ℕ) (n : ℕ) → changes table n ≡ false → all ≡ map (slice_index table) (changed_below table n) → all ≡ map (slice_index table) (changed_below table (n + 1))
one_image_kept table all n is so_far = so_far ∙ ap (map (slice_index table)) (kept_below table n is)

-- what becomes of one that is
pub one_image : (table all : List ℕ) (n : ℕ) → changes table n ≡ true → all ≡ map (slice_index table) (changed_below table n) → all ++ slice_index table n ∷ [] ≡ map (slice_index table) (changed_below table (n + 1))
one_image table all n is so_far =
    ap (λ (front : List ℕ). front ++ slice_index table n ∷ []) so_far
    ∙ sym (map-append (slice_index table) (changed_below table n) (n ∷ []))
    ∙ ap (map (slice_index table)) (one_changed table (changed_below table n) n is refl)

bytes_are : range_with_len 0 256 ≡ all_bytes
unfolding all_bytes
bytes_are = refl

-- all are below 256
pub all_changed : (table : List ℕ) (n : ℕ) → 256 ≤ n → n ≤ 256 → changed_below table n ≡ filter (changes table) all_bytes
all_changed table n past within =
    let is : n ≡ 256 = omega (arith, past, within) in
    ap (changed_below table) is ∙ ap (filter (changes table)) bytes_are
