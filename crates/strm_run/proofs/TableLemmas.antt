-- Columns and rows, one more at a time.
use Rattle.std.proofs.Common.{◌≡◌, ℕ, ◌+◌, ◌<◌, ◌≤◌, List, [], ◌∷◌, ◌++◌, length, get_or, set, Vec, Global, sym, ◌∙◌, ap, subst, arith, below_more}
use Rattle.std.proofs.Math.Seq.{get_or-append_seam}
use Rattle.std.proofs.lemmas.List.{length-set, length_push, length-append, get_or_default, get_or-set_same, get_or-set_other, get_or_append_left}
use Rattle.strm_run.specs.Inside.Table.{IsAdded, IsTransposed}

-- the first rows have one element more
pub record IsAddedTo {T : Type 0} (rows : List (Vec T Global)) (column : List T) (at : ℕ) (now : List (Vec T Global)) : Type 0 where
  pub many : length now ≡ length rows
  pub before : (i : ℕ) (d e : Vec T Global) (x : T) → i < at → (get_or now i d).items ≡ (get_or rows i e).items ++ get_or column i x ∷ []
  pub behind : (i : ℕ) (d : Vec T Global) → at ≤ i → get_or now i d ≡ get_or rows i d

-- a place that the column has is a row
pub row_there : {T : Type 0} (column so_far later : List T) (at rows : ℕ) (x : T) → column ≡ so_far ++ x ∷ later → at ≡ length so_far → length column ≡ rows → at < rows
row_there column so_far later at rows x is place high =
    let long : length column ≡ length so_far + length (x ∷ later) = ap (λ l. length l) is ∙ length-append so_far (x ∷ later) in
    omega arith

-- one more row has, and what it has stands there in the column
pub added_more : {T : Type 0} (rows : List (Vec T Global)) (column so_far later : List T) (at : ℕ) (now : List (Vec T Global)) (was row : Vec T Global) (x : T) → IsAddedTo rows column at now → at < length rows → column ≡ so_far ++ x ∷ later → at ≡ length so_far → was ≡ get_or now at was → row.items ≡ was.items ++ x ∷ [] → IsAddedTo rows column (at + 1) (set now at row)
added_more rows column so_far later at now was row x added within is place stood more =
    let here : (d : _) → get_or column at d ≡ x = λ d. ap (λ l. get_or l at d) is ∙ ap (λ n. get_or (so_far ++ x ∷ later) n d) place ∙ get_or-append_seam so_far x later d in
    let inside : at < length now = subst (λ n. at < n) (sym added.many) within in
    record {
      many = length-set now at row ∙ added.many;
      before = λ i d e y below.
          below_more (λ (n : ℕ). (get_or (set now at row) n d).items ≡ (get_or rows n e).items ++ get_or column n y ∷ []) at
          (λ n lower. ap (λ (v : Vec _ Global). v.items) (get_or-set_other now at n row d (λ same. omega arith)) ∙ added.before n d e y lower)
          (ap (λ (v : Vec _ Global). v.items) (get_or-set_same now at row d inside) ∙ more
          ∙ ap (λ (v : Vec _ Global). v.items ++ x ∷ []) (stood ∙ added.behind at was (omega arith) ∙ get_or_default rows at was e within)
          ∙ ap (λ y. (get_or rows at e).items ++ y ∷ []) (sym (here y)))
          i below;
      behind = λ i d above. get_or-set_other now at i row d (λ same. omega arith) ∙ added.behind i d (omega arith);
    }

-- what a list holds that is not empty
pub first : {T : Type 0} (xs : List T) (i : ℕ) → i < length xs → T
first [] i below = absurd (omega arith)
first (x ∷ xs) i below = x

-- of one more column
pub transposed_more : {T : Type 0} (columns : List (Vec T Global)) (column : Vec T Global) (rows : ℕ) (all after : List (Vec T Global)) → IsTransposed columns rows all → length column.items ≡ rows → IsAdded all column.items after → IsTransposed (columns ++ column ∷ []) rows after
transposed_more columns column rows all after was high added =
    let there : (i : ℕ) → i < rows → i < length all = λ i below. subst (λ n. i < n) (sym was.many) below in
    record {
      many = added.many ∙ was.many;
      long = λ i d below.
          ap (λ l. length l) (added.each i d d (first column.items i (subst (λ n. i < n) (sym high) below)) (there i below)) ∙ length_push _ _ ∙ ap (λ n. n + 1) (was.long i d below) ∙ sym (length_push columns column);
      each = λ i k d e x below under.
          let row = added.each i d d x (there i below) in
          below_more (λ (n : ℕ). get_or (get_or after i d).items n x ≡ get_or (get_or (columns ++ column ∷ []) n e).items i x) (length columns)
          (λ n lower.
          ap (λ l. get_or l n x) row
          ∙ get_or_append_left (get_or all i d).items _ x n (subst (λ m. n < m) (sym (was.long i d below)) lower)
          ∙ was.each i n d e x below lower
          ∙ ap (λ (v : Vec _ Global). get_or v.items i x) (sym (get_or_append_left columns (column ∷ []) e n lower)))
          (ap (λ l. get_or l (length columns) x) row
          ∙ ap (λ n. get_or ((get_or all i d).items ++ get_or column.items i x ∷ []) n x) (sym (was.long i d below))
          ∙ get_or-append_seam (get_or all i d).items (get_or column.items i x) [] x
          ∙ ap (λ (v : Vec _ Global). get_or v.items i x) (sym (get_or-append_seam columns column [] e)))
          k (omega (arith, length_push columns column));
    }
