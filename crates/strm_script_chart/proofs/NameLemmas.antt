-- The names of columns, one by one.
use Rattle.std.proofs.Common.{◌≡◌, ℕ, ◌+◌, ◌<◌, List, [], ◌∷◌, ◌++◌, length, take, get_or, Option, sym, ap, ◌∙◌, arith}
use Rattle.std.specs.Io.KnownBytes.{Appends}
use Rattle.std.specs.List.{flat_map, enumerate_from}
use Rattle.std.proofs.lemmas.List.{append-nil, length-map, length-take-le, map-append}
use Rattle.std.proofs.lemmas.Grind.{flat_map-append}
use Rattle.arrayvec.specs.ArrayVec.{ArrayVec}
use Rattle.strm_script_text.specs.Text.{name_text, name_texts}
use Rattle.strm_script_text.proofs.WriteLemmas.{appends_then}
use Rattle.strm_script_print.proofs.GatheredLemmas.{one_more}
use Rattle.strm_script_chart.specs.Columns.{name_row}
use Rattle.strm_script_chart.specs.Chart.{process_names, process_row}

-- one element more, with its number
enumerate-more : {X : Type 0} (first n : ℕ) (xs : List X) (x : X) → n ≡ first + length xs → enumerate_from first (xs ++ x ∷ []) ≡ enumerate_from first xs ++ (n, x) ∷ []
enumerate-more first n [] x is = let same : first ≡ n = omega arith in ap (λ m. (m, x) ∷ []) same
enumerate-more first n (y ∷ xs) x is = ap (λ rest. (first, y) ∷ rest) (enumerate-more (first + 1) n xs x (omega arith))

-- one name more
names_more : (names : List (List ℕ)) (name : List ℕ) (left : ℕ) → left ≡ length names → process_names (names ++ name ∷ []) ≡ process_names names ++ name_row left name
names_more names name left is =
    ap (flat_map process_row) (enumerate-more 0 left names name (omega arith))
    ∙ flat_map-append process_row (enumerate_from 0 names) ((left, name) ∷ [])
    ∙ ap (λ (last : List ℕ). process_names names ++ last) (append-nil (name_row left name))

-- the name of one process more is written
pub name_written : (before between after : Option (List ℕ)) (names : List (ArrayVec ℕ)) (left : ℕ) (name : ArrayVec ℕ) → left < length names → name ≡ get_or names left name → Appends before between (process_names (name_texts (take left names))) → Appends between after (name_row left name.items) → Appends before after (process_names (name_texts (take (left + 1) names)))
name_written before between after names left name within is one other =
    let so_far = name_texts (take left names) in
    let more : take (left + 1) names ≡ take left names ++ name ∷ [] = one_more names left name within is in
    let viewed : name_texts (take (left + 1) names) ≡ so_far ++ name.items ∷ [] = ap name_texts more ∙ map-append name_text (take left names) (name ∷ []) in
    let many : length so_far ≡ left = length-map (take left names) name_text ∙ length-take-le left names (omega arith) in
    let whole : process_names (name_texts (take (left + 1) names)) ≡ process_names so_far ++ name_row left name.items = ap process_names viewed ∙ names_more so_far name.items left (sym many) in
    rw whole (appends_then before between after (process_names so_far) (name_row left name.items) one other)
