-- What is shown of keys and of columns.
use Rattle.std.proofs.Common.{◌≡◌, ℕ, zero, suc, ◌+◌, List, [], ◌∷◌, ◌++◌, refl, ap, sym, ◌∙◌, append_assoc, length, arith}
use Rattle.std.proofs.lemmas.List.{length-append}
use Rattle.port_termio.specs.Edit.{shown, shown_line, columns, rubbed_out}

rubbed_out-suc : (n : ℕ) → rubbed_out (suc n) ≡ rubbed_out n ++ 8 ∷ 32 ∷ 8 ∷ []
rubbed_out-suc zero = refl
rubbed_out-suc (suc n) = ap (λ t. 8 ∷ 32 ∷ 8 ∷ t) (rubbed_out-suc n)

-- columns that are rubbed out behind others
pub rubbed_out_more : (xs : List ℕ) (n : ℕ) → (xs ++ rubbed_out n) ++ 8 ∷ 32 ∷ 8 ∷ [] ≡ xs ++ rubbed_out (n + 1)
rubbed_out_more xs n =
    append_assoc xs (rubbed_out n) (8 ∷ 32 ∷ 8 ∷ [])
    ∙ ap (λ t. xs ++ t) (sym (rubbed_out-suc n))
    ∙ ap (λ k. xs ++ rubbed_out k) (let e : suc n ≡ n + 1 = omega arith in e)

pub shown_line-append : (xs ys : List ℕ) → shown_line (xs ++ ys) ≡ shown_line xs ++ shown_line ys
shown_line-append [] ys = refl
shown_line-append (x ∷ xs) ys =
    ap (λ t. shown x ++ t) (shown_line-append xs ys) ∙ sym (append_assoc (shown x) (shown_line xs) (shown_line ys))

pub columns-append : (xs ys : List ℕ) → columns (xs ++ ys) ≡ columns xs + columns ys
columns-append xs ys = ap length (shown_line-append xs ys) ∙ length-append (shown_line xs) (shown_line ys)
