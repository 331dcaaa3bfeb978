-- A text that is written so many times.
use Rattle.std.proofs.Common.{◌≡◌, ℕ, suc, zero, ◌+◌, List, ◌++◌, Option, sym, ap, ◌∙◌, append_assoc}
use Rattle.std.specs.Io.KnownBytes.{Appends}
use Rattle.std.specs.List.{repeat}
use Rattle.std.proofs.lemmas.List.{append-nil}
use native.Mathlib.Numerals.{unary_clauses}
use Rattle.strm_script_text.proofs.WriteLemmas.{appends_then}

-- once more
repeat-suc : (n : ℕ) (part : List ℕ) → repeat (suc n) part ≡ repeat n part ++ part
repeat-suc zero part = append-nil part
repeat-suc (suc n) part = ap (λ (rest : List ℕ). part ++ rest) (repeat-suc n part) ∙ sym (append_assoc part (repeat n part) part)

repeat-more : (n : ℕ) (part : List ℕ) → repeat (n + 1) part ≡ repeat n part ++ part
repeat-more n part = simp unary_clauses (repeat-suc n part)

-- a part is written once more
pub one_more_written : (before between after : Option (List ℕ)) (n : ℕ) (part : List ℕ) → Appends before between (repeat n part) → Appends between after part → Appends before after (repeat (n + 1) part)
one_more_written before between after n part one other = rw (repeat-more n part) (appends_then before between after (repeat n part) part one other)
