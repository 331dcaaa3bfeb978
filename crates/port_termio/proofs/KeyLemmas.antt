-- What one key does.
use Rattle.std.proofs.Common.{◌≡◌, ℕ, Bool, true, false, not, ◌||◌, cond, List, [], ◌∷◌, ◌++◌, refl, ap}
use Rattle.std.proofs.lemmas.Bool.{cond_both, or_parts, not-true, both_ways}
use Rattle.port_termio.specs.declared.modes.Modes.{Modes}
use Rattle.port_termio.specs.declared.echo.Echo.TheVariants.{Nothing, NewLine}
use Rattle.port_termio.specs.Edit.{meant, is_nl, is_eof, is_end, is_erase, is_kill, is_text, After, ended, without_last, taken_back, text_typed, edited, raw, echoed, key_typed}

pub canonical : (modes : Modes) (line : List ℕ) (key : ℕ) → modes.icanon ≡ true → key_typed modes line key ≡ echoed modes (edited line (meant modes key))
canonical modes line key h = ap (λ c. echoed modes (cond c (edited line (meant modes key)) (raw line (meant modes key)))) h

pub not_canonical : (modes : Modes) (line : List ℕ) (key : ℕ) → modes.icanon ≡ false → key_typed modes line key ≡ echoed modes (raw line (meant modes key))
not_canonical modes line key h = ap (λ c. echoed modes (cond c (edited line (meant modes key)) (raw line (meant modes key)))) h

-- a choice by the tests of a key
abbrev chosen : Bool → Bool → Bool → Bool → After → After → After → After → After → After
chosen n e r k nl eof erase kill text = cond n nl (cond e eof (cond r erase (cond k kill text)))

chosen-text : (n e r k : Bool) (a b c d t : After) → not (n || e || r || k) ≡ true → chosen n e r k a b c d t ≡ t
chosen-text true e r k a b c d t h = cc
chosen-text false true r k a b c d t h = cc
chosen-text false false true k a b c d t h = cc
chosen-text false false false true a b c d t h = cc
chosen-text false false false false a b c d t h = refl

pub edited-text : (line : List ℕ) (key : ℕ) → is_text key ≡ true → edited line key ≡ text_typed line key
edited-text line key h =
    chosen-text (is_nl key) (is_eof key) (is_erase key) (is_kill key) (ended (line ++ key ∷ []) NewLine) (ended line Nothing) (taken_back line (without_last line)) (taken_back line []) (text_typed line key) h

-- what holds of each thing that a key may do
pub edited_any : (P : After → Type 0) (line : List ℕ) (key : ℕ) → P (ended (line ++ key ∷ []) NewLine) → P (ended line Nothing) → P (taken_back line (without_last line)) → P (taken_back line []) → P (text_typed line key) → P (edited line key)
edited_any P line key nl eof erase kill text =
    cond_both (is_nl key) _ _ P (λ _. nl) (λ _.
    cond_both (is_eof key) _ _ P (λ _. eof) (λ _.
    cond_both (is_erase key) _ _ P (λ _. erase) (λ _. cond_both (is_kill key) _ _ P (λ _. kill) (λ _. text))))

-- what holds of each thing that a key may do that ends no line
pub edited_cases : (P : After → Type 0) (line : List ℕ) (key : ℕ) → not (is_end key) ≡ true → P (taken_back line (without_last line)) → P (taken_back line []) → P (text_typed line key) → P (edited line key)
edited_cases P line key h erase kill text =
    let ends = or_parts (is_nl key) (is_eof key) (not-true (is_end key) h) in
    cond_both (is_nl key) _ _ P (λ e. absurd (both_ways (is_nl key) ends.0 e)) (λ _.
    cond_both (is_eof key) _ _ P (λ e. absurd (both_ways (is_eof key) ends.1 e)) (λ _.
    cond_both (is_erase key) _ _ P (λ _. erase) (λ _. cond_both (is_kill key) _ _ P (λ _. kill) (λ _. text))))
