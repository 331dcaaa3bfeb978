-- While a line has room, nothing that is typed is lost.
use Rattle.std.proofs.Common.{◌≡◌, ℕ, Bool, true, false, not, ◌||◌, cond, List, [], ◌∷◌, ◌++◌, refl, ap, sym, ◌∙◌, append_assoc, append-nil, length, nat_lt}
use Rattle.std.specs.Prelude.{option_to_list}
use Rattle.std.specs.List.{concat}
use Rattle.std.proofs.lemmas.Bool.{and_parts, eqb-true}
use Rattle.std.proofs.lemmas.List.Folds.{concat-append}
use Rattle.port_termio.specs.declared.modes.Modes.{Modes}
use Rattle.port_termio.specs.declared.echo.Echo.TheVariants.{Nothing, Key, NewLine, Bell}
use Rattle.port_termio.specs.Edit.{meant, is_nl, is_eof, is_end, is_erase, is_kill, After, ended, kept, without_last, taken_back, edited, echoed, typed}
use Rattle.port_termio.specs.EditLaws.{byte_typed, bytes_typed, NothingTypedIsLost}
use Rattle.port_termio.proofs.KeyLemmas.{canonical}

-- the bytes that went up and those of the line that is left
abbrev bytes_after : After → List ℕ
bytes_after after = concat (option_to_list after.up) ++ after.line

-- what a key leaves, by its tests and by whether its line has room
abbrev left_by : Bool → Bool → Bool → Bool → Bool → List ℕ → ℕ → After
left_by n e r k room line key =
    cond n (ended (line ++ key ∷ []) NewLine) (cond e (ended line Nothing) (cond r (taken_back line (without_last line)) (cond k (taken_back line []) (cond room (kept (line ++ key ∷ []) (Key key)) (kept line Bell)))))

left-keeps : (n e r k room : Bool) (line : List ℕ) (key : ℕ) → (n ≡ true → e ≡ false) → not (r || k) ≡ true → ((n || e) || room) ≡ true → bytes_after (left_by n e r k room line key) ≡ line ++ cond e [] (key ∷ [])
left-keeps true true r k room line key other back has = let never : true ≡ false = other refl in cc
left-keeps true false r k room line key other back has = append-nil ((line ++ key ∷ []) ++ []) ∙ append-nil (line ++ key ∷ [])
left-keeps false true r k room line key other back has = append-nil (line ++ [])
left-keeps false false true k room line key other back has = cc
left-keeps false false false true room line key other back has = cc
left-keeps false false false false true line key other back has = refl
left-keeps false false false false false line key other back has = cc

-- a key that takes nothing back, in a line that has room for it
edited-keeps : (line : List ℕ) (key : ℕ) → not (is_erase key || is_kill key) ≡ true → (is_end key || nat_lt (length line) 255) ≡ true → bytes_after (edited line key) ≡ line ++ byte_typed key
edited-keeps line key back has =
    left-keeps (is_nl key) (is_eof key) (is_erase key) (is_kill key) (nat_lt (length line) 255) line key (λ nl. ap is_eof (eqb-true key 10 nl)) back has

pub nothing_typed_is_lost : NothingTypedIsLost
nothing_typed_is_lost modes line [] h back room = sym (append-nil line)
nothing_typed_is_lost modes line (key ∷ keys) h back room =
    let m = meant modes key in
    let after = edited line m in
    let more = typed modes after.line keys in
    let up = concat (option_to_list after.up) in
    let backs = and_parts _ _ back in
    let rooms = and_parts _ _ room in
    ap (λ (a : After). let more = typed modes a.line keys in concat (option_to_list a.up ++ more.lines) ++ more.line) (canonical modes line key h)
    ∙ ap (λ t. t ++ more.line) (concat-append (option_to_list after.up) more.lines)
    ∙ append_assoc up (concat more.lines) more.line
    ∙ ap (λ t. up ++ t) (nothing_typed_is_lost modes after.line keys h backs.1 rooms.1)
    ∙ sym (append_assoc up after.line (bytes_typed modes keys))
    ∙ ap (λ t. t ++ bytes_typed modes keys) (edited-keeps line m backs.0 rooms.0)
    ∙ append_assoc line (byte_typed m) (bytes_typed modes keys)
