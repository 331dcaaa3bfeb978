-- Frames: what is escaped and read again.
use Rattle.std.proofs.Common.{◌≡◌, ℕ, suc, ◌<◌, ◌&&◌, Bool, true, false, not, List, [], ◌∷◌, ◌++◌, Option, Some, option_map, refl, ap, sym, ◌∙◌, arith, length, take, cond, append_assoc}
use Rattle.std.proofs.lemmas.Bool.{eqb-true}
use Rattle.std.proofs.lemmas.List.{take_all}
use Rattle.std.proofs.lemmas.List.Folds.{list_all-append}
use Rattle.port_slip.specs.Frame.{is_end, is_esc, escaped, escaped_byte, unescaped, meant_by, datagram_of, has_no_end, cut, begun, received, with_datagram}
use Rattle.port_slip.specs.FrameLaws.{EscapingLeavesNoEnd, FramedIsReceived, NoiseStaysApart}

-- a cut, with bytes put before what it cuts off
abbrev pub with_front : List ℕ → Option (List ℕ × List ℕ) → Option (List ℕ × List ℕ)
with_front front o = option_map (λ c. (front ++ c.0, c.1)) o

-- a byte that is no ESC stands for itself
pub unescaped-plain : (a : ℕ) (bytes : List ℕ) → is_esc a ≡ false → unescaped (a ∷ bytes) ≡ a ∷ unescaped bytes
unescaped-plain a [] h = refl
unescaped-plain a (b ∷ bytes) h = ap (λ t. cond t (meant_by b ∷ unescaped bytes) (a ∷ unescaped (b ∷ bytes))) h

-- a byte by its two tests, as it is escaped
abbrev spelled : ℕ → Bool → Bool → List ℕ
spelled b e s = cond e (219 ∷ 220 ∷ []) (cond s (219 ∷ 221 ∷ []) (b ∷ []))

unescaped-spelled : (b : ℕ) (bytes : List ℕ) (e s : Bool) → is_end b ≡ e → is_esc b ≡ s → unescaped (spelled b e s ++ bytes) ≡ b ∷ unescaped bytes
unescaped-spelled b bytes true s he hs = ap (λ x. x ∷ unescaped bytes) (sym (eqb-true b 192 he))
unescaped-spelled b bytes false true he hs = ap (λ x. x ∷ unescaped bytes) (sym (eqb-true b 219 hs))
unescaped-spelled b bytes false false he hs = unescaped-plain b bytes hs

-- what is escaped spells itself
pub unescaped-escaped : (bytes : List ℕ) → unescaped (escaped bytes) ≡ bytes
unescaped-escaped [] = refl
unescaped-escaped (b ∷ bytes) =
    unescaped-spelled b (escaped bytes) (is_end b) (is_esc b) refl refl
    ∙ ap (λ t. b ∷ t) (unescaped-escaped bytes)

no_end-spelled : (b : ℕ) (e s : Bool) → is_end b ≡ e → has_no_end (spelled b e s) ≡ true
no_end-spelled b true s he = refl
no_end-spelled b false true he = refl
no_end-spelled b false false he = ap (λ t. not t && true) he

pub escaping_leaves_no_end : EscapingLeavesNoEnd
escaping_leaves_no_end [] = refl
escaping_leaves_no_end (b ∷ bytes) =
    list_all-append (λ x. not (is_end x)) (escaped_byte b) (escaped bytes)
    ∙ ap (λ t. t && has_no_end (escaped bytes)) (no_end-spelled b (is_end b) (is_esc b) refl)
    ∙ escaping_leaves_no_end bytes

some-spelled : (b : ℕ) (bytes : List ℕ) (e s : Bool) → 0 < length (spelled b e s ++ bytes)
some-spelled b bytes true s = omega arith
some-spelled b bytes false true = omega arith
some-spelled b bytes false false = omega arith

-- no datagram but the empty one is spelled by nothing
pub some-escaped : (bytes : List ℕ) → 0 < length bytes → 0 < length (escaped bytes)
some-escaped [] h = absurd (omega arith)
some-escaped (b ∷ bytes) h = some-spelled b (escaped bytes) (is_end b) (is_esc b)

-- the two parts of a test on a list that is not empty
pub no_end_first : (b : ℕ) (bytes : List ℕ) → has_no_end (b ∷ bytes) ≡ true → (is_end b ≡ false) × (has_no_end bytes ≡ true)
no_end_first b bytes h = grind arith

-- bytes without an END are cut off at the END behind them
pub cut-append : (bytes behind : List ℕ) → has_no_end bytes ≡ true → cut (bytes ++ 192 ∷ behind) ≡ Some (bytes, behind)
cut-append [] behind h = refl
cut-append (b ∷ bytes) behind h =
    let p = no_end_first b bytes h in
    ap (λ t. cond t (Some ([], bytes ++ 192 ∷ behind)) (option_map (λ c. (b ∷ c.0, c.1)) (cut (bytes ++ 192 ∷ behind)))) p.0
    ∙ ap (option_map (λ c. (b ∷ c.0, c.1))) (cut-append bytes behind p.1)

-- where a frame has begun, no END is passed over
pub begun-append : (bytes behind : List ℕ) → 0 < length bytes → has_no_end bytes ≡ true → begun (bytes ++ behind) ≡ bytes ++ behind
begun-append [] behind s h = absurd (omega arith)
begun-append (b ∷ bytes) behind s h =
    ap (λ t. cond t (begun (bytes ++ behind)) (b ∷ (bytes ++ behind))) (no_end_first b bytes h).0

-- what a frame spells is received first
pub received-frame : (n : ℕ) (bytes behind : List ℕ) → 0 < length bytes → has_no_end bytes ≡ true → received (suc n) (bytes ++ 192 ∷ behind) ≡ with_datagram (datagram_of bytes) (received n behind)
received-frame n bytes behind s h =
    rw (begun-append bytes (192 ∷ behind) s h) (rw (cut-append bytes behind h) refl)

pub framed_is_received : FramedIsReceived
framed_is_received n datagram behind d =
    ap (received (suc n)) (append_assoc (escaped datagram) (192 ∷ []) behind)
    ∙ received-frame n (escaped datagram) behind (some-escaped datagram d.some) (escaping_leaves_no_end datagram)
    ∙ ap (λ t. with_datagram t (received n behind)) (ap (take 1006) (unescaped-escaped datagram) ∙ take_all 1006 datagram d.most)

pub noise_stays_apart : NoiseStaysApart
noise_stays_apart n noise datagram behind s h d =
    received-frame (suc n) noise ((escaped datagram ++ 192 ∷ []) ++ behind) s h
    ∙ ap (with_datagram (datagram_of noise)) (framed_is_received n datagram behind d)
