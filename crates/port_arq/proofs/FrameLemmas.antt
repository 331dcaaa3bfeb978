-- Frames as bytes, and back.
use Rattle.std.proofs.Common.{◌≡◌, ℕ, zero, suc, ◌+◌, ◌<◌, ◌≤◌, cond, Option, Some, None, List, [], ◌∷◌, ◌++◌, refl, ap, sym, subst, ◌∙◌, length, take, drop, arith, get_or, length-drop, nat_eq, nat_le}
use Rattle.std.proofs.lemmas.Bool.{le-leb, leb-true, eqb-true, cond_both}
use Rattle.std.proofs.lemmas.Nat.{be_bytes_4, from_be_bytes-to_be_bytes_4}
use Rattle.std.proofs.lemmas.Option.{cond_some}
use Rattle.std.proofs.lemmas.List.{take_all, length-take-le, get_or-drop, take-append-drop, drop-drop}
use Rattle.port_arq.specs.declared.frame.Frame.{Frame}
use Rattle.port_arq.specs.declared.frame.Numbered.{Numbered}
use Rattle.port_arq.specs.Frame.{number_in, number_bytes, bytes_with, frame_bytes, ack_in, message_in, frame_in}
use Rattle.port_arq.specs.FrameLaws.{NumbersFit, FramesComeBack, FramesHaveOneSpelling}

comes_back : (message : Option Numbered) (awaited : ℕ) → NumbersFit message awaited → frame_in (bytes_with awaited message) ≡ Some (record { awaited = awaited; message = message })
comes_back None awaited h =
    ap (λ n. Some (record { awaited = n; message = None })) (from_be_bytes-to_be_bytes_4 awaited h)
comes_back (Some message) awaited h =
    let made : ℕ → ℕ → Option Frame = λ n m. Some (record { awaited = n; message = Some (record { number = m; bytes = message.bytes }) }) in
    let rest : List ℕ = number_bytes awaited ++ (number_bytes message.number ++ message.bytes) in
    let long : 8 ≤ length rest = omega arith in
    ap (λ b. cond b (made (number_in rest) (number_in (drop 4 rest))) None) (le-leb 8 (length rest) long)
    ∙ ap (λ n. made n (number_in (number_bytes message.number))) (from_be_bytes-to_be_bytes_4 awaited h.0)
    ∙ ap (made awaited) (from_be_bytes-to_be_bytes_4 message.number h.1)

pub frames_come_back : FramesComeBack
frames_come_back frame h = comes_back frame.message frame.awaited h

take_small : (n : ℕ) (bytes : List ℕ) → ((i : ℕ) → get_or bytes i 0 < 256) → (i : ℕ) → get_or (take n bytes) i 0 < 256
take_small zero bytes small i = omega arith
take_small (suc n) [] small i = omega arith
take_small (suc n) (byte ∷ bytes) small zero = small zero
take_small (suc n) (byte ∷ bytes) small (suc i) = take_small n bytes (λ j. small (suc j)) i

-- four bytes are those of the number that they are
spelt : (bytes : List ℕ) → ((i : ℕ) → get_or bytes i 0 < 256) → 4 ≤ length bytes → number_bytes (number_in bytes) ≡ take 4 bytes
spelt bytes small long =
    be_bytes_4 (take 4 bytes) (number_in bytes) (length-take-le 4 bytes long) (take_small 4 bytes small) refl

ack_spelt : (bytes : List ℕ) (frame : Frame) → ((i : ℕ) → get_or bytes i 0 < 256) → ack_in bytes ≡ Some frame → frame_bytes frame ≡ 0 ∷ bytes
ack_spelt bytes frame small h =
    let is = cond_some (nat_eq (length bytes) 4) _ frame h in
    let four = eqb-true (length bytes) 4 is.0 in
    let long : 4 ≤ length bytes = omega arith in
    let short : length bytes ≤ 4 = omega arith in
    ap frame_bytes (sym is.1) ∙ ap (λ l. 0 ∷ l) (spelt bytes small long ∙ take_all 4 bytes short)

message_spelt : (bytes : List ℕ) (frame : Frame) → ((i : ℕ) → get_or bytes i 0 < 256) → message_in bytes ≡ Some frame → frame_bytes frame ≡ 1 ∷ bytes
message_spelt bytes frame small h =
    let is = cond_some (nat_le 8 (length bytes)) _ frame h in
    let eight = leb-true 8 (length bytes) is.0 in
    let long : 4 ≤ length bytes = omega arith in
    let behind = drop 4 bytes in
    let more : 4 ≤ length behind = omega (arith, length-drop 4 bytes) in
    let small_behind : (i : ℕ) → get_or behind i 0 < 256 = λ i. subst (λ n. n < 256) (sym (get_or-drop 4 bytes i 0)) (small (4 + i)) in
    ap frame_bytes (sym is.1)
    ∙ ap (λ l. 1 ∷ (l ++ (number_bytes (number_in behind) ++ drop 8 bytes))) (spelt bytes small long)
    ∙ ap (λ l. 1 ∷ (take 4 bytes ++ (l ++ drop 8 bytes))) (spelt behind small_behind more)
    ∙ ap (λ l. 1 ∷ (take 4 bytes ++ (take 4 behind ++ l))) (sym (drop-drop 4 4 bytes))
    ∙ ap (λ l. 1 ∷ (take 4 bytes ++ l)) (take-append-drop 4 behind)
    ∙ ap (λ l. 1 ∷ l) (take-append-drop 4 bytes)

pub frames_have_one_spelling : FramesHaveOneSpelling
frames_have_one_spelling [] frame small h = cc
frames_have_one_spelling (kind ∷ bytes) frame small h =
    let less : (i : ℕ) → get_or bytes i 0 < 256 = λ i. small (suc i) in
    cond_both (nat_eq kind 0) (ack_in bytes) (cond (nat_eq kind 1) (message_in bytes) None)
    (λ o. o ≡ Some frame → frame_bytes frame ≡ kind ∷ bytes)
    (λ e h. ack_spelt bytes frame less h ∙ ap (λ k. k ∷ bytes) (sym (eqb-true kind 0 e)))
    (λ _. cond_both (nat_eq kind 1) (message_in bytes) None
    (λ o. o ≡ Some frame → frame_bytes frame ≡ kind ∷ bytes)
    (λ e h. message_spelt bytes frame less h ∙ ap (λ k. k ∷ bytes) (sym (eqb-true kind 1 e)))
    (λ _ h. cc))
    h
