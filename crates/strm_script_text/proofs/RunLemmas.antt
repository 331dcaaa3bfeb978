-- Runs of bytes that stand for themselves: they spell themselves, and are read as they are.
use Rattle.std.proofs.Common.{◌≡◌, ℕ, zero, suc, ◌+◌, ◌/◌, ◌%◌, ◌&&◌, Bool, true, false, cond, List, [], ◌∷◌, ◌++◌, length, ◌≤◌, take, drop, Option, Some, None, refl, sym, ap, ◌∙◌, arith, append_assoc}
use Rattle.std.specs.Option.{option_map}
use Rattle.std.specs.List.{list_all}
use Rattle.std.proofs.lemmas.Bool.{and_from, and_parts}
use Rattle.std.proofs.lemmas.List.{take-append-drop, take-take, take_all, drop-take, append-nil}
use Rattle.std.proofs.Math.ListN.{drop_of_length-le}
use Rattle.std.proofs.lemmas.List.Concat.{flat_map-append}
use Rattle.std.proofs.lemmas.List.Folds.{list_all-append}
use Rattle.std.specs.Io.KnownBytes.{Appends}
use Rattle.strm_script_text.specs.Bytes.{is_itself}
use Rattle.strm_script_text.specs.Text.{◌>>=◌, bytes_of}
use Rattle.strm_script_text.specs.Spelling.{hex_digit, spelling_of, spelling}
use Rattle.strm_script_text.proofs.SpellingLemmas.{front_first, goes_on, itself_first}
use Rattle.strm_script_text.proofs.WriteLemmas.{appends_then}

-- the first so many, and then as many more
take_both : (n m : ℕ) (bytes : List ℕ) → take (n + m) bytes ≡ take n bytes ++ take m (drop n bytes)
take_both n m bytes =
    sym (take-append-drop n (take (n + m) bytes))
    ∙ ap (λ (first : List ℕ). first ++ drop n (take (n + m) bytes)) (take-take n (n + m) bytes (omega arith))
    ∙ ap (λ (more : List ℕ). take n bytes ++ more) (drop-take n m bytes)

-- two runs are one
pub plain_more : (n m : ℕ) (bytes : List ℕ) → list_all is_itself (take n bytes) ≡ true → list_all is_itself (take m (drop n bytes)) ≡ true → list_all is_itself (take (n + m) bytes) ≡ true
plain_more n m bytes one other =
    ap (list_all is_itself) (take_both n m bytes) ∙ list_all-append is_itself (take n bytes) (take m (drop n bytes)) ∙ and_from _ _ one other

-- such bytes spell themselves
pub plain_spelt : (bytes : List ℕ) → list_all is_itself bytes ≡ true → spelling bytes ≡ bytes
plain_spelt [] plain = refl
plain_spelt (byte ∷ bytes) plain =
    let is = and_parts (is_itself byte) (list_all is_itself bytes) plain in
    ap (λ (b : Bool). cond b (byte ∷ []) (37 ∷ hex_digit (byte / 16) ∷ hex_digit (byte % 16) ∷ []) ++ spelling bytes) is.0 ∙ ap (λ (rest : List ℕ). byte ∷ rest) (plain_spelt bytes is.1)

-- so many bytes are spelt, and then as many more
pub spelt_then : (before between after : Option (List ℕ)) (n m : ℕ) (bytes : List ℕ) → Appends before between (spelling (take n bytes)) → Appends between after (spelling (take m (drop n bytes))) → Appends before after (spelling (take (n + m) bytes))
spelt_then before between after n m bytes one other =
    rw (take_both n m bytes, flat_map-append spelling_of (take n bytes) (take m (drop n bytes))) (appends_then before between after (spelling (take n bytes)) (spelling (take m (drop n bytes))) one other)

map_nothing : (found : Option (List ℕ)) → found ≡ option_map (λ more. [] ++ more) found
map_nothing None = refl
map_nothing (Some bytes) = refl

map_front : (byte : ℕ) (run : List ℕ) (found : Option (List ℕ)) → option_map (λ more. byte ∷ more) (option_map (λ more. run ++ more) found) ≡ option_map (λ more. (byte ∷ run) ++ more) found
map_front byte run None = refl
map_front byte run (Some bytes) = refl

-- a run is read as it is, before what the rest spells
run_read : (n : ℕ) (text : List ℕ) → list_all is_itself (take n text) ≡ true → bytes_of text ≡ option_map (λ more. take n text ++ more) (bytes_of (drop n text))
run_read zero text plain = map_nothing (bytes_of text)
run_read (suc n) [] plain = refl
run_read (suc n) (byte ∷ text) plain =
    let is = and_parts (is_itself byte) (list_all is_itself (take n text)) plain in
    front_first (byte ∷ text) (omega arith)
    ∙ ap (λ (found : Option (ℕ × List ℕ)). found >>= goes_on) (itself_first byte text is.0)
    ∙ ap (option_map (λ more. byte ∷ more)) (run_read n text is.1)
    ∙ map_front byte (take n text) (bytes_of (drop n text))

-- and it is all, where no byte is behind it
pub all_read : (n : ℕ) (text : List ℕ) → length text ≤ n → list_all is_itself (take n text) ≡ true → bytes_of text ≡ Some text
all_read n text all plain =
    run_read n text plain
    ∙ rw (drop_of_length-le text all) (ap Some (append-nil (take n text) ∙ take_all n text all))

map_behind : (all run : List ℕ) (found : Option (List ℕ)) → option_map (λ more. (all ++ run) ++ more) found ≡ option_map (λ more. all ++ more) (option_map (λ more. run ++ more) found)
map_behind all run None = refl
map_behind all run (Some bytes) = ap Some (append_assoc all run bytes)

-- so it stands behind the bytes so far
pub run_taken : (all longer : List ℕ) (n : ℕ) (text : List ℕ) → longer ≡ all ++ take n text → list_all is_itself (take n text) ≡ true → option_map (λ more. longer ++ more) (bytes_of (drop n text)) ≡ option_map (λ more. all ++ more) (bytes_of text)
run_taken all longer n text is plain =
    ap (λ (l : List ℕ). option_map (λ more. l ++ more) (bytes_of (drop n text))) is
    ∙ map_behind all (take n text) (bytes_of (drop n text))
    ∙ ap (option_map (λ more. all ++ more)) (sym (run_read n text plain))

-- and before all where there were none
pub run_first : (all : List ℕ) (n : ℕ) (text : List ℕ) → all ≡ [] ++ take n text → list_all is_itself (take n text) ≡ true → option_map (λ more. all ++ more) (bytes_of (drop n text)) ≡ bytes_of text
run_first all n text is plain = run_taken [] all n text is plain ∙ sym (map_nothing (bytes_of text))
