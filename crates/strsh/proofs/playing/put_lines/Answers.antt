use Rattle.std.proofs.Common.{◌≡◌, ℕ, ◌+◌, ◌<◌, Option, List, [], ◌∷◌, ◌++◌, length, take, get_or, sym, ap, subst, ◌∙◌, add-one}
use Rattle.std.specs.Io.KnownBytes.{Appends}
use Rattle.std.specs.List.{flat_map}
use Rattle.std.proofs.Math.Seq.{take-suc}
use Rattle.std.proofs.lemmas.List.{append-nil}
use Rattle.std.proofs.lemmas.List.Concat.{flat_map-append}
use Rattle.strm_script_text.proofs.WriteLemmas.{appends_then}
use Rattle.strm_script_expect.specs.Unmet.{missed_text, missed_view}
use Rattle.strsh_options.specs.Fault.{line}
use Rattle.strsh.proofs.playing.put_lines.Goals as goal

-- one line more
line_more : {X : Type 0} (f : X → List ℕ) (xs : List X) (i : ℕ) (x : X) (before between after : Option (List ℕ)) → i < length xs → x ≡ get_or xs i x → Appends before between (flat_map f (take i xs)) → Appends between after (f x) → Appends before after (flat_map f (take (i + 1) xs))
line_more {X} f xs i x before between after within is so_far one =
    let next : take (i + 1) xs ≡ take i xs ++ x ∷ [] = ap (λ (n : ℕ). take n xs) (add-one i) ∙ take-suc xs i x within ∙ ap (λ (y : X). take i xs ++ y ∷ []) (sym is) in
    let text : flat_map f (take (i + 1) xs) ≡ flat_map f (take i xs) ++ f x = ap (λ (l : List X). flat_map f l) next ∙ flat_map-append f (take i xs) (x ∷ []) ∙ ap (λ (t : List ℕ). flat_map f (take i xs) ++ t) (append-nil (f x)) in
    subst (λ (t : List ℕ). Appends before after t) (sym text) (appends_then before between after (flat_map f (take i xs)) (f x) so_far one)

pub loop-one-preserved : goal.loop-one-preserved
loop-one-preserved g c =
    line_more (λ one. line (missed_text (missed_view one))) c.args.missed.now c.loop-one.one-index c.one-item.result _ _ _ c.loop-one-test.true c.one-item.is c.loop-one.invariant c.in_ok-put_line.ensures
