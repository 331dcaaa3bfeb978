-- One element more of a list that is made from another, and one element that is written back.
use Rattle.std.proofs.Common.{◌≡◌, ◌<◌, ◌+◌, ℕ, zero, suc, Option, List, [], ◌∷◌, ◌++◌, map, length, take, drop, get_or, add-one, ap, sym, refl, ◌∙◌, Vec, Global, slice_index_or, slice_set}
use Rattle.std.specs.List.{flat_map}
use Rattle.std.specs.Vec.{with_items}
use Rattle.std.proofs.Math.Seq.{take-append_seam, take-suc}
use Rattle.std.proofs.lemmas.List.{append-nil, map-append}
use Rattle.std.proofs.lemmas.List.Concat.{flat_map-append}
use Rattle.strm_run_input.specs.declared.run_link.RunLink.{RunLink}
use Rattle.strm_script_parse.specs.declared.plan.LinkDecl.{LinkDecl}
use Rattle.strm_script_parse.specs.RunInput.{run_link, run_links}

-- what was made of the elements so far, and of one more
pub one_more : {B C : Type 0} (g : B → C) (made : List C) (seen : List B) (new : C) (one : B) → made ≡ map g seen → new ≡ g one → made ++ new ∷ [] ≡ map g (seen ++ one ∷ [])
one_more g made seen new one so_far same =
    ap (λ l. l ++ new ∷ []) so_far ∙ ap (λ c. map g seen ++ c ∷ []) same ∙ sym (map-append g seen (one ∷ []))

-- the same where what is made is the elements themselves
pub one_made : {A : Type 0} (made seen : List A) (new one : A) → made ≡ seen → new ≡ one → made ++ new ∷ [] ≡ seen ++ one ∷ []
one_made made seen new one so_far same = ap (λ l. l ++ new ∷ []) so_far ∙ ap (λ c. seen ++ c ∷ []) same

-- an element is replaced by one of which the same is made
written_back : {X A : Type 0} (f : X → List A) (xs : List X) (i : ℕ) (y d : X) → f y ≡ f (slice_index_or xs i d) → flat_map f (slice_set xs i y) ≡ flat_map f xs
written_back f [] i y d same = refl
written_back f (x ∷ xs) zero y d same = ap (λ l. l ++ flat_map f xs) same
written_back f (x ∷ xs) (suc i) y d same = ap (λ l. f x ++ l) (written_back f xs i y d same)

module _ {A : Type 0} where
  abbrev items_of : Vec A Global → List A
  items_of v = v.items

  -- a vector whose elements are written over by themselves
  refilled : (v : Vec A Global) (written : List A) → written ≡ v.items → items_of (with_items v written) ≡ v.items
  refilled v written same =
      ap (λ l. take v.len (l ++ drop (length l) v.items)) same ∙ ap (λ n. take n (v.items ++ drop (length v.items) v.items)) v.ok.0 ∙ take-append_seam v.items (drop (length v.items) v.items)

  -- the same of one among others
  pub same_blocks : (blocks : List (Vec A Global)) (i : ℕ) (d : Vec A Global) (written : List A) → written ≡ items_of (slice_index_or blocks i d) → flat_map items_of (slice_set blocks i (with_items (slice_index_or blocks i d) written)) ≡ flat_map items_of blocks
  same_blocks blocks i d written same = written_back items_of blocks i (with_items (slice_index_or blocks i d) written) d (refilled (slice_index_or blocks i d) written same)

-- the same where both are seen
pub one_more_seen : {X B C : Type 0} (f : X → C) (g : B → C) (made : List X) (seen : List B) (new : X) (one : B) → map f made ≡ map g seen → f new ≡ g one → map f (made ++ new ∷ []) ≡ map g (seen ++ one ∷ [])
one_more_seen f g made seen new one so_far same = map-append f made (new ∷ []) ∙ one_more g (map f made) seen (f new) one so_far same

-- one link more, if it has a carrier
pub one_carried : (links : List LinkDecl) (i : ℕ) (link : LinkDecl) (made all : List RunLink) (by : Option ℕ) → i < length links → link ≡ get_or links i link → link.by ≡ by → made ≡ run_links (take i links) → all ≡ made ++ run_link link by → all ≡ run_links (take (i + 1) links)
one_carried links i link made all by within is its so_far more =
    let first : take (i + 1) links ≡ take i links ++ link ∷ [] =
    ap (λ (n : ℕ). take n links) (add-one i) ∙ take-suc links i link within ∙ ap (λ (x : LinkDecl). take i links ++ x ∷ []) (sym is) in
    more
    ∙ ap (λ (o : Option ℕ). made ++ run_link link o) (sym its)
    ∙ ap (λ (l : List RunLink). l ++ run_link link link.by) so_far
    ∙ ap (λ (l : List RunLink). run_links (take i links) ++ l) (sym (append-nil (run_link link link.by)))
    ∙ sym (flat_map-append (λ (link : LinkDecl). run_link link link.by) (take i links) (link ∷ []))
    ∙ sym (ap run_links first)
