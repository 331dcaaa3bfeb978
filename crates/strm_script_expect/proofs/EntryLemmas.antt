-- The entry of a call, by the number of the call on its stream.
use Rattle.std.proofs.Common.{◌≡◌, ℕ, ◌<◌, ◌≤◌, nat_lt, Bool, true, false, Some, None, List, [], length, get_or, slice_get, refl, sym, ap, subst, ◌∙◌, arith}
use Rattle.std.proofs.lemmas.Bool.{ltb-true, ltb-false}
use Rattle.std.proofs.lemmas.List.{get_or_past}
use Rattle.std.proofs.lemmas.Option.{get_or_from_slice_get, slice_get_within}
use Rattle.strm_shared_entry.specs.Entry.{Entry}
use Rattle.strm_script_expect.specs.Unmet.{AreNumbers, entry_at, entry_on, number_on}

module _ {K : Type 0} (owned : List (List (Entry K))) (streams numbers : List ℕ) (call stream number many : ℕ) (as_many : length owned ≡ many) (are : AreNumbers streams many numbers) (its : slice_get streams call ≡ Some stream) (is : slice_get numbers call ≡ Some number) where
  within : call < length streams
  within = slice_get_within streams call stream its

  here : get_or streams call 0 ≡ stream
  here = get_or_from_slice_get streams call stream 0 its

  numbered : stream < many → number ≡ number_on stream streams call
  numbered there =
      sym (get_or_from_slice_get numbers call number 0 is) ∙ are.each call 0 within (subst (λ (s : ℕ). s < many) (sym here) there)
      ∙ ap (λ (s : ℕ). number_on s streams call) here

  found : (b : Bool) → nat_lt stream (length owned) ≡ b → slice_get (get_or owned stream []) number ≡ slice_get (get_or owned stream []) (number_on stream streams call)
  found true there = ap (λ (n : ℕ). slice_get (get_or owned stream []) n) (numbered (omega (arith, ltb-true stream (length owned) there, as_many)))
  found false past =
      let none : get_or owned stream [] ≡ [] = get_or_past owned stream [] (ltb-false stream (length owned) past) in
      ap (λ (l : List (Entry K)). slice_get l number) none ∙ sym (ap (λ (l : List (Entry K)). slice_get l (number_on stream streams call)) none)

  pub entry_is : slice_get (get_or owned stream []) number ≡ entry_at owned streams call
  entry_is = found (nat_lt stream (length owned)) refl ∙ ap (λ at. entry_on owned streams call at) (sym its)
