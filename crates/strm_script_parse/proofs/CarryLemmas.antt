-- A carry line, as the code reads it.
use Rattle.std.proofs.Common.{◌≡◌, ℕ, zero, suc, List, [], ◌∷◌, ◌++◌, length, map, replicate, take, drop, Vec, Global, Result, Ok, refl, sym, ap, subst, ◌∙◌}
use Rattle.std.specs.Vec.{with_items}
use Rattle.std.proofs.Math.Seq.{take-append_seam}
use Rattle.std.proofs.lemmas.List.{length-map, map-append}
use Rattle.strm_module.specs.declared.shape.Shape.{Shape}
use Rattle.strm_run_input.specs.declared.script.ScriptCall.{ScriptCall}
use Rattle.strm_script_words.specs.Fault.{◌>>=◌}
use Rattle.strm_script_words.specs.declared.fault.Cause.{Cause}
use Rattle.strm_script_parse.specs.Carries.{take_call}
use Rattle.strm_script_parse.specs.Plan.{Call, Process, Linked, Partial, In_process, call_view, link_view, process_view, process_place}
use Rattle.strm_script_parse.specs.Reading.{Carrying, carried_by, carry_at, carry_onto, take_from, with_carries}
use Rattle.strm_script_parse.specs.declared.plan.LinkDecl.{LinkDecl}
use Rattle.strm_script_parse.specs.declared.plan.ProcessDecl.{ProcessDecl}

-- the takes, as they are seen
takes_seen : {K : Type 0} (many wire : ℕ) → ◌≡◌ {A = List (Call K)} (map call_view (replicate many (take_call wire))) (replicate many (take_from wire))
takes_seen zero wire = refl
takes_seen {K} (suc many) wire = ap (λ (calls : List (Call K)). take_from wire ∷ calls) (takes_seen {K = K} many wire)

carried_long : (process : ℕ) (links : List Linked) (number : ℕ) → length (carried_by process links number) ≡ length links
carried_long process [] number = refl
carried_long process (link ∷ links) zero = refl
carried_long process (link ∷ links) (suc number) = ap suc (carried_long process links number)

-- the links that were written over those of a vector are those that it has then
pub links_written : (process number : ℕ) (v : Vec LinkDecl Global) (written : List LinkDecl) → map link_view written ≡ carried_by process (map link_view v.items) number → map link_view (with_items v written).items ≡ carried_by process (map link_view v.items) number
links_written process number v written is =
    let many : length written ≡ length v.items =
    sym (length-map written link_view) ∙ ap (λ l. length l) is ∙ carried_long process (map link_view v.items) number ∙ length-map v.items link_view in
    ap (λ n. map link_view (take n (written ++ drop (length written) v.items))) (v.ok.0 ∙ sym many)
    ∙ ap (map link_view) (take-append_seam written (drop (length written) v.items))
    ∙ is

module _ {K : Type 0} (d : Partial K) (texts : List (List ℕ)) where
  carries_done : (process : Process K) (links after : List Linked) (by calls : ℕ) (carries : Carrying) (made : List (Call K)) → links ≡ d.links → by ≡ length d.processes → calls ≡ length process.calls → carry_at links by calls texts ≡ Ok carries → after ≡ carried_by by d.links carries.link → made ≡ process.calls ++ replicate carries.many (take_from carries.from) → carry_onto d process texts ≡ Ok (record d { links = after; place = In_process (record process { calls = made }) })
  unfolding carry_onto
  carries_done process links after by calls carries made one two three read set more =
      let whole : carry_at d.links (length d.processes) (length process.calls) texts ≡ Ok carries =
      ap (λ (l : List Linked). carry_at l (length d.processes) (length process.calls) texts) (sym one)
      ∙ ap (λ (n : ℕ). carry_at links n (length process.calls) texts) (sym two)
      ∙ ap (λ (n : ℕ). carry_at links by n texts) (sym three)
      ∙ read in
      ap (λ (r : Result Carrying Cause). r >>= λ carries. Ok (with_carries d process carries)) whole
      ∙ ap (λ (n : ℕ). Ok (record d { links = carried_by n d.links carries.link; place = In_process (record process { calls = process.calls ++ replicate carries.many (take_from carries.from) }) })) (sym two)
      ∙ ap (λ (l : List Linked). Ok (record d { links = l; place = In_process (record process { calls = process.calls ++ replicate carries.many (take_from carries.from) }) })) (sym set)
      ∙ ap (λ (l : List (Call K)). Ok (record d { links = after; place = In_process (record process { calls = l }) })) (sym more)

  pub carry_read : (was now : ProcessDecl (Shape K)) (links after : List LinkDecl) (by calls : ℕ) (carries : Carrying) (made : List (ScriptCall (Shape K))) → now ≡ was → map link_view links ≡ d.links → by ≡ length d.processes → calls ≡ length was.calls → carry_at (map link_view links) by calls texts ≡ Ok carries → map link_view after ≡ carried_by by d.links carries.link → made ≡ now.calls ++ replicate carries.many (take_call carries.from) → carry_onto d (process_view was) texts ≡ Ok (record d { links = map link_view after; place = process_place (record now { calls = made }) })
  carry_read was now links after by calls carries made same one two three read set more =
      subst (λ (p : ProcessDecl (Shape K)). made ≡ p.calls ++ replicate carries.many (take_call carries.from) → carry_onto d (process_view was) texts ≡ Ok (record d { links = map link_view after; place = process_place (record p { calls = made }) })) (sym same)
      (λ more. carries_done (process_view was) (map link_view links) (map link_view after) by calls carries (map call_view made) one two (three ∙ sym (length-map was.calls call_view)) read set
      (ap (map call_view) more ∙ map-append call_view was.calls (replicate carries.many (take_call carries.from)) ∙ ap (λ (l : List (Call K)). map call_view was.calls ++ l) (takes_seen {K = K} carries.many carries.from)))
      more
