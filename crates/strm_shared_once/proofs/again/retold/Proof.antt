-- A `&` to a note is opened, what the note owns is taken twice, and the other note, which has no bits of its
-- own, leaves with the second.
use Rattle.std.proofs.Common.{◌≡◌, ℕ, List, [], ◌∷◌, ◌++◌, refl, sym, subst}
use mir.Syntax.{a_type}
use mir.Val.{Val, vptr}
use mir.MapTy.{inst_fn}
use base.Logic.{SProp, ent, emp, id⊢}
use base.Fml.{Lft, Share, Fml, ftrue, fsep, flft}
use prog.Wp.{WpFn}
use types.Kit.{‵, raw, ◌⊛◌, ◌$◌, ◌∵◌, !, qed, by, move, keep, split, join, fsplit, fsplit3, fjoin, suffices, use0, use1}
use types.Run.{of_opd, returns, enter}
use types.ByLocal.{alloc_all, pass_all, free_all, look_at, get, sets}
use contract.Monad.{fact, fact_i}
use contract.Running.{tables}
use denote.Builtin.{RefOf}
use denote.Exit.{yes, no}
use denote.RattleType.{RattleType, owns}
use denote.Signature.{types_at, plain}
use denote.Steps.{nothing, looks, shuts}
use denote.Param.{param, layouts}
use denote.Triple.Walked.{Stays, stay_dropped, walk_of, Goes-dropped}
use Rattle.once_cell.specs.Once.{noted}
use Rattle.std.proofs.raw_atomic.Walks.{proved_at, leaves}
use Rattle.once_cell.proofs.Notes as notes
use Rattle.once_cell.proofs.Notes.{Note, token}
use Rattle.strm_shared_once.proofs.Shared as shared
use Rattle.strm_shared_once.specs.contracts.again.retold.{ended, clauses}
use Rattle.strm_shared_once.specs.contracts.again.retold.Key.{name as #self}
use Rattle.strm_shared_once.proofs.again.retold.Statement.{statement}
use Rattle.strm_shared_once.proofs.again.retold.Code as code

pub retold_spec : {M : Type 1} → statement M
retold_spec 𝓤 𝓛 𝓜 𝓡 wired T L =
    let H = 𝓛.H in let 𝓣 = tables 𝓤 H 𝓜 𝓡 𝓡.env in let R : RattleType = param 0 T in let En = ended T in let c = clauses T 𝓛 𝓜.mem 𝓡.returns in
    let inst = layouts (a_type ∷ []) (T, tt) in let fn = inst_fn inst code.function in
    let hs : Stays En.signature.params En.kept = (stay_dropped (RefOf (0 ∷ []) tt (plain (λ _. Note 𝓛 R)) (λ _. tt)) yes, (stay_dropped (plain (λ _. Note 𝓛 R)) no, tt)) in
    proved_at 𝓛 En hs c 𝓜 𝓡 (Goes-dropped 𝓛 2 (RefOf (0 ∷ []) tt (plain (λ _. Note 𝓛 R)) (λ _. tt)) yes (λ κs x f. refl), (Goes-dropped 𝓛 2 (plain (λ _. Note 𝓛 R)) no (λ κs x f. refl), tt)) (#self inst) fn (code.unfolded 𝓤 H 𝓜 𝓡 wired (T, tt)) (λ z are.
    let κs = z.0.0 in let qs = z.0.1 in let Post : Val → SProp 𝓤 = (walk_of 𝓛 En hs c).post z in let Run : List Val → SProp 𝓤 = λ ws. WpFn 𝓤 H 𝓣.C 𝓣.Λ fn ws Post in
    let κ : Lft = κs.0 in let q : Share = qs.0 in let b : ℕ = z.0.3.0.ref_ptr.0 in let o : ℕ = z.0.3.0.ref_ptr.1 in let n = z.0.3.0.now in let x = z.0.3.1.0 in
    let K : Fml = noted R n.cell n.known in let r : (Note 𝓛 R).Denot = record { marker = x.marker; cell = n.cell; known = n.known } in let Told : Type 0 = (n.cell ≡ n.cell) × (n.known ≡ n.known) in
    let Vs : List Val = vptr b o ∷ token ∷ [] in let is = shared.one_value 𝓛 R x z.0.4.1.0 are.1.0 in
    qed 𝓛 (((‵ (flft κ q) ⊛ ‵ (fsep (flft κs.1.0 qs.1.0) ftrue)) ⊛ ‵ (owns (types_at En.signature.params κs) z.0.3 z.0.4)) ∷ raw ((c κs z.0.3).requires z.1) ∷ []) ∵
    split ! $ split ! $ move ! (2 ∷ []) $ fsplit3 ! $ fsplit ! $ keep ! (1 ∷ 4 ∷ 5 ∷ []) $
    suffices ! (Run Vs) (subst (λ (us : List Val). ent 𝓤 (Run Vs) (Run us)) (sym (λ i. are.0.0 i ++ (is i ++ []))) (id⊢ 𝓤 (Run Vs))) $
    enter ! 𝓣.C 𝓣.Λ fn Vs Post $ alloc_all ! (λ l. pass_all ! refl ((tt, tt), ((tt, (tt, tt)), tt)) $
    looks ! tt (Note 𝓛 R) (shared.opens 𝓛 R) n b o (λ q' vs. move ! (1 ∷ []) $ fsplit ! $ move ! (1 ∷ []) $ use1 𝓛 (‵ K ⊛ ‵ K) (notes.noted_twice 𝓛 R n.cell n.known) $ split ! $ move ! (2 ∷ 0 ∷ []) $ fjoin ! $ move ! (2 ∷ 0 ∷ 3 ∷ []) $ shuts ! tt (Note 𝓛 R) q' n vs b o $
    -- left: the lifetime's token, what the note knows, the `&`, the other lifetime's token
    sets ! (of_opd ! (get ! refl)) refl (tt, (tt, tt)) $ move ! (1 ∷ []) $ use0 𝓛 (‵ (notes.Data 𝓛 R)) (notes.note_made 𝓛 R) $ fjoin ! $ move ! (1 ∷ 3 ∷ []) $ join ! $
    use0 𝓛 (raw (fact 𝓤 Told)) (fact_i 𝓤 Told (emp 𝓤) (refl, refl)) $ nothing ! $ nothing ! $ fjoin ! $ nothing ! $ fjoin ! $
    returns ! (look_at ! 0 refl) $ free_all ! refl $ keep ! (2 ∷ 0 ∷ 3 ∷ 1 ∷ []) $ by ! (leaves 𝓛 En hs c z token r (tt, (tt, tt)) (tt, (tt, tt))))))
