-- What a `&` to a note gives. A note has one machine value, and what it owns can be had twice; so a `&` to it
-- can be opened, and a copy of what it owns taken out.
use Rattle.std.proofs.Common.{◌≡◌, List, [], ◌∷◌, ◌++◌, ap, ◌∙◌}
use seplogic.Ra.Ura.{Ura}
use mir.Val.{Val, vstruct, of_list}
use base.Logic.{sep}
use base.Fml.{Share, Fml}
use types.Logic.{Logic, sem}
use types.Kit.{‵, ◌⊛◌, ◌$◌, !, qed, move, use1, split, fsplit, fjoin, done}
use denote.RattleType.{RattleType}
use denote.Laws.{Is, Copy}
use denote.Memory.{part_at}
use denote.Shadow.{pure_l, pure_i}
use denote.Sharing.{one}
use denote.SharingLaws.{one_shr_laws}
use denote.Opens.{Opens, Cuts-Halves, Opened-one, Twice-of}
use denote.Copied.{told_Cuts}
use Rattle.once_cell.specs.Once.{noted}
use Rattle.once_cell.proofs.Notes as notes
use Rattle.once_cell.proofs.Notes.{Note, token}

module _ {M : Type 1} {𝓤 : Ura M} (𝓛 : Logic 𝓤) (T : RattleType) where
  -- the one machine value of a note
  pub one_value : (note : (Note 𝓛 T).Denot) (values : List Val) → Is (Note 𝓛 T) note values → values ≡ token ∷ []
  one_value note values is = is.0.1.0 ∙ ap (λ (fields : List Val). vstruct (of_list (fields ++ [])) ∷ []) is.0.1.1.0.1.0

  -- what it owns, twice
  pub twice : Copy 𝓛 (Note 𝓛 T)
  twice = record {
    twice = λ note values.
        let shape : Fml = (denote.Struct.Struct.Struct (denote.Struct.Owning.shape (Rattle.once_cell.specs.contracts.race.note.Note.the_type T))).own_val (tt, tt) values in
        let known : Fml = noted T note.cell note.known in
        let owned : Fml = (Note 𝓛 T).own_val note values in
        qed 𝓛 (‵ owned ∷ []) {P = sep 𝓤 (sem 𝓛 owned) (sem 𝓛 owned)} (
        fsplit ! $ pure_l ! shape (λ is.
        use1 𝓛 (‵ known ⊛ ‵ known) (notes.noted_twice 𝓛 T note.cell note.known) $ split ! $
        pure_i ! shape (λ parts. (tt, ((λ more. (tt, tt)), tt))) is $ fjoin ! $ move ! (1 ∷ []) $
        pure_i ! shape (λ parts. (tt, ((λ more. (tt, tt)), tt))) is $ fjoin ! $ done !)
        );
  }

  -- a `&` to it can be opened
  pub opens : Opens 𝓛 (Note 𝓛 T)
  opens note block offset =
      let shared : Share → Fml = λ q. part_at (Note 𝓛 T) q note block offset in (
        Opened-one 𝓛 shared (Cuts-Halves 𝓛 shared (told_Cuts 𝓛 (Note 𝓛 T) (λ _. token ∷ []) one_value twice note block offset)),
        Twice-of 𝓛 (one shared) (one_shr_laws shared),
      )
