-- Moves one after the other, and what each of them keeps.
use Rattle.std.proofs.Common.{◌≡◌, true, List, [], ◌∷◌, ◌++◌, refl, sym, ◌∙◌, ap}
use Rattle.strm_module.specs.Kinds.{Meaning}
use Rattle.strm_chain_end.specs.End.{EndState}
use Rattle.strm_chain_end.specs.Modules.{SameIds, SameEnd}
use Rattle.strm_chain_end.specs.declared.record.Record.{Record}
use Rattle.strm_chain_ends.specs.declared.place.Place.{Place}
use Rattle.strm_chain_ends.specs.Image.{Image}
use Rattle.strm_chain_ends.specs.Flow.{may}
use Rattle.strm_chain.specs.Service.{Leads, move}
use Rattle.strm_chain_ends.specs.Same.{SameModules}

-- one more move behind those that were made
pub Leads-snoc : {K : Type 0} (means : Meaning K) (places : List Place) (old mid new : Image K) (place : Place) → Leads means old places mid → may means mid place ≡ true → new ≡ move means mid place → Leads means old (places ++ place ∷ []) new
Leads-snoc means [] old mid new place l m n = (ap (λ i. may means i place) (sym l) ∙ m, n ∙ ap (λ i. move means i place) l)
Leads-snoc means (p ∷ places) old mid new place l m n = (l.0, Leads-snoc means places (move means old p) mid new place l.1 m n)

ids_trans : (old mid new : Record) → SameIds old mid → SameIds mid new → SameIds old new
ids_trans old mid new x y =
    record {
      next = y.next ∙ x.next;
      pending = y.pending ∙ x.pending;
      kept = λ none. y.kept (x.pending ∙ none) ∙ x.kept none;
      asked = y.asked ∙ x.asked;
      answer = λ none. y.answer (x.asked ∙ none) ∙ x.answer none;
    }

pub end_trans : {K : Type 0} (old mid new : EndState K) → SameEnd old mid → SameEnd mid new → SameEnd old new
end_trans old mid new x y =
    record {
      is_open = y.is_open ∙ x.is_open;
      drv_marks = y.drv_marks ∙ x.drv_marks;
      modules = y.modules ∙ x.modules;
      ids = ids_trans old.state mid.state new.state x.ids y.ids;
    }

pub same_end : {K : Type 0} (e : EndState K) → SameEnd e e
same_end e =
    record { is_open = refl; drv_marks = refl; modules = refl; ids = record { next = refl; pending = refl; kept = λ _. refl; asked = refl; answer = λ _. refl } }

pub same_trans : {K : Type 0} (old mid new : Image K) → SameModules old mid → SameModules mid new → SameModules old new
same_trans old mid new x y =
    record {
      driver = y.driver ∙ x.driver;
      broken = y.broken ∙ x.broken;
      on_a = end_trans old.a mid.a new.a x.on_a y.on_a;
      on_b = end_trans old.b mid.b new.b x.on_b y.on_b;
    }

pub same_image : {K : Type 0} (image : Image K) → SameModules image image
same_image image = record { driver = refl; broken = refl; on_a = same_end image.a; on_b = same_end image.b }

-- moves lead to an image that is as that to which they lead
pub leads_to : {K : Type 0} (means : Meaning K) (places : List Place) (old mid new : Image K) → new ≡ mid → Leads means old places mid → Leads means old places new
leads_to means places old mid new is l = rw is l

pub same_to : {K : Type 0} (old mid new : Image K) → new ≡ mid → SameModules old mid → SameModules old new
same_to old mid new is s = rw is s
