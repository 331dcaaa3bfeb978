-- Settling ends: where a vocabulary is orderly and a stream is ordered, and with the built-in kinds always.
use Rattle.std.proofs.Common.{◌≡◌, ◌&&◌, ◌||◌, ℕ, Bool, true, false, List, [], ◌∷◌, refl}
use Rattle.std.proofs.lemmas.Bool.{or_from}
use Rattle.strm_chain_ends.proofs.CalmLemmas.{le_same}
use Rattle.strm_msg.specs.Kind.{is_high}
use Rattle.strm_msg.specs.Message.{Msg}
use Rattle.strm_msg.specs.declared.words.Side.{Side}
use Rattle.strm_msg.specs.declared.words.Side.TheVariants.{Rd}
use Rattle.strm_module.specs.declared.kind.Kind.{Kind}
use Rattle.strm_module.specs.declared.kind.Kind.TheVariants.{Tee}
use Rattle.strm_module.specs.Builtin.{builtin}
use Rattle.strm_module.specs.Kinds.{Meaning}
use Rattle.strm_module.proofs.AnswerLemmas.{builtin_stays}
use Rattle.strm_chain_end.specs.Pair.{QueuePair}
use Rattle.strm_chain_end.specs.Order.{some_kind, stands_over}
use Rattle.strm_chain_ends.specs.Image.{Image}
use Rattle.strm_chain_ends.specs.Order.{IsOrdered}
use Rattle.strm_chain_settling.specs.Ends.{Ends}
use Rattle.strm_chain_settling.specs.Orderly.{are_high, IsOrderly}
use Rattle.strm_chain_settling.proofs.SettleLemmas.{ranked_ends}
use Rattle.strm_chain_settling.proofs.OrderLemmas.{answers_up, answers_down, ranking, ranking_most, ranking_bounded, ranking_ranked}
use Rattle.strm_chain_settling.proofs.BuiltinLemmas.{builtin_ups}

pub settling_ends : {K : Type 0} (means : Meaning K) (debt : K → Side → ℕ) → IsOrderly means debt → (image : Image K) → IsOrdered means image → Ends means image
settling_ends means debt laws image ordered =
    ranked_ends (ranking means debt image) laws (ranking_ranked means debt image ordered) (ranking_most means debt image) (ranking_bounded means debt image) image
    (record { driver = refl; roles = λ e. refl })

-- ---- where no kind answers what comes up, every stream is ordered
not_first : (a b : Bool) → a ≡ false → (a && b) ≡ false
not_first true b p = absurd (let no : true ≡ false = p in cc)
not_first false b p = refl

module _ {K : Type 0} (means : Meaning K) (none : (kind : K) → means.answers kind Rd ≡ false) where
  none_answers : (xs : List (QueuePair K)) → some_kind (answers_up means) xs ≡ false
  none_answers [] = refl
  none_answers (x ∷ xs) = or_from (answers_up means x.shape.kind) (some_kind (answers_up means) xs) (none x.shape.kind) (none_answers xs)

  none_over : (xs : List (QueuePair K)) → stands_over (answers_up means) (answers_down means) xs ≡ false
  none_over [] = refl
  none_over (x ∷ xs) =
      or_from (answers_up means x.shape.kind && some_kind (answers_down means) xs) (stands_over (answers_up means) (answers_down means) xs)
      (not_first (answers_up means x.shape.kind) (some_kind (answers_down means) xs) (none x.shape.kind))
      (none_over xs)

  pub unanswered_ordered : (image : Image K) → IsOrdered means image
  unanswered_ordered image =
      record {
        on_a = none_over image.a.modules;
        on_b = none_over image.b.modules;
        echo = λ is. none_answers image.a.modules;
        loops = λ is. not_first (some_kind (answers_up means) image.a.modules) (some_kind (answers_up means) image.b.modules) (none_answers image.a.modules);
      }

-- ---- the built-in kinds, which owe nothing
abbrev no_debt : Kind → Side → ℕ
no_debt kind side = 0

builtin_tame : (kind : Kind) (side : Side) (m : Msg) → is_high m.kind ≡ true → are_high (builtin.acts kind side m).outs ≡ true
builtin_tame kind side m high = rw high (rw high refl)

pub builtin_orderly : IsOrderly builtin no_debt
builtin_orderly =
    record {
      tame = builtin_tame;
      tame_debt = λ kind side owing m high. le_same 0;
      unanswered = λ kind side m is. le_same 0;
      unanswered_ups = builtin_ups;
      unanswered_own = λ kind band turn is. cc;
      owns = λ kind side band turn. cc;
      owns_alone = λ kind side band turn. cc;
      stays = builtin_stays;
    }

pub builtin_unanswered : (kind : Kind) → builtin.answers kind Rd ≡ false
builtin_unanswered Tee = refl
builtin_unanswered kind = refl

pub builtin_settles : (image : Image Kind) → Ends builtin image
builtin_settles image = settling_ends builtin no_debt builtin_orderly image (unanswered_ordered builtin builtin_unanswered image)
