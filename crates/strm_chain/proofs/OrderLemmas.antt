-- Delivery, moves and settling keep messages from going round, where it stays on which sides a kind answers.
use Rattle.std.proofs.Common.{◌≡◌, ◌∙◌, ℕ, Bool, true, false, Option, Some, None, List, [], ◌∷◌, refl, sym, ap, suc, zero}
use Rattle.std.proofs.Math.Seq.{map-set_same}
use Rattle.std.proofs.lemmas.Option.{get_or_from_slice_get}
use Rattle.strm_msg.specs.Message.{Msg}
use Rattle.strm_msg.specs.declared.words.End.{End}
use Rattle.strm_msg.specs.declared.words.End.TheVariants.{A, B}
use Rattle.strm_msg.specs.declared.words.Side.{Side}
use Rattle.strm_msg.specs.declared.words.Side.TheVariants.{Rd, Wr}
use Rattle.strm_module.specs.declared.turn.Turn.{Turn}
use Rattle.strm_module.specs.declared.turn.Turn.TheVariants.{Serves, Shut, Sends}
use Rattle.strm_module.specs.Kinds.{Meaning, AnswersStay}
use Rattle.strm_module.specs.Module.{is_queued, put_of}
use Rattle.strm_module.specs.declared.shape.Shape.{Shape}
use Rattle.strm_module.proofs.ProcedureLemmas.{put_if}
use Rattle.strm_chain_end.specs.Pair.{QueuePair, list_on, flushed_pair, pair_gets, pair_front, pair_turns, pair_serves, service_turn}
use Rattle.strm_chain_end.specs.End.{EndState, in_drv, pair_at, set_pair, found_gets, end_gets, found_serves, end_serves}
use Rattle.strm_chain_end.specs.Head.{put_at_head}
use Rattle.strm_chain_ends.specs.declared.place.Place.{Place}
use Rattle.strm_chain_ends.specs.Image.{Image, end_of, driven}
use Rattle.strm_chain_ends.specs.Order.{IsOrdered}
use Rattle.strm_chain_ends.proofs.FrameLemmas.{driver_modules}
use Rattle.strm_chain_ends.proofs.TurnLemmas.{head_modules, input_modules, after_shape}
use Rattle.strm_chain_ends.proofs.OrderLemmas.{ways_of, ordered_by, end_ordered}
use Rattle.strm_chain.specs.declared.spot.Spot.{Spot}
use Rattle.strm_chain.specs.Deliver.{deliver}
use Rattle.strm_chain.specs.Service.{Leads}
use Rattle.strm_chain.proofs.StepLemmas.{StepsKeep, delivery_keeps, moves_keep}

same_both : (a b c d : Bool) → a ≡ c → b ≡ d → ◌≡◌ {A = Bool × Bool} (a, b) (c, d)
same_both a b c d p q = ap (λ x. (x, b)) p ∙ ap (λ y. (c, y)) q

-- ---- modules answer as before
module _ {K : Type 0} (means : Meaning K) (stay : AnswersStay means) where
  -- on which sides a kind answers
  abbrev ways_by : K → Bool × Bool
  ways_by kind = (means.answers kind Rd, means.answers kind Wr)

  acts_ways : (kind : K) (side : Side) (m : Msg) → ways_by (means.acts kind side m).kind ≡ ways_by kind
  acts_ways kind side m =
      let after = (means.acts kind side m).kind in
      same_both (means.answers after Rd) (means.answers after Wr) (means.answers kind Rd) (means.answers kind Wr) (stay.acts kind side Rd m) (stay.acts kind side Wr m)

  own_ways : (kind : K) (side : Side) → ways_by (means.own kind side).kind ≡ ways_by kind
  own_ways kind side =
      let after = (means.own kind side).kind in
      same_both (means.answers after Rd) (means.answers after Wr) (means.answers kind Rd) (means.answers kind Wr) (stay.own kind side Rd) (stay.own kind side Wr)

  put_ways : (s : Shape K) (side : Side) (m : Msg) → ways_by (put_of means s side m).shape.kind ≡ ways_by s.kind
  put_ways s side m =
      elim (is_queued s side m) as (λ b. ways_by (put_if means s side m b).shape.kind ≡ ways_by s.kind) [
        | true ↦ refl
        | false ↦ acts_ways s.kind side m
      ]

  gets_ways : (s : QueuePair K) (side : Side) (m : Msg) → ways_by (pair_gets means s side m).pair.shape.kind ≡ ways_by s.shape.kind
  gets_ways s side m =
      let put = put_of means s.shape side m in
      ap (λ (x : Shape K). ways_by x.kind) (after_shape (record (flushed_pair s m.kind) { shape = put.shape }) side put.answer) ∙ put_ways s.shape side m

  front_ways : (s : QueuePair K) (side : Side) (q : List Msg) → ways_by (pair_front means s side q).pair.shape.kind ≡ ways_by s.shape.kind
  front_ways s side [] = refl
  front_ways s side (m ∷ q) = acts_ways s.shape.kind side m

  turns_ways : (s : QueuePair K) (side : Side) (turn : Turn) → ways_by (pair_turns means s side turn).pair.shape.kind ≡ ways_by s.shape.kind
  turns_ways s side Serves = front_ways s side (list_on s side)
  turns_ways s side Shut = refl
  turns_ways s side (Sends band) = own_ways s.shape.kind side

  -- the module that was found is set to one that answers as it did
  set_ways : (xs : List (QueuePair K)) (i : ℕ) (old new : QueuePair K) → pair_at xs i ≡ Some old → ways_by new.shape.kind ≡ ways_by old.shape.kind → ways_of means (set_pair xs i new) ≡ ways_of means xs
  set_ways xs zero old new at same = refl
  set_ways xs (suc i) old new at same =
      map-set_same (λ (s : QueuePair K). ways_by s.shape.kind) xs i new old (same ∙ ap (λ (s : QueuePair K). ways_by s.shape.kind) (sym (get_or_from_slice_get xs i old old at)))

  found_gets_ways : (e : EndState K) (i : ℕ) (o : Option (QueuePair K)) (side : Side) (m : Msg) → pair_at e.modules i ≡ o → ways_of means (found_gets means e i o side m).state.modules ≡ ways_of means e.modules
  found_gets_ways e i None side m at = refl
  found_gets_ways e i (Some s) side m at = set_ways e.modules i s (pair_gets means s side m).pair at (gets_ways s side m)

  found_serves_ways : (e : EndState K) (i : ℕ) (o : Option (QueuePair K)) (side : Side) → pair_at e.modules i ≡ o → ways_of means (found_serves means e i o side).state.modules ≡ ways_of means e.modules
  found_serves_ways e i None side at = refl
  found_serves_ways e i (Some s) side at =
      set_ways e.modules i s (pair_serves means s side).pair at (turns_ways s side (service_turn means s.shape side))

  -- ---- so each step of a message keeps the order
  abbrev KeepsOrder : Image K → Image K → Type 0
  KeepsOrder old new = IsOrdered means old → IsOrdered means new

  driven_ordered : (image : Image K) (e : End) (m : Msg) → KeepsOrder image (driven image e m)
  driven_ordered image A m =
      ordered_by means image (driven image A m) refl (ap (ways_of means) (driver_modules image.driver A image.a m)) (ap (ways_of means) (input_modules image.driver image.b m.kind))
  driven_ordered image B m =
      ordered_by means image (driven image B m) refl refl (ap (ways_of means) (driver_modules image.driver B image.b m))

  order_steps : StepsKeep means KeepsOrder
  order_steps =
      record {
        same = λ image ordered. ordered;
        trans = λ old mid new x y ordered. y (x ordered);
        heads = λ image e m. end_ordered means image e (put_at_head (end_of image e) m).state (ap (ways_of means) (head_modules (end_of image e) m));
        drives = driven_ordered;
        puts = λ image e i side m.
            end_ordered means image e (end_gets means (end_of image e) i side m).state (found_gets_ways (end_of image e) i (pair_at (end_of image e).modules i) side m refl);
        serves = λ image e i side.
            end_ordered means image e (end_serves means (end_of image e) i side).state (found_serves_ways (end_of image e) i (pair_at (end_of image e).modules i) side refl);
        takes = λ image e q. end_ordered means image e (in_drv (end_of image e) q) refl;
      }

  -- a message that is handed in anywhere
  pub delivered_ordered : (image : Image K) (spot : Spot) (m : Msg) → IsOrdered means image → IsOrdered means (deliver means image spot m)
  delivered_ordered = delivery_keeps means KeepsOrder order_steps

  -- any moves, one after another
  pub led_ordered : (old : Image K) (moves : List Place) (new : Image K) → Leads means old moves new → IsOrdered means old → IsOrdered means new
  led_ordered = moves_keep means KeepsOrder order_steps
