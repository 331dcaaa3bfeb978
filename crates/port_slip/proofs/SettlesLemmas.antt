-- Each sending of SLIP's own makes what is kept shorter, so service ends.
use Rattle.std.proofs.Common.{◌≡◌, ◌<◌, ◌≤◌, ℕ, zero, suc, Bool, true, false, ◌&&◌, cond, Option, Some, None, List, [], ◌∷◌, length, option_map, is_some, refl, ap, sym, ◌∙◌, arith, length-take}
use Rattle.std.proofs.lemmas.Bool.{and_from}
use Rattle.strm_chain_settling.proofs.ModuleLemmas.{data_low}
use Rattle.strm_chain_ends.proofs.CalmLemmas.{le_same}
use Rattle.strm_msg.specs.Kind.{is_high}
use Rattle.strm_msg.specs.Message.{Msg}
use Rattle.strm_msg.specs.declared.kind.MsgKind.{MsgKind}
use Rattle.strm_msg.specs.declared.kind.MsgKind.TheVariants.{MData, MFlush, MHangup}
use Rattle.strm_msg.specs.declared.words.Side.{Side}
use Rattle.strm_msg.specs.declared.words.Side.TheVariants.{Rd, Wr}
use Rattle.strm_module.specs.declared.turn.Turn.TheVariants.{Serves, Sends}
use Rattle.strm_chain_ends.specs.Image.{Image}
use Rattle.strm_chain_settling.specs.Ends.{Ends}
use Rattle.strm_chain_settling.specs.Orderly.{are_high, ups_are_high, other_side, IsOrderly}
use Rattle.strm_chain_settling.proofs.SettlingLemmas.{settling_ends, unanswered_ordered, builtin_orderly, builtin_unanswered}
use Rattle.strm_chain_settling.proofs.BuiltinLemmas.{builtin_ups}
use Rattle.port_slip.specs.Frame.{is_end, cut, begun, holds_frame, received}
use Rattle.port_slip.specs.Slip.{kept_after, slip_action, slip_acts, slip_turn, slip_own, slip}
use Rattle.port_slip.specs.declared.kinds.SlipKind.{SlipKind}
use Rattle.port_slip.specs.declared.kinds.SlipKind.TheVariants.{Builtin, Slip}
use Rattle.port_slip.proofs.AnswerLemmas.{slip_stays}
use Rattle.port_slip.proofs.PieceLemmas.{PairOfLists, reading}

-- ---- what is kept grows shorter

-- what a side may still send is in what is kept, and each sending takes bytes of it
abbrev bytes_kept : SlipKind → Side → ℕ
bytes_kept (Builtin kind) side = 0
bytes_kept (Slip bytes band) Rd = length bytes
bytes_kept (Slip bytes band) Wr = 0

begun_short : (xs : List ℕ) → length (begun xs) ≤ length xs
begun_short [] = le_same 0
begun_short (x ∷ xs) =
    elim (is_end x) as (λ (e : Bool). length (cond e (begun xs) (x ∷ xs)) ≤ length (x ∷ xs)) [
      | true ↦ omega (arith, begun_short xs)
      | false ↦ le_same (length (x ∷ xs))
    ]

-- what is behind an END is shorter than what it stands in
abbrev IsShorter : ℕ → Option PairOfLists → Type 0
IsShorter n None = Unit {0}
IsShorter n (Some c) = length c.1 < n

map_shorter : (x n : ℕ) (o : Option PairOfLists) → IsShorter n o → IsShorter (suc n) (option_map (λ (c : PairOfLists). let d : PairOfLists = (x ∷ c.0, c.1) in d) o)
map_shorter x n None h = tt
map_shorter x n (Some c) h = omega (arith, h)

cut_shorter : (xs : List ℕ) → IsShorter (length xs) (cut xs)
cut_shorter [] = tt
cut_shorter (x ∷ xs) =
    elim (is_end x) as (λ (e : Bool). IsShorter (length (x ∷ xs)) (cond e (Some ([], xs)) (option_map (λ (c : PairOfLists). let d : PairOfLists = (x ∷ c.0, c.1) in d) (cut xs)))) [
      | true ↦ omega arith
      | false ↦ map_shorter x (length xs) (cut xs) (cut_shorter xs)
    ]

received_short : (n : ℕ) (bytes : List ℕ) → length (received n bytes).kept ≤ length bytes
received_short zero bytes = le_same (length bytes)
received_short (suc n) bytes =
    let b = begun bytes in
    let low = begun_short bytes in
    let step : (o : Option PairOfLists) → IsShorter (length b) o → length (reading n o b).kept ≤ length bytes =
    elim [
      | None ↦ λ h. omega (arith, length-take 2012 b, low)
      | Some c ↦ λ h. omega (arith, h, low, received_short n c.1)
    ] in
    step (cut b) (cut_shorter b)

-- where a frame has ended, what is kept is shorter then
received_less : (n : ℕ) (bytes : List ℕ) → holds_frame bytes ≡ true → length (received (suc n) bytes).kept < length bytes
received_less n bytes holds =
    let b = begun bytes in
    let low = begun_short bytes in
    let step : (o : Option PairOfLists) → is_some o ≡ true → IsShorter (length b) o → length (reading n o b).kept < length bytes =
    elim [
      | None ↦ λ some h. cc
      | Some c ↦ λ some h. omega (arith, h, low, received_short n c.1)
    ] in
    step (cut b) holds (cut_shorter b)

kept_short : (bytes : List ℕ) (kind : MsgKind) → length (kept_after bytes kind) ≤ length bytes
kept_short bytes (MFlush true w band) = omega arith
kept_short bytes (MFlush false w band) = le_same (length bytes)
kept_short bytes MHangup = omega arith
kept_short bytes kind = le_same (length bytes)

-- ---- what a message does

frames_tame : (bytes : List ℕ) (band : ℕ) (side : Side) (kind : MsgKind) (m : Msg) → m.kind ≡ kind → is_high m.kind ≡ true → are_high (slip_action bytes band side kind m).outs ≡ true
frames_tame bytes band Rd MData m at high = absurd (data_low m at high)
frames_tame bytes band Wr MData m at high = absurd (data_low m at high)
frames_tame bytes band Rd kind m at high = and_from (is_high m.kind) true high refl
frames_tame bytes band Wr kind m at high = and_from (is_high m.kind) true high refl

slip_tame : (kind : SlipKind) (side : Side) (m : Msg) → is_high m.kind ≡ true → are_high (slip_acts kind side m).outs ≡ true
slip_tame (Builtin kind) side m high = builtin_orderly.tame kind side m high
slip_tame (Slip bytes band) side m high = frames_tame bytes band side m.kind m refl high

frames_kept : (bytes : List ℕ) (band : ℕ) (side owing : Side) (kind : MsgKind) (m : Msg) → m.kind ≡ kind → is_high m.kind ≡ true → bytes_kept (slip_action bytes band side kind m).kind owing ≤ bytes_kept (Slip bytes band) owing
frames_kept bytes band Rd owing MData m at high = absurd (data_low m at high)
frames_kept bytes band Wr owing MData m at high = absurd (data_low m at high)
frames_kept bytes band Rd Rd kind m at high = kept_short bytes kind
frames_kept bytes band Rd Wr kind m at high = le_same 0
frames_kept bytes band Wr Rd kind m at high = kept_short bytes kind
frames_kept bytes band Wr Wr kind m at high = le_same 0

slip_kept : (kind : SlipKind) (side owing : Side) (m : Msg) → is_high m.kind ≡ true → bytes_kept (slip_acts kind side m).kind owing ≤ bytes_kept kind owing
slip_kept (Builtin kind) side owing m high = le_same 0
slip_kept (Slip bytes band) side owing m high = frames_kept bytes band side owing m.kind m refl high

-- what a side sends of its own waits at the read side alone
frames_unanswered : (bytes : List ℕ) (band : ℕ) (side : Side) (kind : MsgKind) (m : Msg) → bytes_kept (slip_action bytes band side kind m).kind (other_side side) ≤ bytes_kept (Slip bytes band) (other_side side)
frames_unanswered bytes band Rd MData m = le_same 0
frames_unanswered bytes band Rd kind m = le_same 0
frames_unanswered bytes band Wr MData m = le_same (length bytes)
frames_unanswered bytes band Wr kind m = kept_short bytes kind

slip_unanswered : (kind : SlipKind) (side : Side) (m : Msg) → bytes_kept (slip_acts kind side m).kind (other_side side) ≤ bytes_kept kind (other_side side)
slip_unanswered (Builtin kind) side m = le_same 0
slip_unanswered (Slip bytes band) side m = frames_unanswered bytes band side m.kind m

frames_ups : (bytes : List ℕ) (band : ℕ) (kind : MsgKind) (m : Msg) → ups_are_high (slip_action bytes band Wr kind m).outs ≡ true
frames_ups bytes band MData m = refl
frames_ups bytes band kind m = refl

slip_ups : (kind : SlipKind) (m : Msg) → slip.answers kind Wr ≡ false → ups_are_high (slip_acts kind Wr m).outs ≡ true
slip_ups (Builtin kind) m is = builtin_ups kind m is
slip_ups (Slip bytes band) m is = frames_ups bytes band m.kind m

slip_own_ups : (kind : SlipKind) (band : Option ℕ) → slip_turn kind Wr ≡ Sends band → ups_are_high (slip_own kind Wr).outs ≡ true
slip_own_ups (Builtin kind) band turn = cc
slip_own_ups (Slip bytes last) band turn = cc

-- ---- what a side sends of its own

sends_less : (bytes : List ℕ) (last : ℕ) (band : Option ℕ) (holds : Bool) → holds_frame bytes ≡ holds → cond holds (Sends (Some last)) Serves ≡ Sends band → length (received 2 bytes).kept < length bytes
sends_less bytes last band true at turn = received_less 1 bytes at
sends_less bytes last band false at turn = cc

slip_owns : (kind : SlipKind) (side : Side) (band : Option ℕ) → slip_turn kind side ≡ Sends band → bytes_kept (slip_own kind side).kind side < bytes_kept kind side
slip_owns (Builtin kind) side band turn = cc
slip_owns (Slip bytes last) Rd band turn = sends_less bytes last band (holds_frame bytes) refl turn
slip_owns (Slip bytes last) Wr band turn = cc

slip_owns_alone : (kind : SlipKind) (side : Side) (band : Option ℕ) → slip_turn kind side ≡ Sends band → bytes_kept (slip_own kind side).kind (other_side side) ≤ bytes_kept kind (other_side side)
slip_owns_alone (Builtin kind) side band turn = le_same 0
slip_owns_alone (Slip bytes last) Rd band turn = le_same 0
slip_owns_alone (Slip bytes last) Wr band turn = cc

-- ---- the law

slip_orderly : IsOrderly slip bytes_kept
slip_orderly =
    record {
      tame = slip_tame;
      tame_debt = slip_kept;
      unanswered = λ kind side m is. slip_unanswered kind side m;
      unanswered_ups = slip_ups;
      unanswered_own = λ kind band turn is. slip_own_ups kind band turn;
      owns = slip_owns;
      owns_alone = slip_owns_alone;
      stays = slip_stays;
    }

none_answers : (kind : SlipKind) → slip.answers kind Rd ≡ false
none_answers (Builtin kind) = builtin_unanswered kind
none_answers (Slip bytes band) = refl

pub slip_settles : (image : Image SlipKind) → Ends slip image
slip_settles image = settling_ends slip bytes_kept slip_orderly image (unanswered_ordered slip none_answers image)
