-- What SLIP makes of a message that flushes nothing flushes nothing, and it makes no options.
use Rattle.std.proofs.Common.{◌≡◌, ◌≤◌, ◌+◌, ℕ, Bool, true, List, [], ◌∷◌, ◌++◌, option_map, unwrap_or, refl, ap, arith}
use Rattle.std.proofs.lemmas.List.Sums.{sum_by-cons}
use Rattle.std.proofs.lemmas.Bool.{and_from}
use Rattle.strm_msg.specs.Message.{Msg, data_msg}
use Rattle.strm_msg.specs.declared.kind.MsgKind.{MsgKind}
use Rattle.strm_msg.specs.declared.kind.MsgKind.TheVariants.{MData}
use Rattle.strm_msg.specs.declared.words.Side.{Side}
use Rattle.strm_msg.specs.declared.words.Side.TheVariants.{Rd, Wr}
use Rattle.strm_module.specs.Calm.{is_calm, are_calm, options_by, options_of, options_sent, MakesCalm}
use Rattle.strm_module.proofs.CalmLemmas.{same_keeps, other_keeps, builtin_calm}
use Rattle.port_slip.specs.Frame.{framed, received}
use Rattle.port_slip.specs.Slip.{datagrams_up, slip_action, slip_acts, slip_own, slip}
use Rattle.port_slip.specs.declared.kinds.SlipKind.{SlipKind}
use Rattle.port_slip.specs.declared.kinds.SlipKind.TheVariants.{Builtin, Slip}

-- datagrams go up as data
datagrams_calm : (band : ℕ) (datagrams : List (List ℕ)) → are_calm (datagrams_up band datagrams) ≡ true
datagrams_calm band [] = refl
datagrams_calm band (datagram ∷ datagrams) = datagrams_calm band datagrams

acts_calm : (bytes : List ℕ) (band : ℕ) (side : Side) (kind : MsgKind) (m : Msg) → is_calm m.kind ≡ true → are_calm (slip_action bytes band side kind m).outs ≡ true
acts_calm bytes band Rd MData m h =
    datagrams_calm m.band (received 2 (bytes ++ unwrap_or m.dat [])).datagrams
acts_calm bytes band Wr MData m h = and_from (is_calm m.kind) true h refl
acts_calm bytes band Rd kind m h = and_from (is_calm m.kind) true h refl
acts_calm bytes band Wr kind m h = and_from (is_calm m.kind) true h refl

-- and set no options
datagrams_sent : (b : Bool) (band : ℕ) (datagrams : List (List ℕ)) → options_sent b (datagrams_up band datagrams) ≡ 0
datagrams_sent b band [] = refl
datagrams_sent b band (datagram ∷ datagrams) =
    let e = sum_by-cons (λ (out : Side × Msg). options_of b out.1) (Rd, data_msg band datagram) (datagrams_up band datagrams) in
    let rest = datagrams_sent b band datagrams in
    omega (arith, e, rest)

acts_keep : (b : Bool) (bytes : List ℕ) (band : ℕ) (side : Side) (kind : MsgKind) (m : Msg) → m.kind ≡ kind → options_sent b (slip_action bytes band side kind m).outs ≤ options_of b m
acts_keep b bytes band Rd MData m at =
    let none = datagrams_sent b m.band (received 2 (bytes ++ unwrap_or m.dat [])).datagrams in omega (arith, none)
acts_keep b bytes band Wr MData m at = other_keeps b Wr m (record m { dat = option_map framed m.dat }) (ap (λ k. options_by b k (option_map framed m.dat)) at)
acts_keep b bytes band Rd kind m at = same_keeps b Rd m
acts_keep b bytes band Wr kind m at = same_keeps b Wr m

slip_keeps : (b : Bool) (kind : SlipKind) (side : Side) (m : Msg) → options_sent b (slip_acts kind side m).outs ≤ options_of b m
slip_keeps b (Builtin kind) side m = builtin_calm.makes.options b kind side m
slip_keeps b (Slip bytes band) side m = acts_keep b bytes band side m.kind m refl

still_calm : (kind : SlipKind) (side : Side) (m : Msg) → is_calm m.kind ≡ true → are_calm (slip_acts kind side m).outs ≡ true
still_calm (Builtin kind) side m h = builtin_calm.makes.calm kind side m h
still_calm (Slip bytes band) side m h = acts_calm bytes band side m.kind m h

own_calm : (kind : SlipKind) (side : Side) → are_calm (slip_own kind side).outs ≡ true
own_calm (Builtin kind) side = refl
own_calm (Slip bytes band) Rd = datagrams_calm band (received 2 bytes).datagrams
own_calm (Slip bytes band) Wr = refl

own_keeps : (b : Bool) (kind : SlipKind) (side : Side) → options_sent b (slip_own kind side).outs ≤ 0
own_keeps b (Builtin kind) side = omega arith
own_keeps b (Slip bytes band) Rd = let none = datagrams_sent b band (received 2 bytes).datagrams in omega (arith, none)
own_keeps b (Slip bytes band) Wr = omega arith

pub slip_calm : MakesCalm slip
slip_calm = record { calm = still_calm; options = slip_keeps; own = own_calm; own_options = own_keeps }
