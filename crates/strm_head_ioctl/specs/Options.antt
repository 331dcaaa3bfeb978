-- The way in which reads treat messages (streamio(7), I_SRDOPT and I_GRDOPT).
use Rattle.strm_msg.specs.declared.words.End.{End}
use Rattle.strm_msg.specs.declared.words.Prot.{Prot}
use Rattle.strm_msg.specs.declared.words.ReadMode.{ReadMode}
use Rattle.strm_chain_end.specs.Change.{with_mode}
use Rattle.strm_chain_ends.specs.Image.{Image, end_of, with_state}
use Rattle.strm_head_calls.specs.declared.answer.Reply.TheVariants.{SetRead, GetRead}
use Rattle.strm_head_calls.specs.Effect.{Effect, effect}

abbrev pub set_read_effect : {K : Type 0} → Image K → End → ReadMode → Prot → Effect (Image K) K
set_read_effect image e mode prot =
    effect (with_state image e (with_mode (end_of image e).state mode prot)) SetRead

abbrev pub get_read_effect : {K : Type 0} → Image K → End → Effect (Image K) K
get_read_effect image e =
    let state = (end_of image e).state in effect image (GetRead state.mode state.prot)
