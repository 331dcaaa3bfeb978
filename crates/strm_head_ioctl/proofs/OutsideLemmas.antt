-- What a take has not done, whether or not a message was there.
use Rattle.std.proofs.Common.{◌≡◌, false, List, [], ◌∷◌, refl}
use Rattle.strm_msg.specs.Message.{Msg}
use Rattle.strm_msg.specs.declared.words.End.{End}
use Rattle.strm_chain_ends.specs.Image.{Image}
use Rattle.strm_head_ioctl.specs.Outside.{taken_out}

-- it has taken no module out
pub taken_none : {K : Type 0} (image : Image K) (e : End) (q : List Msg) → (taken_out image e q).out ≡ []
taken_none image e [] = refl
taken_none image e (m ∷ q) = refl

-- and awaits no answer
pub taken_plain : {K : Type 0} (image : Image K) (e : End) (q : List Msg) → (taken_out image e q).awaits ≡ false
taken_plain image e [] = refl
taken_plain image e (m ∷ q) = refl
