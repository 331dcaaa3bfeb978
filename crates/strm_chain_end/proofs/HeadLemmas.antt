-- What a stream head does with a message of a known kind.
use Rattle.std.proofs.Common.{◌≡◌, true, false, refl}
use Rattle.strm_msg.specs.Message.{Msg}
use Rattle.strm_msg.specs.declared.kind.MsgKind.{MsgKind}
use Rattle.strm_chain_end.specs.End.{EndState}
use Rattle.strm_chain_end.specs.Head.{keeps, open_head, put_at_head}

-- an open end does what the kind says
pub open_does : {K : Type 0} (e : EndState K) (m : Msg) (kind : MsgKind) → e.is_open ≡ true → m.kind ≡ kind → put_at_head e m ≡ open_head e kind m
open_does e m kind opened is = rw (opened, is) refl

-- a closed one nothing
pub closed_does : {K : Type 0} (e : EndState K) (m : Msg) → e.is_open ≡ false → put_at_head e m ≡ keeps e
closed_does e m closed = rw closed refl
