use Rattle.port_termio.proofs.TypingLemmas.{pieces_are_one_typing}
use Rattle.port_termio.proofs.laws.keys_come_in_pieces.Goals as goal

pub returns : goal.returns
returns c = pieces_are_one_typing
