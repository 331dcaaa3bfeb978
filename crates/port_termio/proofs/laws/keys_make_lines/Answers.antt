use Rattle.port_termio.proofs.TypingLemmas.{plain_line_is_read, raw_is_read, lines_are_short}
use Rattle.port_termio.proofs.RoomLemmas.{nothing_typed_is_lost}
use Rattle.port_termio.proofs.laws.keys_make_lines.Goals as goal

pub returns-clause-plain : goal.returns-clause-plain
returns-clause-plain c = plain_line_is_read

pub returns-clause-raw : goal.returns-clause-raw
returns-clause-raw c = raw_is_read

pub returns-clause-lossless : goal.returns-clause-lossless
returns-clause-lossless c = nothing_typed_is_lost

pub returns-clause-short : goal.returns-clause-short
returns-clause-short c = lines_are_short
