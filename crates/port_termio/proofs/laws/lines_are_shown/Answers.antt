use Rattle.port_termio.proofs.TypingLemmas.{plain_line_is_shown, nothing_shown_without_echo}
use Rattle.port_termio.proofs.RowLemmas.{screen_shows_line}
use Rattle.port_termio.proofs.laws.lines_are_shown.Goals as goal

pub returns-clause-row : goal.returns-clause-row
returns-clause-row c = screen_shows_line

pub returns-clause-plain : goal.returns-clause-plain
returns-clause-plain c = plain_line_is_shown

pub returns-clause-nothing : goal.returns-clause-nothing
returns-clause-nothing c = nothing_shown_without_echo
