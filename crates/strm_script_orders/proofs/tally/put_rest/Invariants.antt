use Rattle.std.proofs.Common.{take}
use Rattle.std.specs.Io.KnownBytes.{Appends}
use Rattle.std.specs.List.{flat_map}
use Rattle.strm_script_orders.specs.Telling.{given_text}
use Rattle.strm_script_orders.proofs.tally.put_rest.Given as goal

-- the transcripts so far are told
abbrev pub invariant-loop-given : goal.invariant-loop-given
invariant-loop-given g l =
    Appends (g.W.Write.contents l.fn.w) (g.W.Write.contents l.w) (flat_map (given_text l.first) (take l.given-index l.rest))
