use Rattle.std.proofs.Common.{take}
use Rattle.std.specs.Io.KnownBytes.{Appends}
use Rattle.strm_script_chart.specs.Columns.{places_text}
use Rattle.strm_script_chart.proofs.moved.put_places.Given as goal

-- the places so far are written
abbrev pub invariant-loop-place : goal.invariant-loop-place
invariant-loop-place g l = Appends (g.W.Write.contents l.fn.w) (g.W.Write.contents l.w) (places_text (take l.place-index l.places))
