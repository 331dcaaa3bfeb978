use Rattle.std.proofs.Common.{◌≡◌, ◌++◌, map, take, drop}
use Rattle.strm_script_orders.specs.Tally.{is_among, texts_of, with_play}
use Rattle.strm_script_orders.proofs.tally.count_play.Given as goal

-- those so far have a play more if they have this text, and the others are as they were
abbrev pub invariant-loop-given : goal.invariant-loop-given
invariant-loop-given l = record {
  found : l.found ≡ is_among (texts_of (take l.given-index l.fn.kept)) l.text;
  counted : l.kept ≡ map (with_play l.text) (take l.given-index l.fn.kept) ++ drop l.given-index l.fn.kept;
}
