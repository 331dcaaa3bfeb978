use Rattle.std.proofs.Common.{◌≡◌, take, map, length}
use Rattle.std.specs.List.{range_with_len}
use Rattle.strm_script_words.specs.Push.{image_of}
use Rattle.strm_script_words.proofs.push.table_of.Given as goal

-- the bytes so far have their images
abbrev pub invariant-loop-at : goal.invariant-loop-at
invariant-loop-at l = record {
  many : length l.table ≡ 256;
  same : take l.at l.table ≡ map (image_of l.from l.to) (range_with_len 0 l.at);
}
