use Rattle.std.proofs.Common.{◌≡◌, length, take}
use Rattle.strm_script_text.proofs.words.is_same_word.Given as goal

-- words of one length, the same so far
abbrev pub invariant-loop-i : goal.invariant-loop-i
invariant-loop-i l = record {
  many : length l.one ≡ length l.other;
  same : take l.i l.one ≡ take l.i l.other;
}
