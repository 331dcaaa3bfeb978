use Rattle.std.proofs.Common.{◌≡◌, length, take}
use Rattle.strm_chain_ends.specs.Image.{end_of}
use Rattle.strm_head_ioctl.specs.Names.{names_of}
use Rattle.strm_head_ioctl.proofs.names.names_of.Given as goal

-- the names so far
abbrev pub invariant-loop-i : goal.invariant-loop-i
invariant-loop-i g l = record {
  named : l.names.items ≡ take l.i (names_of (end_of l.fn.chain.image l.fn.end));
  counted : length l.names.items ≡ l.i;
}
