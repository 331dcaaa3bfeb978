use Rattle.std.proofs.Common.{◌≡◌, ◌≤◌, take}
use Rattle.strm_module.specs.Bytes.{rest_len}
use Rattle.strm_module.proofs.bytes.rest_len.Given as goal

abbrev pub invariant-loop-b : goal.invariant-loop-b
invariant-loop-b l = record {
  counted : l.rest ≡ rest_len (take l.b-index l.bytes);
  within : l.rest ≤ l.b-index;
}
