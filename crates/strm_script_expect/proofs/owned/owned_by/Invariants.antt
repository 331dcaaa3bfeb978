use Rattle.std.proofs.Common.{◌≡◌, take}
use Rattle.strm_script_expect.specs.Unmet.{owned_by, seen_all}
use Rattle.strm_script_expect.proofs.owned.owned_by.Given as goal

-- those of the streams so far
abbrev pub invariant-loop-log : goal.invariant-loop-log
invariant-loop-log g l = seen_all l.all.items ≡ owned_by l.caller (take l.log-index l.logs)
