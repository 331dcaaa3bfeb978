use Rattle.std.proofs.Common.{◌≡◌, take}
use Rattle.strm_shared_entry.specs.Own.{own}
use Rattle.strm_script_expect.specs.Unmet.{seen}
use Rattle.strm_script_expect.proofs.owned.own.Given as goal

-- those of the entries so far
abbrev pub invariant-loop-entry : goal.invariant-loop-entry
invariant-loop-entry g l = seen l.all.items ≡ own l.caller (take l.entry-index l.history)
