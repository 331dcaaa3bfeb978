use Rattle.std.proofs.Common.{◌≡◌, length, take}
use Rattle.strm_head_calls.proofs.name_list.NameList.new.Given as goal

-- the names so far are there
abbrev pub invariant-loop-name : goal.invariant-loop-name
invariant-loop-name l = record {
  copied : l.list.items ≡ take l.name-index l.fn.names;
  counted : length l.list.items ≡ l.name-index;
}
