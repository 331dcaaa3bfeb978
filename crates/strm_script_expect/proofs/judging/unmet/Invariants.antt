use Rattle.std.proofs.Common.{◌≡◌, ◌++◌, length, map}
use Rattle.std.specs.Vec.Iter.{into_iter_items, into_iter_len}
use Rattle.strm_script_parse.specs.RunInput.{replies_view}
use Rattle.strm_script_expect.specs.Unmet.{missed_view, unmet_from, unmet_of}
use Rattle.strm_script_expect.proofs.judging.unmet.Given as goal

-- what is left decides, with those of the processes so far
abbrev pub invariant-loop-replies : goal.invariant-loop-replies
invariant-loop-replies g l = record {
  left : into_iter_len l.replies-iterator ≡ length (into_iter_items l.replies-iterator);
  rest : l.yielded ++ into_iter_items l.replies-iterator ≡ l.fn.expected.items;
  caller : l.caller ≡ length l.yielded;
  added : map missed_view l.all.items ++ unmet_from l.transcript.streams.items l.caller (map replies_view (into_iter_items l.replies-iterator)) ≡ unmet_of l.transcript.streams.items (map replies_view l.fn.expected.items);
}
