use Rattle.std.proofs.Common.{◌≡◌, ◌++◌, length, map}
use Rattle.std.specs.List.{flat_map}
use Rattle.std.specs.Vec.Iter.{into_iter_items, into_iter_len}
use Rattle.strm_script_parse.specs.Plan.{expected_view}
use Rattle.strm_script_expect.specs.Unmet.{entry_at, missed_view, said_in, seen_all, unmet_by}
use Rattle.strm_script_expect.proofs.judging.add_unmet_of.Given as goal

-- those so far that were not met were added
abbrev pub invariant-loop-one : goal.invariant-loop-one
invariant-loop-one g l = record {
  left : into_iter_len l.one-iterator ≡ length (into_iter_items l.one-iterator);
  rest : l.yielded ++ into_iter_items l.one-iterator ≡ l.fn.replies.expected.items;
  added : map missed_view l.all.items ≡ map missed_view l.fn.all.items ++ flat_map (λ e. unmet_by (said_in (entry_at (seen_all l.owned) l.streams.items e.call)) e) (map expected_view l.yielded);
}
