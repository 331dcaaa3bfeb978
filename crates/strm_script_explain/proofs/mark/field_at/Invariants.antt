use Rattle.std.proofs.Common.{◌≡◌, ◌≤◌, length, take}
use Rattle.strm_script_text.specs.Text.{fields_of}
use Rattle.strm_script_text.proofs.FieldLemmas.{AreUnparted}
use Rattle.strm_script_explain.proofs.FieldLemmas.{IsEdge}
use Rattle.strm_script_explain.proofs.mark.field_at.Given as goal

-- the fields in front of the start are counted, and no blank stands between the start and here
abbrev pub invariant-loop-at : goal.invariant-loop-at
invariant-loop-at l = record {
  within : l.start ≤ l.at;
  few : l.many ≤ l.number;
  counted : length (fields_of (take l.start l.line)) ≡ l.many;
  edge : IsEdge l.line l.start;
  unparted : AreUnparted l.line l.start l.at;
}
