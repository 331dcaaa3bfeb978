use Rattle.std.proofs.Common.{◌≡◌, ℕ, ◌<◌, ◌≤◌, ◌++◌, false, drop, take, get_or}
use Rattle.std.specs.List.{list_all}
use Rattle.strm_script_text.specs.Bytes.{is_allowed, is_blank}
use Rattle.strm_script_text.specs.Text.{fields_of, texts_of}
use Rattle.strm_script_text.proofs.lines.cut_fields.Given as goal

-- the fields so far, and those behind, are those of the line; no blank stands between the start and here
abbrev pub invariant-loop-at : goal.invariant-loop-at
invariant-loop-at l = record {
  within : l.start ≤ l.at;
  fields : texts_of l.fields.items ++ fields_of (drop l.start l.line) ≡ fields_of l.line;
  unparted : (k : ℕ) → l.start ≤ k → k < l.at → is_blank (get_or l.line k 0) ≡ false;
  allowed : l.allowed ≡ list_all is_allowed (take l.at l.line);
}
