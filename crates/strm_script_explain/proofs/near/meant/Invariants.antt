use Rattle.std.proofs.Common.{◌≡◌, drop, find}
use Rattle.strm_script_text.specs.Text.{texts_of}
use Rattle.strm_script_explain.specs.Near.{is_meant}
use Rattle.strm_script_explain.proofs.near.meant.Given as goal

-- the text is nearly none of the words so far
abbrev pub invariant-loop-word : goal.invariant-loop-word
invariant-loop-word l =
    find (is_meant l.text) (texts_of (drop l.word-index l.words)) ≡ find (is_meant l.text) (texts_of l.words)
