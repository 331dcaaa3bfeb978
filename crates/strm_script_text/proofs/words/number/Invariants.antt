use Rattle.std.proofs.Common.{◌≡◌, ◌<◌, ◌^◌, drop}
use Rattle.strm_script_text.specs.Text.{number_from}
use Rattle.strm_script_text.proofs.words.number.Given as goal

-- the digits so far make the value, behind which the others stand
abbrev pub invariant-loop-digit : goal.invariant-loop-digit
invariant-loop-digit l = record {
  same : number_from l.value (drop l.digit-index l.text) ≡ number_from 0 l.text;
  small : l.value < 10 ^ l.digit-index;
}
