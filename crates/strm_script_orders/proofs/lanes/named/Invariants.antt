use Rattle.std.proofs.Common.{◌≡◌, drop}
use Rattle.std.specs.List.{position_from}
use Rattle.std.specs.Str.{bytes_eq}
use Rattle.strm_script_orders.specs.Lanes.{word_of}
use Rattle.strm_script_orders.specs.Spelt as says
use Rattle.strm_script_orders.proofs.lanes.named.Given as goal

-- it is one of those that are left
abbrev pub invariant-loop-number : goal.invariant-loop-number
invariant-loop-number l =
    position_from (λ lane. bytes_eq (word_of lane) l.word) l.number (drop l.number l.lanes) ≡ says.named l.lanes l.word
