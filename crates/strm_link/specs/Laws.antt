-- What links do with many messages.
use Rattle.std.specs.Prelude.{◌≡◌, false, None, List, ◌++◌, All}
use Rattle.std.specs.List.{Contains}
use Rattle.std.specs.List.Sorted.{IsPermutation}
use Rattle.std.specs.Option.{option_to_list}
use Rattle.strm_msg.specs.Message.{Msg}
use Rattle.strm_link.specs.declared.act.Act.TheVariants.{Lose, Double, Hold}
use Rattle.strm_link.specs.Rule.{RuleValue, can_come}
use Rattle.strm_link.specs.Link.{fresh, out_of, after_of}
use Rattle.strm_link.specs.Subsequence.{IsSubsequence}

-- a link that only keeps passes on what was taken, in order
abbrev pub LinkKeeps : Type 0
LinkKeeps =
    (rule : RuleValue) (taken : List Msg) →
    can_come Lose rule ≡ false → can_come Double rule ≡ false → can_come Hold rule ≡ false →
    (out_of (fresh rule) taken ≡ taken) × ((after_of (fresh rule) taken).held ≡ None)

-- a link that only keeps and loses passes on a subsequence of what was taken
abbrev pub LinkOnlyLoses : Type 0
LinkOnlyLoses =
    (rule : RuleValue) (taken : List Msg) → can_come Double rule ≡ false → can_come Hold rule ≡ false →
    IsSubsequence (out_of (fresh rule) taken) taken × ((after_of (fresh rule) taken).held ≡ None)

-- what a link that only keeps and holds has passed on, with what it holds, is what was taken, in some order
abbrev pub LinkOnlyHolds : Type 0
LinkOnlyHolds =
    (rule : RuleValue) (taken : List Msg) → can_come Lose rule ≡ false → can_come Double rule ≡ false →
    IsPermutation taken (out_of (fresh rule) taken ++ option_to_list (after_of (fresh rule) taken).held)

-- each message that a link passes on or holds was taken
abbrev pub LinkMakesNone : Type 0
LinkMakesNone =
    (rule : RuleValue) (taken : List Msg) →
    All (Contains taken) (out_of (fresh rule) taken ++ option_to_list (after_of (fresh rule) taken).held)
