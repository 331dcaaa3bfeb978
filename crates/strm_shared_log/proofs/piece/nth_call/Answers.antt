use Rattle.std.proofs.Common.{◌≡◌, ◌+◌, ◌-◌, List, Some, length, take, sym, ◌∙◌, ap, subst, take_all}
use Rattle.strm_shared_entry.specs.Entry.{Entry, is_caller}
use Rattle.strm_shared_entry.specs.Own.{own}
use Rattle.strm_shared_log.proofs.PieceLemmas.{entry_found, entry_missing}
use Rattle.strm_shared_log.proofs.piece.nth_call.Goals as goal

pub returns-then-before-eq0 : goal.returns-then-before-eq0
returns-then-before-eq0 g c =
    let was = c.loop-at.invariant in
    let so = ap (λ w. is_caller c.args.caller w) (sym c.who.ensures) ∙ sym c.is_caller.ensures ∙ cc c.if-is_caller.true in
    entry_found c.args.entries.now c.loop-at.at c.args.caller c.args.number c.loop-at.before c.index-entries-at.result c.loop-at-test.true (sym c.index-entries-at.is) so (cc c.if-before-eq0.true) was.some was.left
    ∙ ap (λ e. Some e) (sym c.entry.ensures)

pub returns : goal.returns
returns g c =
    let was = c.loop-at.invariant in
    let all : take c.loop-at.at c.args.entries.now ≡ c.args.entries.now = take_all c.loop-at.at c.args.entries.now c.loop-at-test.false in
    entry_missing c.args.entries.now c.args.caller c.args.number c.loop-at.before was.some (subst (λ (l : List (Entry _)). c.loop-at.before + length (own c.args.caller l) ≡ c.args.number - 1) all was.left)
