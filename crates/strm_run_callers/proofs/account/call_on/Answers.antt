use Rattle.std.proofs.Common.{◌+◌, ◌<◌, ◌^◌, length, ap, rules}
use Rattle.strm_shared.specs.Seat.{SeatValue}
use Rattle.strm_run_callers.specs.Play.{Fits}
use Rattle.strm_run_callers.proofs.AccountLemmas.{carries_on, next_same, overrun_boxed, receipts_more}
use Rattle.strm_run_callers.proofs.account.call_on.Goals as goal

pub enter-requires-after_bounds : goal.enter-requires-after_bounds
unfolding Fits
enter-requires-after_bounds g c κs within = let fits = c.requires.fits in search rules

pub carry-carried-requires : goal.carry-carried-requires
carry-carried-requires g c =
    let ok = c.reserve.new.self.ok in
    let small = c.reserve.new.self.small in
    let room = c.in_ok-reserve.ensures.ok in
    let same = ap (λ l. length l) c.in_ok-reserve.ensures.items in
    let few : length c.account.inside.entries.items + 1 < 2 ^ 63 = search rules in
    overrun_boxed g.N.RunName.run c.account.inside.seat c.account.inside.entries.items c.account.inside.carrier c.account.invariant.1 few

pub invariant_of-account-in-Some : goal.invariant_of-account-in-Some
invariant_of-account-in-Some g c =
    let run = g.N.RunName.run in
    let counted = rw c.in-Some.is at c.in-Done.ensures.counts in
    let caller = ap (λ (s : SeatValue). s.caller) counted in
    let number = ap (λ (s : SeatValue). s.number) counted in
    let more = rw c.in_ok-reserve.ensures.items at (rw c.into_entry-entry.ensures at c.push_reserved.ensures.items) in (
      receipts_more run c.account.inside.seat c.enter.new.seat c.args.call c.in-Done.back.items c.account.inside.entries.items c.push_reserved.new.self.items c.in-Some.receipt counted ((rw c.in-Some.is at c.in-Done.ensures.shown).1) (next_same run _ _ c.args.call c.account.view_is c.requires.next) c.account.invariant.0 more,
      carries_on run c.account.inside.seat c.enter.new.seat c.account.inside.entries.items c.push_reserved.new.self.items c.in-Some.receipt.entry c.account.inside.carrier c.carry-carried.new.carrier c.carry-carried.result caller number more c.account.invariant.1 (rw (c.event.ensures, c.entry.ensures, c.answer.ensures, c.entry-in-Some.ensures, c.into_entry-entry.ensures) at c.carry-carried.ensures.ok) c.carry-carried.ensures.err,
    )
