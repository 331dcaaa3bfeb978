use Rattle.std.proofs.Common.{◌≡◌, ◌≤◌, ◌==◌, ℕ, false, List, filter, not, ◌&&◌, ap, sym, ◌∙◌, subst, arith}
use Rattle.std.proofs.lemmas.Bool.Decides.{nat_tests}
use Rattle.strm_msg.specs.Message.{Msg}
use Rattle.strm_queue.specs.Queue.{is_flushed, flush_band_of}
use Rattle.strm_queue.specs.Lanes.{is_of_rank, messages_of, spare_of}
use Rattle.strm_queue.proofs.StandLemmas.{flush-zero, flush-ordinary}
use Rattle.strm_queue.proofs.RoomLemmas.{room-kept}
use Rattle.strm_queue.proofs.queue.BandQueue.flush_band.Goals as goal

pub returns-then-band-eq0-clause-messages : goal.returns-then-band-eq0-clause-messages
returns-then-band-eq0-clause-messages c =
    let zero_rank : c.from.result ≡ 0 = c.from.ensures ∙ c.if-band-eq0.true in
    let low : messages_of c.flush_rank.new.lanes.items ≡ filter (λ m. not (is_flushed m.kind && is_of_rank 0 m)) (messages_of c.self.inside.lanes.items) = subst (λ rank. messages_of c.flush_rank.new.lanes.items ≡ filter (λ m. not (is_flushed m.kind && is_of_rank rank m)) (messages_of c.self.inside.lanes.items)) zero_rank c.flush_rank.ensures.messages in
    let both : messages_of c.flush_rank-then-band-eq0.new.lanes.items ≡ flush_band_of 0 (messages_of c.self.inside.lanes.items) = c.flush_rank-then-band-eq0.ensures.messages ∙ ap (λ (q : List Msg). filter (λ (m : Msg). not (is_flushed m.kind && is_of_rank 256 m)) q) low ∙ flush-zero (messages_of c.self.inside.lanes.items) in
    rw (← c.self.view_is) (subst (λ band. messages_of c.flush_rank-then-band-eq0.new.lanes.items ≡ flush_band_of band (messages_of c.self.inside.lanes.items)) (sym c.if-band-eq0.true) both)

pub returns-then-band-eq0-clause-room : goal.returns-then-band-eq0-clause-room
returns-then-band-eq0-clause-room c = λ rank.
    let kept : (other : ℕ) → spare_of other c.self.inside.lanes.items ≤ spare_of other c.flush_rank-then-band-eq0.new.lanes.items = λ other. omega (arith, c.flush_rank.ensures.room other, c.flush_rank-then-band-eq0.ensures.room other) in
    rw (← c.self.view_is) (room-kept _ _ _ _ (omega arith) kept rank)

pub returns-else-band-eq0-clause-messages : goal.returns-else-band-eq0-clause-messages
returns-else-band-eq0-clause-messages c =
    let other : (c.args.band == 0) ≡ false = grind (arith, nat_tests, c.if-band-eq0.false) in
    let same : messages_of c.flush_rank.new.lanes.items ≡ filter (λ m. not (is_flushed m.kind && is_of_rank c.args.band m)) (messages_of c.self.inside.lanes.items) = subst (λ rank. messages_of c.flush_rank.new.lanes.items ≡ filter (λ m. not (is_flushed m.kind && is_of_rank rank m)) (messages_of c.self.inside.lanes.items)) c.from.ensures c.flush_rank.ensures.messages in
    rw (← c.self.view_is) (same ∙ flush-ordinary c.args.band (messages_of c.self.inside.lanes.items) other (omega arith))

pub returns-else-band-eq0-clause-room : goal.returns-else-band-eq0-clause-room
returns-else-band-eq0-clause-room c = λ rank.
    rw (← c.self.view_is) (room-kept _ _ _ _ (omega arith) c.flush_rank.ensures.room rank)
