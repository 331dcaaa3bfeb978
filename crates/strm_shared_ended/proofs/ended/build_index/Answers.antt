use Rattle.std.proofs.Common.{◌≡◌, ◌+◌, ◌≤◌, suc, take, sym, ◌∙◌, ap, arith}
use Rattle.std.specs.Int.{from_bool}
use Rattle.std.proofs.lemmas.List.{length-set, take_all}
use Rattle.std.proofs.lemmas.Bool.{ltb-true}
use Rattle.strm_shared_entry.specs.Own.{has_seat}
use Rattle.strm_shared_ended.proofs.ArrivalLemmas.{all_landed, at_most_one, landed_more}
use Rattle.strm_shared_ended.proofs.PlaceLemmas.{call_indexed, line_indexed}
use Rattle.strm_shared_ended.proofs.ended.build_index.Goals as goal
use Rattle.strm_shared_ended.proofs.ended.build_index.Goals.{in-Caller+in_ok-push-in-Caller, in-Line}

pub loop-at-preserved : goal.loop-at-preserved
loop-at-preserved g c =
    let was = c.loop-at.invariant in
    let is = sym c.index-history-at.is in
    let who = sym c.who.ensures in
    let next : c.loop-at.at + 1 ≡ suc c.loop-at.at = omega arith in
    let came = c.from-arrival_count.ensures ∙ ap from_bool c.has_come_in.ensures in
    let arrival_count = landed_more c.args.history.now c.loop-at.at c.index-history-at.result c.loop-at.arrival_count _ c.loop-at-test.true is was.arrival_count came in
    let one = at_most_one _ _ came in
    let few : c.loop-at.arrival_count + c.from-arrival_count.result ≤ suc c.loop-at.at = omega (arith, was.few, one) in
    elim c.match-who.branch [
      | in-Caller+in_ok-push-in-Caller w ↦
          let within = ltb-true w.in-Caller.caller c.args.callers (sym (ap (λ b. has_seat c.args.callers b) (ap (λ e. e.who) is ∙ who ∙ w.in-Caller.is)) ∙ c.requires c.loop-at.at c.index-history-at.result c.loop-at-test.true) in
          rw (w.places-is, next) (record {
            few = few;
            arrival_count = rw next at arrival_count;
            many = length-set c.loop-at.places.items w.in-Caller.caller w.push.new.self ∙ was.many;
            each = λ caller d below. call_indexed c.args.history.now c.loop-at.at w.in-Caller.caller c.index-history-at.result c.loop-at.places.items w.index_mut.result.now w.push.new.self c.loop-at-test.true is (who ∙ w.in-Caller.is) (rw (← was.many) at within) w.index_mut.ensures.value w.in_ok-push-in-Caller.ensures.items (λ k e there. was.each k e (rw was.many at there)) caller d (rw (← was.many) at below);
          })
      | in-Line w ↦
          rw (w.places-is, next) (record {
            few = few;
            arrival_count = rw next at arrival_count;
            many = was.many;
            each = λ caller d below. line_indexed c.args.history.now c.loop-at.at c.index-history-at.result c.loop-at.places.items c.loop-at-test.true is (who ∙ w.in-Line.is) (λ k e there. was.each k e (rw was.many at there)) caller d (rw (← was.many) at below);
          })
    ]

pub returns : goal.returns
returns g c =
    let was = c.loop-at.invariant in
    let history = c.args.history.now in
    let all : take c.loop-at.at history ≡ history = take_all c.loop-at.at history c.loop-at-test.false in
    record {
      places = record {
        each = λ caller d below. rw all at (was.each caller d (rw was.many at below));
        seated = rw was.many c.requires;
      };
      arrival_count = all_landed history c.loop-at.at c.loop-at.arrival_count c.loop-at-test.false was.arrival_count;
    }
