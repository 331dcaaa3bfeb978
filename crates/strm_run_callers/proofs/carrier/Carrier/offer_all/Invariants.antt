use Rattle.std.proofs.Common.{◌≡◌, ◌+◌, ◌≤◌, ◌++◌, true, length, All}
use Rattle.strm_msg.specs.Message.{Msg}
use Rattle.strm_msg.specs.Kind.{is_from_line}
use Rattle.strm_run_callers.specs.Carrying.{Offers}
use Rattle.strm_run_callers.proofs.carrier.Carrier.offer_all.Given as goal

-- the messages so far were offered
abbrev pub invariant-loop-m : goal.invariant-loop-m
invariant-loop-m g l = record {
  rest : l.yielded ++ l.m-iterator ≡ l.fn.messages.items;
  lines : All (λ (m : Msg). is_from_line m.kind ≡ true) l.m-iterator;
  link : l.self.link ≡ l.fn.self.link;
  offered : Offers l.fn.self l.yielded l.self;
  few : l.self.overrun ≤ l.fn.self.overrun + length l.yielded;
}
