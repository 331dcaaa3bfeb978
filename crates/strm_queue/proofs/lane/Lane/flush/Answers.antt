use Rattle.std.proofs.Common.{not, rules, refl}
use Rattle.std.proofs.lemmas.List.Elements.{filter_from_retain}
use Rattle.strm_msg.specs.Message.{Msg}
use Rattle.strm_queue.specs.Queue.{is_flushed}
use Rattle.strm_queue.specs.Lanes.{is_light}
use Rattle.strm_queue.proofs.ListLemmas.{all_filter}
use Rattle.strm_queue.proofs.lane.Lane.flush.Goals as goal

pub weigh-self-inside-requires : goal.weigh-self-inside-requires
weigh-self-inside-requires c =
    let test = λ (m : Msg). not (is_flushed m.kind) in
    let filtered = filter_from_retain _ test (λ p x b q r. search rules) _ c.self.inside.messages.items c.retain.new.self.items c.retain.ensures.filtered in
    rw filtered (all_filter is_light test c.self.inside.messages.items c.self.invariant.1)

pub invariant_of-self : goal.invariant_of-self
invariant_of-self c =
    let test = λ (m : Msg). not (is_flushed m.kind) in
    let filtered = filter_from_retain _ test (λ p x b q r. search rules) _ c.self.inside.messages.items c.retain.new.self.items c.retain.ensures.filtered in
    let light = all_filter is_light test c.self.inside.messages.items c.self.invariant.1 in
    (c.weigh-self-inside.ensures, rw filtered light)

pub returns-clause-messages : goal.returns-clause-messages
returns-clause-messages c =
    let test = λ (m : Msg). not (is_flushed m.kind) in
    let filtered = filter_from_retain _ test (λ p x b q r. search rules) _ c.self.inside.messages.items c.retain.new.self.items c.retain.ensures.filtered in
    rw (← c.self.view_is, filtered) refl
