use Rattle.std.proofs.Common.{◌≡◌, ◌<◌, ◌≤◌, ◌∷◌, ◌++◌, [], false, length, length-append, ap, sym, ◌∙◌, arith}
use Rattle.strm_queue.specs.Run.{RunList, is_listed}
use Rattle.strm_queue.proofs.RunLemmas.{once_behind}
use Rattle.strm_queue.proofs.run.RunQueue.enable.Goals as goal

pub unreachable-requires : goal.unreachable-requires
unreachable-requires c =
    let less : c.args.place < c.self.inside.places = rw (ap (λ (v : RunList). v.places) c.self.view_is) c.requires in
    let out : is_listed c.args.place c.self.inside.items.items ≡ false = ap (λ (v : RunList). is_listed c.args.place v.items) c.self.view_is ∙ sym c.is_enabled.ensures ∙ c.if-is_enabled.false in
    let a = once_behind c.self.inside.places c.args.place c.self.inside.items.items c.self.invariant.0 less out in
    let few : length (c.self.inside.items.items ++ c.args.place ∷ []) ≤ c.self.inside.places = a.few in
    let more = length-append c.self.inside.items.items (c.args.place ∷ []) in
    let ok = c.self.inside.items.ok in
    let room = c.self.invariant.1 in
    let full = c.in-Err.ensures.full in
    omega (arith, few, more, ok, room, full)

pub invariant_of-self : goal.invariant_of-self
invariant_of-self c =
    let less : c.args.place < c.self.inside.places = rw (ap (λ (v : RunList). v.places) c.self.view_is) c.requires in
    let out : is_listed c.args.place c.self.inside.items.items ≡ false = ap (λ (v : RunList). is_listed c.args.place v.items) c.self.view_is ∙ sym c.is_enabled.ensures ∙ c.if-is_enabled.false in (
      rw c.in-Ok.ensures.items (once_behind c.self.inside.places c.args.place c.self.inside.items.items c.self.invariant.0 less out),
      omega (arith, c.self.invariant.1, c.in-Ok.ensures.capacity),
    )
