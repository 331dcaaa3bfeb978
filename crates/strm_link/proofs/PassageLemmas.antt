-- How far a link is, by the number of messages that have gone over it.
use Rattle.std.proofs.Common.{◌≡◌, ◌∙◌, ℕ, suc, ◌+◌, ◌-◌, ◌<◌, Bool, true, false, is_some, Option, None, Some, List, [], ◌∷◌, length, length-append, ap, sym, arith}
use Rattle.strm_msg.specs.Message.{Msg}
use Rattle.strm_link.specs.declared.act.Act.{Act}
use Rattle.strm_link.specs.declared.act.Act.TheVariants.{Keep, Lose, Double, Hold}
use Rattle.strm_link.specs.declared.passage.Passage.{Passage}
use Rattle.strm_link.specs.Rule.{RuleValue, act_of, after_act}
use Rattle.strm_link.specs.Link.{fresh, after_of, held_after, leaves, out_of}
use Rattle.strm_link.specs.Passage.{nothing_yet, passage_after, passage_behind, passage_of}

-- a link that has passed on so many
abbrev at : ℕ → Bool → Passage
at given held = record { given = given; held = held }

-- what one message sets free
after_one : (act : Act) (m : Msg) (held : Option Msg) (given : ℕ) → passage_after act (at given (is_some held)) ≡ at (given + length (leaves act m held)) (is_some (held_after act m held))
after_one Keep m None given = ap (λ n. at n false) (omega arith)
after_one Keep m (Some other) given = ap (λ n. at n false) (omega arith)
after_one Lose m held given = ap (λ n. at n (is_some held)) (omega arith)
after_one Double m None given = ap (λ n. at n false) (omega arith)
after_one Double m (Some other) given = ap (λ n. at n false) (omega arith)
after_one Hold m None given = ap (λ n. at n true) (omega arith)
after_one Hold m (Some other) given = ap (λ n. at n true) (omega arith)

after_all : (rule : RuleValue) (held : Option Msg) (given : ℕ) (taken : List Msg) → passage_behind rule (at given (is_some held)) (length taken) ≡ at (given + length (out_of (record { rule = rule; held = held }) taken)) (is_some (after_of (record { rule = rule; held = held }) taken).held)
after_all rule held given [] = ap (λ n. at n (is_some held)) (omega arith)
after_all rule held given (m ∷ taken) =
    let first = leaves (act_of rule) m held in
    let rest = out_of (record { rule = after_act rule; held = held_after (act_of rule) m held }) taken in
    ap (λ (p : Passage). passage_behind (after_act rule) p (length taken)) (after_one (act_of rule) m held given)
    ∙ after_all (after_act rule) (held_after (act_of rule) m held) (given + length first) taken
    ∙ ap (λ n. at n (is_some (after_of (record { rule = rule; held = held }) (m ∷ taken)).held)) (omega (arith, length-append first rest))

-- from the first message on
pub after_first : (rule : RuleValue) (taken : List Msg) → passage_behind rule nothing_yet (length taken) ≡ passage_of (fresh rule) taken
after_first rule taken =
    after_all rule None 0 taken
    ∙ ap (λ n. at n (is_some (after_of (fresh rule) taken).held)) (omega arith)

-- one message more
pub one_gone : (rule : RuleValue) (passage : Passage) (many gone : ℕ) → gone < many → passage_behind (after_act rule) (passage_after (act_of rule) passage) (many - (gone + 1)) ≡ passage_behind rule passage (many - gone)
one_gone rule passage many gone below =
    let next : many - gone ≡ suc (many - (gone + 1)) = omega arith in
    ap (λ (n : ℕ). passage_behind rule passage n) (sym next)
