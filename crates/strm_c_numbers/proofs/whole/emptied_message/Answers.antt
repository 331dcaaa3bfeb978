use Rattle.std.proofs.Common.{List, ℕ, Bor, option_map, sym, ◌∙◌, ap₂, rules, arith}
use Rattle.strm_msg.specs.Message.{Part}
use Rattle.strm_c_numbers.specs.Whole.{whole_message}
use Rattle.strm_c_numbers.proofs.WholeLemmas.{told_by_data, not_told}
use Rattle.strm_c_numbers.proofs.whole.emptied_message.Goals as goal

pub returns-then-is_told_by_data : goal.returns-then-is_told_by_data
returns-then-is_told_by_data c =
    let whole = told_by_data c.args.whole.now (option_map (λ (bytes : Bor (List ℕ)). bytes.now) c.args.ctl) (option_map (λ (bytes : Bor (List ℕ)). bytes.now) c.args.dat) in
    first_of (search (rules, whole), grind (arith, whole))

pub returns : goal.returns
returns c =
    let whole = not_told c.args.whole.now (option_map (λ (bytes : Bor (List ℕ)). bytes.now) c.args.ctl) (option_map (λ (bytes : Bor (List ℕ)). bytes.now) c.args.dat) (sym c.is_told_by_data.ensures ∙ c.if-is_told_by_data.false) in
    c.whole_message.ensures ∙ ap₂ (λ (ctl dat : Part). whole_message c.args.whole.now ctl dat) c.emptied.ensures c.emptied-2.ensures ∙ sym whole
