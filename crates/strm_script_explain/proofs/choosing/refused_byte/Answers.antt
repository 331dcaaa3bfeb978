use Rattle.std.proofs.Common.{arith, sym, ap, not, ◌∙◌, length}
use Rattle.std.proofs.lemmas.List.Sums.{position_or_len_is}
use Rattle.strm_script_text.specs.Bytes.{is_allowed}
use Rattle.strm_script_explain.proofs.choosing.refused_byte.Goals as goal

pub returns-then-not-is_allowed : goal.returns-then-not-is_allowed
returns-then-not-is_allowed c =
    sym (position_or_len_is (λ byte. not (is_allowed byte)) c.args.line.now c.loop-at.at 0 c.loop-at.auto.at-end (λ k before. ap not (c.loop-at.invariant k before)) (λ inside. ap not (sym c.is_allowed.ensures ∙ c.if-not-is_allowed.true)))

pub returns : goal.returns
returns c =
    let line = c.args.line.now in
    sym (position_or_len_is (λ byte. not (is_allowed byte)) line (length line) 0 (omega arith) (λ k inside. ap not (c.loop-at.invariant k (omega arith))) (λ past. absurd (omega arith)))
