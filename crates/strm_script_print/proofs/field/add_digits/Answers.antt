use Rattle.std.proofs.Common.{List, ℕ, arith, subst}
use Rattle.strm_script_print.specs.LineBuffer.{BufferAppends}
use Rattle.strm_script_print.proofs.GatheredLemmas.{digit_is}
use Rattle.strm_script_print.proofs.field.add_digits.Goals as goal

-- a number of one digit
pub returns-then-n-lt10 : goal.returns-then-n-lt10
returns-then-n-lt10 g c =
    subst (λ (text : List ℕ). BufferAppends (g.W.Write.contents c.args.w.now) (g.W.Write.contents c.put.new.w) c.args.out.now c.put.new.self text) (digit_is c.args.n (omega arith)) c.put.ensures
