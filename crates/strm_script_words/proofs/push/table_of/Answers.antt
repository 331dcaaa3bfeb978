use Rattle.std.proofs.Common.{rules, arith}
use Rattle.strm_script_words.specs.Push.{image_of}
use Rattle.strm_script_words.proofs.TableLemmas.{one_more, all_done}
use Rattle.strm_script_words.proofs.push.table_of.Goals as goal

pub loop-at-preserved : goal.loop-at-preserved
loop-at-preserved c = record {
  many = search rules;
  same = one_more (image_of c.args.from.now c.args.to.now) c.loop-at.table c.loop-at.at _ (omega (arith, c.loop-at-test.true, c.loop-at.invariant.many)) c.image_of.ensures c.loop-at.invariant.same;
}

pub returns : goal.returns
returns c = all_done c.args.from.now c.args.to.now c.loop-at.table c.loop-at.at c.loop-at.invariant.many c.loop-at-test.false c.loop-at.auto.at-end c.loop-at.invariant.same
