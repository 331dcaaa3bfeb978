use Rattle.std.proofs.Common.{◌∙◌, ◌+◌, sym}
use Rattle.strm_chain_ends.specs.Image.{end_of}
use Rattle.strm_head_service.proofs.ServedLemmas.{programs_here, programs_behind}
use Rattle.strm_head_service.proofs.served.programs_module.Goals as goal

pub returns-then-is_programs-clause-number : goal.returns-then-is_programs-clause-number
returns-then-is_programs-clause-number g c =
    let modules = (end_of c.args.chain.now.image c.args.end).modules in
    let found = rw c.unwrap-shape.ensures at c.shape.ensures in
    sym (c.loop-i.invariant ∙ programs_here c.args.name.now.items modules c.loop-i.i (c.loop-i.i + 1) c.unwrap-shape.result.now c.is_programs.result found c.is_programs.ensures c.if-is_programs.true)

pub loop-i-preserved : goal.loop-i-preserved
loop-i-preserved g c =
    let modules = (end_of c.args.chain.now.image c.args.end).modules in
    let found = rw c.unwrap-shape.ensures at c.shape.ensures in
    c.loop-i.invariant ∙ programs_behind c.args.name.now.items modules c.loop-i.i (c.loop-i.i + 1) c.unwrap-shape.result.now c.is_programs.result found c.is_programs.ensures c.if-is_programs.false
