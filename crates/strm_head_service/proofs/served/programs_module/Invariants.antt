use Rattle.std.proofs.Common.{◌≡◌, ◌+◌, drop}
use Rattle.strm_chain_ends.specs.Image.{end_of}
use Rattle.strm_head_service.specs.Served.{programs_module, programs_from}
use Rattle.strm_head_service.proofs.served.programs_module.Given as goal

-- it is among the modules that are left
abbrev pub invariant-loop-i : goal.invariant-loop-i
invariant-loop-i g l =
    let end = end_of l.fn.chain.image l.fn.end in
    programs_module end l.fn.name.items ≡ programs_from (l.i + 1) l.fn.name.items (drop l.i end.modules)
