use Rattle.std.proofs.Common.{rules}
use Rattle.strm_script_print.proofs.LineLemmas.{seen_at}
use Rattle.strm_script_print.proofs.printing.put_numbered.Goals as goal

pub returns-in-Some : goal.returns-in-Some
returns-in-Some g c = let some = seen_at c.args.names.now.streams.entries c.args.number _ c.in-Some.ensures.entry in search rules

pub returns-in-None : goal.returns-in-None
returns-in-None g c = let none = seen_at c.args.names.now.streams.entries c.args.number _ c.in-None.ensures.entry in search rules
