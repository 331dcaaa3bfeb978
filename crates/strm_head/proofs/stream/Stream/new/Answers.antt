use Rattle.std.proofs.Common.{rules}
use Rattle.strm_head.proofs.stream.Stream.new.Goals as goal

pub returns-in-Ok-new-clause-ok : goal.returns-in-Ok-new-clause-ok
returns-in-Ok-new-clause-ok g c =
    rw c.in-Ok-new.ensures.ok (search rules)
