-- The names of rings.
use Rattle.std.specs.Global.{Global}
use denote.RawPtr.{Ptr}
use Rattle.rtrb.specs.Shared.{Names}
use Rattle.rtrb.specs.declared.producer.Producer.{Producer}
use Rattle.rtrb.specs.declared.consumer.Consumer.{Consumer}
use Rattle.rtrb.specs.declared.finished.Finished.{Finished}
use Rattle.rtrb.specs.declared.end.End.{End}

-- the name of a ring: its two ends have it in common, and no other ring has it
pub record RingName : Type 0 where
  pub words : Ptr
  pub slots : Ptr
  pub names : Names
  pub heap : Global

module _ {T P : Type 0} where
  abbrev pub name_of : End T Global P → RingName
  name_of e = record { words = e.words; slots = e.slots; names = e.names; heap = e.heap }

  abbrev pub producer_name : Producer T Global P → RingName
  producer_name p = name_of p.end

  abbrev pub consumer_name : Consumer T Global P → RingName
  consumer_name c = name_of c.end

  abbrev pub finished_name : Finished T Global P → RingName
  finished_name f = name_of f.end
