-- The reason for which a ring was not made.
use Rattle.std.specs.Prelude.{ℕ, List, codes}
use Rattle.strm_shared_ring.specs.declared.fault.RingFault.{RingFault}
use Rattle.strm_shared_ring.specs.declared.fault.RingFault.TheVariants.{Slots, NoMem}

-- in the order in which they are looked for
abbrev pub ring_number : RingFault → ℕ
ring_number Slots = 1
ring_number NoMem = 2

-- the texts that the faults print
abbrev pub ring_text : RingFault → List ℕ
ring_text Slots = codes "the ring of a line does not hold 1 to 4096 messages"
ring_text NoMem = codes "no memory"
