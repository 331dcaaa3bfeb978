-- The reason for which a shared stream was not ended.
use Rattle.std.specs.Prelude.{ℕ, List, codes}
use Rattle.strm_shared.specs.declared.fault.EndFault.{EndFault}
use Rattle.strm_shared.specs.declared.fault.EndFault.TheVariants.{Seats, Unfinished, NoMem, NoReceipt, Drained}

-- they are looked for in the order 1, 2, 4, 5, 3
abbrev pub end_number : EndFault → ℕ
end_number Seats = 1
end_number Unfinished = 2
end_number NoMem = 3
end_number NoReceipt = 4
end_number Drained = 5

-- the texts that the faults print
abbrev pub end_text : EndFault → List ℕ
end_text Seats = codes "not the seats of this stream, one for each caller"
end_text Unfinished = codes "a caller or the feeder has not ended"
end_text NoMem = codes "no memory"
end_text NoReceipt = codes "a call has no receipt"
end_text Drained = codes "a part of the history was handed out"
