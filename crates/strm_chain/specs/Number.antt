-- Queues by number, from 0 on: the heads, the drivers' lists, and for each module its write queue and its
-- read queue, each of end A before that of end B.
use Rattle.std.specs.Prelude.{ℕ, ◌+◌, ◌-◌, ◌*◌, ◌/◌, ◌%◌, ◌==◌, nat_lt, if◌then◌else◌}
use Rattle.strm_msg.specs.declared.words.End.{End}
use Rattle.strm_msg.specs.declared.words.End.TheVariants.{A, B}
use Rattle.strm_chain_ends.specs.declared.place.Place.{Place}
use Rattle.strm_chain_ends.specs.declared.place.Place.TheVariants as Places
use Rattle.strm_chain_ends.specs.declared.place.NextQueue.{NextQueue}
use Rattle.strm_chain_ends.specs.declared.place.NextQueue.TheVariants.{Of, Head}

abbrev pub at_end : End → ℕ → ℕ
at_end A n = n
at_end B n = n + 1

abbrev pub queue_number : NextQueue → ℕ
queue_number (Head e) = at_end e 0
queue_number (Of (Place.Drv e)) = at_end e 2
queue_number (Of (Place.Wr e i)) = at_end e (4 * i + 4)
queue_number (Of (Place.Rd e i)) = at_end e (4 * i + 6)

-- the number of a place is that of its queue
abbrev pub place_number : Place → ℕ
place_number place = queue_number (Of place)

abbrev pub end_by : ℕ → End
end_by n = if n % 2 == 0 then A else B

-- the place of a number, which is not that of a head
abbrev pub place_of : ℕ → Place
place_of n =
    if n / 4 == 0 then Places.Drv (end_by n)
    else (if nat_lt (n % 4) 2 then Places.Wr (end_by n) (n / 4 - 1) else Places.Rd (end_by n) (n / 4 - 1))
