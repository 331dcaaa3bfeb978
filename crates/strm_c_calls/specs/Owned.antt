-- The property of a handle: an open handle owns the box that its pointer leads to, a closed one owns nothing.
use base.Fml.{Fml, ftrue}
use base.Stored.{Coded}
use denote.RawPtr.{Ptr}
use Rattle.std.specs.Prelude.{Bool, true, false}
use Rattle.std.specs.Box.Ownership.{box_owns}
use Rattle.std.specs.Global.{Global}
use Rattle.std_heap.specs.contracts.GlobalAllocator.TheImpl.{ghosts}
use Rattle.strm_c_calls.specs.contracts.held.Held.{the_row}

abbrev pub handle_owns : Bool → Global → Ptr → the_row.Denot → Fml
handle_owns true alloc at held = box_owns (ghosts.dealloc_token alloc) the_row at held
handle_owns false alloc at held = ftrue

-- the layout in memory of the stream that a handle holds (only proofs cite it)
abbrev pub held_coded : Coded the_row.Denot
held_coded = the_row.coded
