-- An end that is lent: the ends of a stream are those of before, with that end as it was left.
use Rattle.std.specs.Borrow.{Lends, MutBor, Fml, RattleType}
use Rattle.strm_msg.specs.declared.words.End.{End}
use Rattle.strm_msg.specs.declared.words.End.TheVariants.{A, B}
use Rattle.strm_module.specs.declared.driver.Driver.{Driver}
use Rattle.strm_module.specs.declared.vocabulary.Kinds.{Ghosts}
use Rattle.strm_chain_end.specs.End.{EndValue}
use Rattle.strm_chain_end.specs.contracts.end.StreamEnd as stream_end
use Rattle.strm_chain_ends.specs.Image.{EndsValue, Rooms, at_input, with_end}
use Rattle.strm_chain_ends.specs.contracts.ends.Ends as ends

-- the room of the lists, with that of one end's
abbrev pub with_room : {K : Type 0} → Driver → Rooms → End → EndValue K → Rooms
with_room d rooms A e = record rooms { a = e.head_room; line = at_input d e.drv_room rooms.line }
with_room d rooms B e = record rooms { b = e.head_room; line = at_input d rooms.line e.drv_room }

-- the ends, with one of them and its room
abbrev pub with_value : {K : Type 0} → EndsValue K → End → EndValue K → EndsValue K
with_value old end e =
    record { image = with_end old.image end e.state; rooms = with_room old.image.driver old.rooms end e }

-- r lends an end: the last value behind it takes the end's place, and the rest stays
abbrev pub LendsEnd : (M K : RattleType) → Ghosts K.Denot → End → MutBor (EndsValue K.Denot) → MutBor (EndValue K.Denot) → Fml
LendsEnd M K kinds end s r = Lends (ends.the_row M K kinds) (stream_end.the_row M K kinds) s r (with_value s.now end)
