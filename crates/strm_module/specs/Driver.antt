-- The drivers, their ends, and the ends up which they send messages that come down (Programmer's Guide:
-- STREAMS, "Loop-Around Driver").
use Rattle.std.specs.Prelude.{ℕ, List, Bool, true, false, codes}
use Rattle.strm_msg.specs.declared.words.End.{End}
use Rattle.strm_msg.specs.declared.words.End.TheVariants.{A, B}
use Rattle.strm_module.specs.declared.driver.Driver.{Driver}
use Rattle.strm_module.specs.declared.driver.Driver.TheVariants.{Echo, Loop, Line, Wire}

-- the ends of a driver: a loop has two
abbrev pub has_end : Driver → End → Bool
has_end Echo A = true
has_end Echo B = false
has_end Line A = true
has_end Line B = false
has_end Loop e = true
has_end Wire A = true
has_end Wire B = false

-- the end up whose read side a driver sends messages that came down an end, and those that came in from
-- outside
abbrev pub partner : Driver → End → End
partner Echo e = e
partner Line e = e
partner Loop A = B
partner Loop B = A
partner Wire A = B
partner Wire B = A

-- the drivers to which messages come from a line
abbrev pub is_line : Driver → Bool
is_line Echo = false
is_line Loop = false
is_line Line = true
is_line Wire = true

-- the driver from which messages that come down are taken from outside
abbrev pub is_wire : Driver → Bool
is_wire Echo = false
is_wire Loop = false
is_wire Line = false
is_wire Wire = true

-- the end whose list holds messages that came in from a line: of a wire the far one, which has no head
abbrev pub input_end : Driver → End
input_end Echo = A
input_end Loop = A
input_end Line = A
input_end Wire = B

-- whether the driver's list for an end is serviced, and its messages go up. That holds of the list of each
-- end, but of a wire only of that for messages that came in, not of that for messages that are to be taken
abbrev pub is_serviced : Driver → End → Bool
is_serviced Echo A = true
is_serviced Echo B = false
is_serviced Loop e = true
is_serviced Line A = true
is_serviced Line B = false
is_serviced Wire A = false
is_serviced Wire B = true

-- the name of a driver (streamio(7), I_LIST)
abbrev pub driver_name : Driver → List ℕ
driver_name Echo = codes "echo"
driver_name Loop = codes "loop"
driver_name Line = codes "line"
driver_name Wire = codes "wire"
