-- The bytes that a getmsg or a read takes of a message, and the rest (getmsg(2)).
use Rattle.std.specs.Prelude.{ℕ, nat_le, Option, Some, None, length, take, drop, if◌then◌else◌, option_map}
use Rattle.strm_msg.specs.Message.{Msg, Part, data_msg}
use Rattle.strm_head_calls.specs.declared.answer.More.{More}
use Rattle.strm_head_calls.specs.declared.answer.More.TheVariants.{Nothing, Ctl, Data, Both}
use Rattle.strm_head_calls.specs.declared.cut.Cut.{Cut}

-- a greatest length; none means that the part is not asked for
abbrev pub Most : Type 0
Most = Option ℕ

-- the bytes that are given of a part: absent where it is not asked for or not there
abbrev pub given : Most → Part → Part
given None part = None
given (Some most) part = option_map (take most) part

-- the rest: a part that is not asked for whole, else the bytes beyond the greatest length, if any
abbrev pub left_of : Most → Part → Part
left_of None part = part
left_of (Some most) None = None
left_of (Some most) (Some bytes) = if nat_le (length bytes) most then None else Some (drop most bytes)

-- the parts that stay (MORECTL, MOREDATA)
abbrev pub more_of : Part → Part → More
more_of None None = Nothing
more_of None (Some dat) = Data
more_of (Some ctl) None = Ctl
more_of (Some ctl) (Some dat) = Both

-- the message that the parts which stay make: data alone is no protocol message any longer, and a high
-- message's rest is then of band 0
abbrev pub remainder : Msg → Part → Part → Option Msg
remainder m None None = None
remainder m None (Some dat) = Some (data_msg m.band dat)
remainder m (Some ctl) dat = Some (record m { ctl = Some ctl; dat = dat })

-- the bytes that are given of a message, the parts that stay, and the message that they make
abbrev pub cut_of : Msg → Most → Most → Cut
cut_of m maxctl maxdat =
    let ctl = left_of maxctl m.ctl in
    let dat = left_of maxdat m.dat in
    record { ctl = given maxctl m.ctl; dat = given maxdat m.dat; more = more_of ctl dat; rest = remainder m ctl dat }
