-- The places of an entry's parts.
use Rattle.std.specs.Prelude.{◌≡◌, ℕ, Bool, true, false, []}
use Rattle.arrayvec.specs.ArrayVec.{ArrayVec}
use Rattle.strm_msg.specs.declared.words.End.{End}
use Rattle.strm_shared_entry.specs.declared.entry.Who.{Who}
use Rattle.strm_shared_entry.specs.declared.entry.Who.TheVariants.{Caller, Line}
use Rattle.strm_shared_entry.specs.declared.header.Header.{Header}
use Rattle.strm_shared_entry.specs.declared.header.Header.TheVariants.{Plain, Taking}
use Rattle.strm_shared_entry.specs.declared.service_info.ServiceInfo.{ServiceInfo}
use Rattle.strm_shared_entry.specs.declared.service_info.ServiceInfo.TheVariants.{Looks, Out}

-- the maker of a step: the line, or a caller
abbrev pub who_of : Bool → ℕ → Who
who_of true caller = Line
who_of false caller = Caller caller

abbrev pub who_in : Header → Who
who_in (Plain end is_line caller looks) = who_of is_line caller
who_in (Taking end is_line caller taken_out) = who_of is_line caller

-- the end of a step
abbrev pub end_in : Header → End
end_in (Plain end is_line caller looks) = end
end_in (Taking end is_line caller taken_out) = end

-- the number of places that service looked at
abbrev pub looks_in : Header → ℕ
looks_in (Plain end is_line caller looks) = looks
looks_in (Taking end is_line caller taken_out) = taken_out.value.looks

-- the serials of the modules that were taken out: there are none without a box for them
abbrev pub out_in_box : Header → ArrayVec ℕ
out_in_box (Plain end is_line caller looks) = record { items = [] }
out_in_box (Taking end is_line caller taken_out) = taken_out.value.out

-- two headers say the same
abbrev pub IsSameHeader : Header → Header → Type 0
IsSameHeader one other =
    (who_in one ≡ who_in other) × (end_in one ≡ end_in other) × (looks_in one ≡ looks_in other) × (out_in_box one ≡ out_in_box other)

-- the looks and the serials, before they are in an entry
abbrev pub looks_before : ServiceInfo → ℕ
looks_before (Looks looks) = looks
looks_before (Out taken_out) = taken_out.value.looks

abbrev pub out_before : ServiceInfo → ArrayVec ℕ
out_before (Looks looks) = record { items = [] }
out_before (Out taken_out) = taken_out.value.out
