-- The entries of a history by their makers: the calls of each caller, and the messages that came in.
use Rattle.std.specs.Prelude.{◌≡◌, ℕ, nat_lt, zero, suc, Bool, true, Option, None, List, filter, flat_map, length, slice_get, All}
use Rattle.strm_msg.specs.Message.{Msg}
use Rattle.strm_shared_entry.specs.declared.entry.Who.{Who}
use Rattle.strm_shared_entry.specs.declared.entry.Who.TheVariants.{Caller, Line}
use Rattle.strm_shared_entry.specs.Entry.{Entry}
use Rattle.strm_shared_entry.specs.Entry.{is_caller, came_in}

-- the steps that a caller made, in order: its calls
abbrev pub own : {K : Type 0} → ℕ → List (Entry K) → List (Entry K)
own caller history = filter (λ entry. is_caller caller entry.who) history

-- the number of calls that a caller has made
abbrev pub calls_of : {K : Type 0} → ℕ → List (Entry K) → ℕ
calls_of caller history = length (own caller history)

-- the entry of a caller's call of this number, counted from 1
abbrev pub entry_at : {K : Type 0} → ℕ → ℕ → List (Entry K) → Option (Entry K)
entry_at caller zero history = None
entry_at caller (suc before) history = slice_get (own caller history) before

-- the messages that came in, in order
abbrev pub arrivals : {K : Type 0} → List (Entry K) → List Msg
arrivals history = flat_map (λ entry. came_in entry.event) history

-- the step was made by the line, or by a caller who has a seat
abbrev pub has_seat : ℕ → Who → Bool
has_seat callers (Caller caller) = nat_lt caller callers
has_seat callers Line = true

-- each step of a history was
abbrev pub AreFromSeats : {K : Type 0} → ℕ → List (Entry K) → Type 0
AreFromSeats callers history = All (λ entry. has_seat callers entry.who ≡ true) history
