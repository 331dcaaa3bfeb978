-- The exported calls, on the stream to which a handle leads.
use Rattle.std.specs.Prelude.{◌≡◌, ◌||◌, ℕ, Bool, Option, List, ℤ}
use Rattle.strm_module.specs.declared.driver.Driver.{Driver}
use Rattle.strm_head_calls.specs.declared.answer.Answer.{Answer}
use Rattle.strm_c_numbers.specs.Messages.{message_of}
use Rattle.strm_c_numbers.specs.Numbers.{end_of}
use Rattle.strm_c_calls.specs.Arguments.{RequestOrRefusal, part_argument}
use Rattle.strm_c_calls.specs.Arrival.{CopiesAndHandsIn, arrival_refusal}
use Rattle.strm_c_calls.specs.Call.{Calls, CopiesAndCalls, Opens}
use Rattle.strm_c_calls.specs.Judged.{IsMade}
use Rattle.strm_c_calls.specs.declared.handle.Handle.{Handle}

-- an open, which leaves the handle as it was if it fails
abbrev pub OpensOn : Handle → Option Driver → ℕ × ℕ → ℕ × ℕ → ℤ → Handle → Type 0
OpensOn old driver head drv code new = Opens driver head drv code (new ≡ old) new.is_open new.held.stream

-- the request of arguments, whole and with its bytes, or the answer in its place
abbrev pub IsMadeOn : Handle → ℕ → RequestOrRefusal → RequestOrRefusal → Type 0
IsMadeOn s end asked made = IsMade s.held.stream (end_of end) asked made

-- a call
abbrev pub CallsOn : Handle → ℕ → RequestOrRefusal → (Answer → Type 0) → ℤ → Handle → Type 0
CallsOn old end asked writes code new = Calls old.held.stream end asked writes code new.held.stream

-- a call in which memory may run out for a copy
abbrev pub CopiesAndCallsOn : Handle → ℕ → RequestOrRefusal → (Answer → Type 0) → ℤ → Handle → Type 0
CopiesAndCallsOn old end asked writes code new = CopiesAndCalls old.held.stream end asked writes code new.held.stream

-- a message of a kind and a band, with these parts and this number, is handed in
abbrev pub ArrivesOn : Handle → ℕ → ℕ → Bool → List ℕ → Bool → List ℕ → ℕ → ℤ → Handle → Type 0
ArrivesOn old kind band has_ctl ctl has_dat dat number code new =
    CopiesAndHandsIn (arrival_refusal old.held.stream has_ctl ctl has_dat dat) (has_ctl || has_dat) old.held.stream (message_of kind band (part_argument has_ctl ctl) (part_argument has_dat dat) number) code new.held.stream
