-- The number of times that each module is on a stream, is put in, and is taken out.
use Rattle.std.specs.Prelude.{◌≡◌, ℕ, ◌+◌, ◌==◌, List, [], ◌∷◌, ◌++◌, flat_map, if◌then◌else◌}
use Rattle.strm_module.specs.declared.shape.Shape.{Shape}
use Rattle.strm_chain_end.specs.End.{shapes_of}
use Rattle.strm_chain_ends.specs.Image.{Image}
use Rattle.strm_head_calls.specs.declared.request.Request.TheVariants.{Push}
use Rattle.strm_head_calls.specs.declared.answer.Answer.{Answer}
use Rattle.strm_head_calls.specs.declared.answer.Answer.TheVariants.{Done, Broke}
use Rattle.strm_head_calls.specs.declared.event.Event.{Event}
use Rattle.strm_head_calls.specs.declared.event.Event.TheVariants.{Asked}
use Rattle.strm_shared_entry.specs.Entry.{Entry}
use Rattle.strm_head.specs.Effects.{serials_of}

-- the modules of both ends, by their serials
abbrev pub standing : {K : Type 0} → Image K → List ℕ
standing image = serials_of (shapes_of image.a) ++ serials_of (shapes_of image.b)

-- the module that an entry has put in: that of a push that was done, or after which the stream broke
abbrev pub pushed_by : {K : Type 0} → Event (Shape K) → Answer → List ℕ
pushed_by (Asked (Push shape)) (Done reply) = shape.serial ∷ []
pushed_by (Asked (Push shape)) Broke = shape.serial ∷ []
pushed_by event answer = []

abbrev pub pushed_in : {K : Type 0} → List (Entry K) → List ℕ
pushed_in entries = flat_map (λ entry. pushed_by entry.event entry.answer) entries

abbrev pub taken_in : {K : Type 0} → List (Entry K) → List ℕ
taken_in entries = flat_map (λ entry. entry.out.items) entries

abbrev pub is_one : ℕ → ℕ → ℕ
is_one serial other = if other == serial then 1 else 0

-- the number of times that a serial is in a list
abbrev pub times_in : ℕ → List ℕ → ℕ
times_in serial [] = 0
times_in serial (other ∷ serials) = is_one serial other + times_in serial serials

-- each module that was there or was put in was taken out or is there now, the same number of times
abbrev pub AreAccounted : {K : Type 0} → Image K → List (Entry K) → Image K → Type 0
AreAccounted start entries after =
    (serial : ℕ) → times_in serial (standing start) + times_in serial (pushed_in entries) ≡ times_in serial (taken_in entries) + times_in serial (standing after)
