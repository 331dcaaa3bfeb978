-- The steps of a stream, as entries of its history have them.
use Rattle.std.specs.Prelude.{◌≡◌, ℕ, true, List, [], flat_map}
use Rattle.strm_msg.specs.declared.words.End.{End}
use Rattle.strm_module.specs.Kinds.{Meaning}
use Rattle.strm_module.specs.Calm.{IsCalm}
use Rattle.strm_module.specs.declared.shape.Shape.{Shape}
use Rattle.strm_chain_ends.specs.Image.{Image}
use Rattle.strm_head_calls.specs.declared.answer.Answer.{Answer}
use Rattle.strm_head_calls.specs.declared.answer.Answer.TheVariants.{Done, Refused, Broke}
use Rattle.strm_head_calls.specs.declared.event.Event.{Event}
use Rattle.strm_head_calls.specs.declared.event.Event.TheVariants.{Asked, Arrived}
use Rattle.strm_head.specs.StepResult.{IsLooked, IsBounded}
use Rattle.strm_head.specs.Effects.{effect_of, pushed_of}
use Rattle.strm_head.specs.Step.{Step, arrived_of}
use Rattle.strm_shared_entry.specs.Entry.{is_by, serial_of}
use Rattle.strm_shared_entry.specs.Entry.{Entry}

-- the serial of the module that an event hands in, if it hands one in
abbrev pub handed_in : {K : Type 0} → Event (Shape K) → List ℕ
handed_in (Asked request) = flat_map serial_of (pushed_of request)
handed_in (Arrived m) = []

-- the serials of the modules that must come back: that of a refused push, or those that were taken out
abbrev pub due_back : {K : Type 0} → Event (Shape K) → Answer → List ℕ → List ℕ
due_back event (Refused refusal) out = handed_in event
due_back event (Done reply) out = out
due_back event Broke out = out

-- for kinds of any meaning
module _ {K : Type 0} (means : Meaning K) where
  -- the effect of an event before any queue moves
  abbrev pub effect_by : Image K → End → Event (Shape K) → Image K
  effect_by image e (Asked request) = (effect_of means image e request).image
  effect_by image e (Arrived m) = arrived_of means image e m

  -- an entry is a step of the stream, with the maker that such a step has. Service looked at each place that
  -- moved, and where all modules are calm at few others
  pub record IsStep (image : Image K) (entry : Entry K) (after : Image K) : Type 0 where
    pub by : is_by entry.who entry.event ≡ true
    pub step : Step means image entry.end entry.event entry.answer entry.moves entry.out.items after
    pub looks : IsLooked entry.answer entry.moves entry.looks
    pub bound : IsCalm means → IsBounded (effect_by image entry.end entry.event) entry.answer entry.moves entry.looks after
