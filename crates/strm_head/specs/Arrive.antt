-- The outcome of a message that comes in from a line.
use Rattle.std.specs.Prelude.{◌≡◌, ◌≤◌, ℕ, true, false, [], ⊤, Result, OnOk, IfErr}
use Rattle.strm_msg.specs.Message.{Msg}
use Rattle.strm_msg.specs.declared.words.End.TheVariants.{A}
use Rattle.strm_module.specs.Kinds.{Meaning}
use Rattle.strm_chain_ends.specs.Image.{Image}
use Rattle.strm_module.specs.Calm.{IsCalm}
use Rattle.strm_chain.specs.Fault.{Breaks}
use Rattle.strm_chain.specs.Count.{AreLooks, most_looks}
use Rattle.strm_chain.specs.Enabled.{ChainValue}
use Rattle.strm_head_calls.specs.declared.answer.Reply.TheVariants.{Line}
use Rattle.strm_head_calls.specs.declared.answer.Answer.TheVariants as Answer
use Rattle.strm_head.specs.declared.outcome.Arrived.{Arrived}
use Rattle.strm_head.specs.declared.outcome.Arrived.TheVariants.{Taken, Full, NoMem, Broke}
use Rattle.strm_head.specs.Step.{can_arrive, arrived_of, Lands}

-- for kinds of any meaning
module _ {K : Type 0} (means : Meaning K) where
  -- a message was taken, which is a step; or it comes back, and nothing is changed: with Full exactly where
  -- none can come in
  abbrev pub Arrives : Image K → Msg → Arrived → Image K → Type 0
  Arrives image m (Taken moves looks) after =
      Lands means image A m (Answer.Done Line) moves [] after × AreLooks moves looks × (IsCalm means → looks ≤ most_looks (arrived_of means image A m) moves after)
  Arrives image m (Full same) after = (can_arrive image A m ≡ false) × (same ≡ m) × (after ≡ image)
  Arrives image m (NoMem same) after = (can_arrive image A m ≡ true) × (same ≡ m) × (after ≡ image)
  Arrives image m Broke after = Lands means image A m Answer.Broke [] [] after

  -- a message that can come in did not: memory ran out, before a change or after one (no public clause cites
  -- it)
  abbrev pub NotIn : Image K → Msg → Arrived → Image K → Type 0
  NotIn image m (Taken moves looks) after = ⊥
  NotIn image m (Full same) after = ⊥
  NotIn image m (NoMem same) after = (same ≡ m) × (after ≡ image)
  NotIn image m Broke after = Breaks (arrived_of means image A m) after

  -- a message that can come in did, unless memory ran out; or it did not (no public clause cites them)
  abbrev pub IsTakenIn : {X : Type 0} → ChainValue K → Msg → Result X Arrived → ChainValue K → Type 0
  IsTakenIn old m result new = OnOk result (new.image ≡ arrived_of means old.image A m)

  abbrev pub StaysOut : {X : Type 0} → ChainValue K → Msg → Result X Arrived → ChainValue K → Type 0
  StaysOut old m result new = IfErr result (λ arrived. NotIn old.image m arrived new.image)

-- a message that was taken has the looks of its own service, as the run queue has given them (no public
-- clause cites it)
abbrev pub HasGiven : Arrived → ℕ → Type 0
HasGiven (Taken moves looks) given = looks ≡ given
HasGiven (Full same) given = ⊤
HasGiven (NoMem same) given = ⊤
HasGiven Broke given = ⊤
