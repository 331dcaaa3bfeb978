-- The chain that a refused call leaves.
use Rattle.std.specs.Prelude.{◌≡◌, ℕ, true, false, List, codes}
use Rattle.strm_chain_end.specs.Modules.{SameEnd}
use Rattle.strm_chain.specs.declared.fault.ChainFault.{ChainFault}
use Rattle.strm_chain.specs.declared.fault.ChainFault.TheVariants.{NoMem, Broken}
use Rattle.strm_chain_ends.specs.Image.{Image}

-- a chain that broke: the things that no message changes are as they were, and nothing else is said of it.
-- One that was broken before is as it was
pub record Breaks {K : Type 0} (old new : Image K) : Type 0 where
  pub is_broken : new.broken ≡ true
  pub driver : new.driver ≡ old.driver
  pub on_a : SameEnd old.a new.a
  pub on_b : SameEnd old.b new.b
  pub again : old.broken ≡ true → new ≡ old

-- nothing is changed in a whole chain
pub record IsUntouched {K : Type 0} (old new : Image K) : Type 0 where
  pub was_whole : old.broken ≡ false
  pub image : new ≡ old

-- the chain that a refused call leaves
abbrev pub Refuses : {K : Type 0} → ChainFault → Image K → Image K → Type 0
Refuses NoMem old new = IsUntouched old new
Refuses Broken old new = Breaks old new

-- the image that out of memory leaves of one that a call was to change: the image as it was, or a broken
-- stream, whose ends are open or closed as after the change, with the modules that then are there
abbrev pub Fails : {K : Type 0} → ChainFault → Image K → Image K → Image K → Type 0
Fails NoMem image changed after = after ≡ image
Fails Broken image changed after = Breaks changed after

-- the number of a fault
abbrev pub chain_fault_number : ChainFault → ℕ
chain_fault_number NoMem = 1
chain_fault_number Broken = 2

-- the text that a fault prints
abbrev pub chain_fault_text : ChainFault → List ℕ
chain_fault_text NoMem = codes "no memory"
chain_fault_text Broken = codes "the chain is broken"
