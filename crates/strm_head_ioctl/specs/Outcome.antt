-- The outcome of a call that changes a chain.
use Rattle.std.specs.Prelude.{◌≡◌, Result, OnOk, OnErr, IfErr}
use Rattle.strm_chain_ends.specs.Image.{Image}
use Rattle.strm_chain.specs.Enabled.{ChainValue}
use Rattle.strm_chain.specs.Fault.{Breaks, Fails}
use Rattle.strm_chain.specs.declared.fault.ChainFault.{ChainFault}

-- a call that is done leaves this image
abbrev pub EndsIn : {K X F : Type 0} → Result X F → Image K → ChainValue K → Type 0
EndsIn result changed new = OnOk result (new.image ≡ changed)

-- memory ran out of a call that was to leave this image: before any change, or after one
abbrev pub FailsIn : {K X : Type 0} → Result X ChainFault → ChainValue K → Image K → ChainValue K → Type 0
FailsIn result old changed new = IfErr result (λ fault. Fails fault old.image changed new.image)

-- memory ran out after a change, and broke the chain
abbrev pub BreaksIn : {K X F : Type 0} → Result X F → Image K → ChainValue K → Type 0
BreaksIn result changed new = OnErr result (Breaks changed new.image)
