-- A stream that was just opened.
use Rattle.strm_chain_ends.specs.Image.{Image, fresh}
use Rattle.strm_head_calls.specs.declared.setup.Setup.{Setup}

-- a stream that was just made, with nothing on it
abbrev pub opened : {K : Type 0} → Setup → Image K
opened setup =
    fresh setup.driver (record { hi = setup.head.0; lo = setup.head.1 }) (record { hi = setup.drv.0; lo = setup.drv.1 })
