-- The two ends of a ring that was just made.
use Rattle.std.specs.Prelude.{◌≡◌, ℕ, Option, Some, None, [], ⊤}
use Rattle.std.specs.Global.{Global}
use Rattle.rtrb.specs.declared.producer.Producer.{Producer}
use Rattle.rtrb.specs.declared.consumer.Consumer.{Consumer}
use Rattle.rtrb.specs.Ring.{sent, received, known_free, IsPair}

-- they are of one ring with room for this many messages, through which nothing has gone
abbrev pub AreNew : {T P : Type 0} → ℕ → Option (Producer T Global P × Consumer T Global P) → Type 0
AreNew room None = ⊤
AreNew room (Some ends) =
    IsPair ends.0 ends.1 × (sent ends.0 ≡ []) × (received ends.1 ≡ []) × (known_free ends.0 ≡ room)
