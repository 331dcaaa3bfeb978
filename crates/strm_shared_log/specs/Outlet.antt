-- A stream of whose history parts were handed out. No public clause cites these definitions.
use Rattle.std.specs.Prelude.{◌≡◌, Bool, true, Option, Some, None, IfSome, List, [], ◌++◌, All}
use Rattle.std.specs.Global.{Global}
use Rattle.rtrb.specs.declared.producer.Producer.{Producer}
use Rattle.rtrb.specs.Ring.{sent}
use Rattle.strm_module.specs.Kinds.{Meaning}
use Rattle.strm_chain_ends.specs.Image.{Image}
use Rattle.strm_head_calls.specs.declared.setup.Setup.{Setup}
use Rattle.strm_shared_entry.specs.Entry.{Entry}
use Rattle.strm_shared_log.specs.History.{Legal}
use Rattle.strm_shared_log.specs.Opened.{opened}
use Rattle.strm_shared_log.specs.Piece.{entries_of}
use Rattle.strm_shared_log.specs.declared.part.Part.{Part}

module _ {K P : Type 0} where
  -- the entries that were handed out, if there is an outlet
  abbrev pub gone_of : Option (Producer (Part K) Global P) → List (Entry K)
  gone_of None = []
  gone_of (Some outlet) = entries_of (sent outlet)

  -- each part that was handed out has this setup
  abbrev pub HasSetup : Setup → Option (Producer (Part K) Global P) → Type 0
  HasSetup setup outlet = IfSome outlet (λ o. All (λ p. p.setup ≡ setup) (sent o))

  -- what was handed out and what is kept, one behind the other, lead by steps from a stream that was just
  -- opened to the one that is there; and where nothing was handed out this is known
  pub record IsLog (means : Meaning K) (setup : Setup) (stream : Image K) (outlet : Option (Producer (Part K) Global P)) (kept : List (Entry K)) (is_whole : Bool) : Type 0 where
    pub legal : Legal means (opened setup) (gone_of outlet ++ kept) stream
    pub setups : HasSetup setup outlet
    pub whole : is_whole ≡ true → gone_of outlet ≡ []
