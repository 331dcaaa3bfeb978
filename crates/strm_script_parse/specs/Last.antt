-- The stream that was found last.
use Rattle.std.specs.Prelude.{◌≡◌, Option, Some}
use Rattle.std.specs.Option.{ForSome}
use Rattle.strm_script_parse.specs.Streams.{Streams}
use Rattle.strm_script_parse.specs.Targets.{stream_at}
use Rattle.strm_script_parse.specs.declared.declared.Found.{Found}

-- if a stream was found, it is the one that its name has among these streams
abbrev pub IsKnown : Streams → Option Found → Type 0
IsKnown streams last = ForSome last (λ found. stream_at streams found.name.items ≡ Some (found.number, found.driver))
