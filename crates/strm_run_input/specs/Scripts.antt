-- Scripts, feeds and links: the calls and messages that they have for each stream.
use Rattle.std.specs.Prelude.{ℕ, zero, suc, ◌==◌, ◌&&◌, Bool, false, Option, Some, None, List, [], ◌∷◌, ◌++◌, length, if◌then◌else◌, Vec}
use Rattle.std.specs.Global.{Global}
use Rattle.std.specs.List.{flat_map}
use Rattle.strm_msg.specs.Message.{Msg}
use Rattle.strm_msg.specs.declared.words.End.{End}
use Rattle.strm_module.specs.declared.shape.Shape.{Shape}
use Rattle.strm_head_calls.specs.declared.event.Event.{Event}
use Rattle.strm_head_calls.specs.declared.event.Event.TheVariants.{Asked}
use Rattle.strm_run_input.specs.declared.script.ScriptCall.{ScriptCall}
use Rattle.strm_run_input.specs.declared.script.Feed.{Feed}
use Rattle.strm_run_input.specs.declared.run_link.RunLink.{RunLink}

-- the calls of blocks, one block after another, and then others
abbrev pub in_blocks : {P : Type 0} → List (Vec (ScriptCall P) Global) → List (ScriptCall P) → List (ScriptCall P)
in_blocks blocks others = flat_map (λ block. block.items) blocks ++ others

-- whether there is a first block, and it has no call
abbrev pub starts_empty : {P : Type 0} → List (Vec (ScriptCall P) Global) → Bool
starts_empty [] = false
starts_empty (block ∷ blocks) = length block.items == 0

-- the calls that a script has for a stream, in order: the end, and the request
abbrev pub calls_on : {K : Type 0} → ℕ → List (ScriptCall (Shape K)) → List (End × Event (Shape K))
calls_on number [] = []
calls_on number (one ∷ rest) =
    if one.stream == number then (one.call.end, Asked one.call.request) ∷ calls_on number rest else calls_on number rest

-- the calls of a caller; there are none past the last
abbrev pub script_of : {P : Type 0} → List (List (ScriptCall P)) → ℕ → List (ScriptCall P)
script_of [] caller = []
script_of (script ∷ rest) zero = script
script_of (script ∷ rest) (suc caller) = script_of rest caller

-- the messages that a stream is fed
abbrev pub feed_of : List Feed → ℕ → List Msg
feed_of [] number = []
feed_of (feed ∷ rest) number = if feed.stream == number then feed.messages.items else feed_of rest number

-- the link that leads to a stream, if one does
abbrev pub link_to : List RunLink → ℕ → Option RunLink
link_to [] number = None
link_to (link ∷ rest) number = if link.to == number then Some link else link_to rest number

-- the link on which a caller carries from a stream, if there is one
abbrev pub link_from : List RunLink → ℕ → ℕ → Option RunLink
link_from [] caller number = None
link_from (link ∷ rest) caller number =
    if link.by == caller && link.from == number then Some link else link_from rest caller number
