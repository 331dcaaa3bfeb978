use Rattle.std.proofs.Common.{◌≡◌, ◌++◌, take}
use Rattle.strm_script_parse.specs.RunInput.{call_streams}
use Rattle.strm_script_parse.proofs.run_input.add_streams.Given as goal

-- the streams of the calls so far were added
abbrev pub invariant-loop-call : goal.invariant-loop-call
invariant-loop-call g l = l.streams.items ≡ l.fn.streams.items ++ call_streams (take l.call-index l.calls)
