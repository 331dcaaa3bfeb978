use Rattle.std.proofs.Common.{◌≡◌, take}
use Rattle.strm_script_parse.specs.RunInput.{run_links}
use Rattle.strm_script_parse.proofs.run_input.carried_links.Given as goal

-- the links so far that have a carrier
abbrev pub invariant-loop-link : goal.invariant-loop-link
invariant-loop-link l = l.all.items ≡ run_links (take l.link-index l.links)
