use Rattle.std.proofs.Common.{take, map}
use Rattle.std.specs.Io.KnownBytes.{Appends}
use Rattle.strm_script_parse.specs.Plan.{link_view, streams_of}
use Rattle.strm_script_print.specs.Links.{links_text}
use Rattle.strm_script_print.proofs.link.put_links.Given as goal

-- the links so far are written
abbrev pub invariant-loop-link : goal.invariant-loop-link
invariant-loop-link g l =
    Appends (g.W.Write.contents l.fn.w) (g.W.Write.contents l.w) (links_text (streams_of l.streams) l.logs (map link_view (take l.link-index l.links)))
