use Rattle.std.proofs.Common.{Ok, ap, sym, ◌∙◌}
use Rattle.strm_script_parse.specs.Plan.{streams_view}
use Rattle.strm_script_parse.proofs.StreamLemmas.{inserted}
use Rattle.strm_script_parse.proofs.names.add_stream.Goals as goal

pub returns : goal.returns
returns c = ap Ok (sym (ap streams_view c.in_ok-insert.ensures.entries ∙ inserted (λ k. k.items) c.args.streams.now.entries c.args.chosen c.args.setup c.requires))
