use Rattle.std.proofs.Common.{◌∙◌}
use Rattle.strm_script_parse.proofs.StreamLemmas.{has_name}
use Rattle.strm_script_parse.proofs.names.has_stream.Goals as goal

pub returns : goal.returns
returns c = c.contains_key.ensures ∙ has_name (λ k. k.items) c.args.chosen.now.items c.args.streams.now.entries
