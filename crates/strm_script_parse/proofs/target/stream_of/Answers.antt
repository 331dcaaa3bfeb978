use Rattle.std.proofs.Common.{◌∙◌}
use Rattle.strm_script_parse.proofs.StreamLemmas.{stream_none, stream_some}
use Rattle.strm_script_parse.proofs.target.stream_of.Goals as goal

pub returns-in_err-number : goal.returns-in_err-number
returns-in_err-number c = c.from_residual.ensures ∙ stream_none (λ k. k.items) c.args.wanted.now.items c.args.streams.now.entries c.in_err-number.ensures.index

pub returns : goal.returns
returns c = stream_some (λ k. k.items) c.args.wanted.now.items c.args.streams.now.entries _ c.in_ok-number.field-0-1.now _ c.in_ok-number.ensures.index c.in_ok-number.ensures.entry
