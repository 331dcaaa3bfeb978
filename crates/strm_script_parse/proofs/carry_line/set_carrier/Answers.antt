use Rattle.strm_script_parse.proofs.StreamLemmas.{carrier_set, carrier_past}
use Rattle.strm_script_parse.proofs.carry_line.set_carrier.Goals as goal

pub returns-then-number-links : goal.returns-then-number-links
returns-then-number-links c = carrier_set c.args.process c.args.links.now c.args.number c.index-links-number.result

pub returns-else-number-links : goal.returns-else-number-links
returns-else-number-links c = carrier_past c.args.process c.args.links.now c.args.number c.if-number-links.false
