use Rattle.std.specs.Str.Lines.{lines}
use Rattle.strm_script_parse.proofs.ReadLemmas.{spelt_sound}
use Rattle.strm_script_parse.proofs.parsing.parse_made.Goals as goal

pub returns-clause-sound : goal.returns-clause-sound
returns-clause-sound g c = spelt_sound g.M.Kind.ReadKind.words (lines c.args.bytes.now) c.parse_lines.result c.parse_lines.ensures
