use Rattle.std.proofs.lemmas.List.{length-map}
use Rattle.strm_script_text.specs.Text.{texts_of}
use Rattle.strm_script_parse.proofs.FieldLemmas.{too_few}
use Rattle.strm_script_parse.proofs.setup.setup_at.Goals as goal

pub returns-in_default : goal.returns-in_default
returns-in_default c = too_few c.args.driver (texts_of c.args.texts.now) (rw (length-map c.args.texts.now (λ text. text.now)) c.in_default.len_below)
