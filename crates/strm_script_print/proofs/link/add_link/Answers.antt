use Rattle.strm_script_print.specs.Links.{passage_text}
use Rattle.strm_script_print.proofs.GatheredLemmas.{puts_then}
use Rattle.strm_script_print.proofs.link.add_link.Goals as goal

-- its parts are added, one behind the other
pub returns : goal.returns
unfolding passage_text
returns g c =
    puts_then _ _ _ _ _ _ _ _ (puts_then _ _ _ _ _ _ _ _ (puts_then _ _ _ _ _ _ _ _ c.put.ensures c.add_wires.ensures) c.add_passage.ensures) c.put-2.ensures
