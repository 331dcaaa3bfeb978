use Rattle.strm_script_print.proofs.link.add_wires.Goals as goal

pub returns : goal.returns
returns g c = rw c.name_in-2.ensures at (rw c.name_in.ensures at (rw c.as_slice.ensures.value at c.add_all.ensures))
