use Rattle.strm_run.proofs.running.run_in_order.Given as goal

-- a run is about what it is given, and the rings that were made for it
abbrev pub ghosts-run_named_in_order : goal.ghosts-run_named_in_order
ghosts-run_named_in_order g a = record { run = record { setups = a.setups.items; scripts = a.scripts.items; feeds = a.feeds.items; links = a.links.items }; rings = a.rings.items }
