use Rattle.strm_run.proofs.running.run.Given as goal

-- a run is about what it is given, and the rings that were made for it
abbrev pub ghosts-run_named : goal.ghosts-run_named
ghosts-run_named g a = record { run = record { setups = a.setups.items; scripts = a.scripts.items; feeds = a.feeds.items; links = a.links.items }; rings = a.rings.items }
