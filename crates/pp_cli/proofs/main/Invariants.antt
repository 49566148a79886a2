use Rattle.pp_cli.proofs.main.Given as goal

abbrev pub ghosts-run_streams : goal.ghosts-run_streams
ghosts-run_streams a = record { name = a.blank.name; parts = a.blank.parts }
