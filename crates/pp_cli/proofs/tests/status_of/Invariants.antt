use Rattle.pp_cli.proofs.tests.status_of.Given as goal

abbrev pub ghosts-run_with_counter : goal.ghosts-run_with_counter
ghosts-run_with_counter a = record { name = a.blank.name; parts = a.blank.parts }
