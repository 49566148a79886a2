use Rattle.pp_cli.proofs.tests.failing_devices.devices_that_never_fail_carry_the_whole_report.Given as goal

abbrev pub ghosts-run_with_counter : goal.ghosts-run_with_counter
ghosts-run_with_counter g a = record { name = a.blank.name; parts = a.blank.parts }
