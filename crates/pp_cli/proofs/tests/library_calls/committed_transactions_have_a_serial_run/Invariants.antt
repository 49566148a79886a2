use Rattle.pp_cli.proofs.tests.library_calls.committed_transactions_have_a_serial_run.Given as goal

abbrev pub ghosts-try_serial : goal.ghosts-try_serial
ghosts-try_serial g a = record { name = a.blank.name; parts = a.blank.parts }
