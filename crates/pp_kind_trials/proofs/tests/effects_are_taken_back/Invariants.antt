use Rattle.pp_kind_trials.proofs.tests.effects_are_taken_back.Given as goal

abbrev pub ghosts-try_effect : goal.ghosts-try_effect
ghosts-try_effect g a = record { name = a.blank.name; parts = a.blank.parts }
