use Rattle.pp_laws_runs.proofs.Rising.{rising_law}
use Rattle.pp_laws_runs.proofs.Timely.{certified_timely_law, timely_law}
use Rattle.pp_laws_runs.proofs.accepted_runs_respect_time.Goals as goal

pub returns-clause-rising : goal.returns-clause-rising
returns-clause-rising c = rising_law

pub returns-clause-timely : goal.returns-clause-timely
returns-clause-timely c = timely_law

pub returns-clause-certified : goal.returns-clause-certified
returns-clause-certified c = certified_timely_law
