use Rattle.pp_laws_runs.proofs.Reported.{reported_law}
use Rattle.pp_laws_runs.proofs.rejections_are_listed.Goals as goal

pub returns : goal.returns
returns c = reported_law
