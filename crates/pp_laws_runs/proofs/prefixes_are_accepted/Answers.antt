use Rattle.pp_laws_runs.proofs.Prefixes.{certified_prefix_law, first_line_law, prefix_law}
use Rattle.pp_laws_runs.proofs.prefixes_are_accepted.Goals as goal

pub returns-clause-prefix : goal.returns-clause-prefix
returns-clause-prefix c = prefix_law

pub returns-clause-certified : goal.returns-clause-certified
returns-clause-certified c = certified_prefix_law

pub returns-clause-first_line : goal.returns-clause-first_line
returns-clause-first_line c = first_line_law
