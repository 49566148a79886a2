use Rattle.pp_certificate_checker.proofs.Rows.{rows_cut}
use Rattle.pp_certificate_checker.proofs.law.rows_law.Goals as goal

pub returns : goal.returns
returns c = λ is h. rows_cut is h
