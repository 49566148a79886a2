use Rattle.pp_laws_reports.proofs.Inputs.{certify_law, quick_law}
use Rattle.pp_laws_reports.proofs.Texts.{certify_readable, quick_readable, text_law}
use Rattle.pp_laws_reports.proofs.reports_are_readable.Goals as goal

pub returns-clause-texts : goal.returns-clause-texts
returns-clause-texts c = text_law

pub returns-clause-reports : goal.returns-clause-reports
returns-clause-reports c = (certify_readable, quick_readable)

pub returns-clause-certify : goal.returns-clause-certify
returns-clause-certify c = certify_law

pub returns-clause-quick : goal.returns-clause-quick
returns-clause-quick c = quick_law
