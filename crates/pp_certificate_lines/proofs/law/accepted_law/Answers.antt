use Rattle.pp_certificate_lines.proofs.Accepted.{accepted}
use Rattle.pp_certificate_lines.proofs.law.accepted_law.Goals as goal

pub returns : goal.returns
returns c = λ catalog config cat sound few each. accepted catalog config cat sound few each
