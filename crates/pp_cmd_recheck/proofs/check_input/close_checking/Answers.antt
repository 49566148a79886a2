use Rattle.std.proofs.Common.{◌≡◌, ◌+◌, length, subst, sym, arith}
use Rattle.pp_objects.specs.Objects.{objects}
use Rattle.pp_certificate_checker.specs.Certificates.{Refused, IsVerdictOf}
use Rattle.pp_certificate_checker.specs.declared.refusal.Refusal.TheVariants.{NotCertificate}
use Rattle.pp_certificate_lines.specs.Reading.{reader_of}
use Rattle.pp_certificate_lines.specs.Checkings.{read_in}
use Rattle.pp_certificate_lines.proofs.Takers.{covers_count}
use Rattle.pp_cmd_recheck.proofs.Counted.{shown_counted}
use Rattle.pp_cmd_recheck.proofs.check_input.close_checking.Goals as goal

pub returns-in-None-clause-found : goal.returns-in-None-clause-found
returns-in-None-clause-found g c = λ ls cov.
    let closes = (rw c.in-None.is at c.in_ok-found.ensures.closes) ls cov in
    let count : c.lines-lines.result + 1 ≡ length ls + 1 =
    omega (arith, covers_count ls c.args.checking cov, c.lines-lines.ensures.lines) in
    subst (λ n. IsVerdictOf objects (reader_of ls) ls (Refused n NotCertificate)) (sym count) closes

pub returns-in-Some-clause-found : goal.returns-in-Some-clause-found
returns-in-Some-clause-found g c = rw c.in-Some.is at c.in_ok-found.ensures.closes

pub returns-in-Some-clause-least : goal.returns-in-Some-clause-least
returns-in-Some-clause-least g c = λ first least.
    let is = rw c.in-Some.is at c.in_ok-found.ensures.shown in
    let cost = rw c.in-Some.is at c.in_ok-found.ensures.cost in
    shown_counted (read_in c.args.checking).stage c.in-Some.shown first c.args.ticks.now c.close.new.ticks is cost least
