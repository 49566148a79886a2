use Rattle.std.specs.Prelude.{codes}
use Rattle.std.specs.Fmt.{decimal}
use Rattle.std.proofs.lemmas.Result.{on_ok_weaker}
use Rattle.pp_report.proofs.Appends.{five}
use Rattle.pp_report.proofs.run.write_first_line.Goals as goal

pub returns : goal.returns
returns c =
    on_ok_weaker c.append-3.result
    (λ e. five c.args.text.now _ _ _ _ _ (codes "accepted steps ") (decimal c.args.steps) (codes " committed ") (decimal c.args.committed) (codes "\n") c.in_ok-append.ensures.ok c.in_ok-write_number.ensures.ok c.in_ok-append-2.ensures.ok c.in_ok-write_number-2.ensures.ok e)
    c.append-3.ensures.ok
