use Rattle.std.specs.Prelude.{codes}
use Rattle.std.proofs.lemmas.Result.{on_ok_weaker}
use Rattle.pp_cmd_views.proofs.Appends.{four}
use Rattle.pp_cmd_views.specs.Texts.{number_bytes, peak_bytes}
use Rattle.pp_cmd_views.proofs.text.write_view.Goals as goal

pub returns : goal.returns
returns c =
    on_ok_weaker c.append-2.result
    (λ e. four c.args.text.now _ _ _ _ (peak_bytes c.args.view.now) (codes " after ") (number_bytes c.args.view.now.after) (codes "\n") c.in_ok-write_peak.ensures
    c.in_ok-append.ensures.ok c.in_ok-write_after.ensures e)
    c.append-2.ensures.ok
