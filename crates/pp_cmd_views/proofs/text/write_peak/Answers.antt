use Rattle.std.proofs.Common.{◌++◌, ◌∙◌, List, ℕ, ap}
use Rattle.std.specs.Prelude.{codes}
use Rattle.std.specs.Fmt.{decimal}
use Rattle.std.proofs.lemmas.Result.{on_ok_weaker}
use Rattle.pp_cmd_views.proofs.Appends.{four}
use Rattle.pp_cmd_views.proofs.text.write_peak.Goals as goal

pub returns : goal.returns
returns c =
    on_ok_weaker c.write_number.result
    (λ e. four c.args.text.now _ _ _ _ (codes "view ") c.args.view.now.tx (codes " ops ") (decimal c.args.view.now.ops) c.in_ok-append.ensures.ok
    (c.in_ok-append-2.ensures.ok ∙ ap (λ (b : List ℕ). c.append.new.self ++ b) c.text.ensures.text) c.in_ok-append-3.ensures.ok
    (e ∙ ap (λ (n : ℕ). c.append-3.new.self ++ decimal n) c.from.ensures))
    c.write_number.ensures.ok
