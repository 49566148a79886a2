use Rattle.std.proofs.Common.{ℕ, List, subst}
use Rattle.std.proofs.lemmas.Result.{IfOk-weaker}
use Rattle.pp_cmd_focus.specs.Outputs.{IsFocused}
use Rattle.pp_cmd_focus.proofs.Focusing.{is_read}
use Rattle.pp_cmd_focus.proofs.command.focus.Goals as goal

pub returns-in-Ok-clause-output : goal.returns-in-Ok-clause-output
returns-in-Ok-clause-output g c =
    let old = g.S.Source.left c.args.source.now in
    let new = g.S.Source.left c.read_lines.new.source in
    IfOk-weaker c.conclude.result _ _ (λ r shown bytes is.
    subst (λ (name : List ℕ). IsFocused name bytes r.0 r.1) c.in-Ok.ensures.given
    (shown old new (is_read c.args.ticks.now old new c.in-Ok.last c.read_lines.new.ticks c.in-Ok.ensures.end c.in-Ok.ensures.ok) bytes is)) c.conclude.ensures.output
