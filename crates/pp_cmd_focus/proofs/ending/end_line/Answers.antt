use Rattle.std.proofs.Common.{sym, ◌∙◌}
use Rattle.std.proofs.lemmas.Result.{on_ok_weaker}
use Rattle.pp_cmd_focus.proofs.LineEnds.{ended_once, ended_twice, line_sliced}
use Rattle.pp_cmd_focus.proofs.ending.end_line.Goals as goal

pub returns-then-ends_in_return : goal.returns-then-ends_in_return
returns-then-ends_in_return c =
    let old = c.args.text.now in
    let start = c.args.start in
    let is = line_sliced old start c.bytes.result.now c.ends_in_return.result c.bytes.ensures c.ends_in_return.ensures in
    on_ok_weaker c.append.result (λ new. new ∙ ended_twice old start (sym is ∙ c.if-ends_in_return.true)) c.append.ensures.ok

pub returns-else-ends_in_return : goal.returns-else-ends_in_return
returns-else-ends_in_return c =
    let old = c.args.text.now in
    let start = c.args.start in
    let is = line_sliced old start c.bytes.result.now c.ends_in_return.result c.bytes.ensures c.ends_in_return.ensures in
    on_ok_weaker c.push.result (λ new. new ∙ ended_once old start (sym is ∙ c.if-ends_in_return.false)) c.push.ensures.ok
