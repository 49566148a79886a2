use Rattle.std.proofs.Common.{◌++◌, List, ℕ, ap, ◌∙◌, map, sym}
use Rattle.pp_core.specs.Steps.{Step, meaning}
use Rattle.pp_input.specs.Joined.{joined_lines}
use Rattle.pp_format_write.proofs.RunTexts.{text_behind}
use Rattle.pp_format_write.specs.RunTexts.{run_text}
use Rattle.pp_format_write.specs.Steps.{step_bytes}
use Rattle.pp_objects.specs.declared.act.Op.{Op}
use Rattle.pp_records.specs.Runs.{bare}
use Rattle.pp_judge.proofs.Recorded.{bare_append_on_line}
use Rattle.pp_cmd_expand.proofs.command.RunTextObserver.see.Goals as goal

pub returns : goal.returns
returns c = λ before seen.
    let header = c.args.header.now in
    let steps = map meaning c.args.steps.now in
    c.in_ok-add_steps.ensures ∙ ap (λ (t : List ℕ). t ++ joined_lines (map (step_bytes header.catalog) steps)) seen ∙ sym (text_behind header.catalog header.start (bare before) steps)
    ∙ ap (λ (ss : List (Step Op)). run_text header.catalog header.start ss) (sym (bare_append_on_line c.args._line before steps))
