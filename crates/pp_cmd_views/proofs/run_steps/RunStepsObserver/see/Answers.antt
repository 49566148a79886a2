use Rattle.std.proofs.Common.{◌++◌, List, ap, ◌∙◌, subst, sym}
use Rattle.pp_core.specs.Steps.{Step}
use Rattle.pp_format_write.specs.Statable.{IsWritable}
use Rattle.pp_model.specs.Lists.{Each}
use Rattle.pp_objects.specs.declared.act.Op.{Op}
use Rattle.pp_records.specs.Runs.{bare}
use Rattle.pp_styles.specs.Meanings.{meanings}
use Rattle.pp_judge.proofs.Recorded.{bare_append_on_line}
use Rattle.pp_judge.proofs.Stating.{each_append}
use Rattle.pp_cmd_views.proofs.run_steps.RunStepsObserver.see.Goals as goal

pub returns : goal.returns
returns c = λ before seen.
    let more = meanings c.args.more.now in
    let all = sym (bare_append_on_line c.args._line before more) in (
      c.in_ok-add_copies.ensures ∙ ap (λ ss. ss ++ more) seen.0 ∙ all,
      subst (λ (w : List (Step Op)). Each (IsWritable c.args._header.now.catalog) w) all
          (each_append (IsWritable c.args._header.now.catalog) (bare before) more seen.1 c.requires),
    )
