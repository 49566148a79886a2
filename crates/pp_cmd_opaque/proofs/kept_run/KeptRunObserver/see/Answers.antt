use Rattle.std.proofs.Common.{◌++◌, ℕ, List, ap, ◌∙◌, map, subst, sym}
use Rattle.pp_core.specs.Steps.{Step}
use Rattle.pp_format_write.specs.Statable.{IsWritable}
use Rattle.pp_model.specs.Lists.{Each}
use Rattle.pp_objects.specs.declared.act.Op.{Op}
use Rattle.pp_records.specs.Runs.{bare, on_line}
use Rattle.pp_styles.specs.Meanings.{meanings}
use Rattle.pp_judge.proofs.Recorded.{bare_append_on_line}
use Rattle.pp_judge.proofs.Stating.{each_append}
use Rattle.pp_cmd_opaque.proofs.Keeping.{lines_append, lines_same}
use Rattle.pp_cmd_opaque.specs.Kept.{lines_of}
use Rattle.pp_cmd_opaque.proofs.kept_run.KeptRunObserver.see.Goals as goal

pub returns : goal.returns
returns c = λ before seen.
    let line = c.args.line in
    let more = meanings c.args.more.now in
    let all = sym (bare_append_on_line line before more) in (
      c.in_ok-add_copies.ensures.steps ∙ ap (λ (ss : List (Step Op)). ss ++ more) seen.0 ∙ all,
      c.in_ok-add_copies.ensures.lines ∙ ap (λ (ls : List ℕ). ls ++ map (λ _. line) c.args.more.now) seen.1
          ∙ ap (λ (ls : List ℕ). lines_of before ++ ls) (lines_same line c.args.more.now) ∙ sym (lines_append before (on_line line more)),
      subst (λ (w : List (Step Op)). Each (IsWritable c.args._header.now.catalog) w) all
          (each_append (IsWritable c.args._header.now.catalog) (bare before) more seen.2 c.requires),
    )
