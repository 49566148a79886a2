-- Proof machinery: the steps that were written.
use Rattle.std.specs.Prelude.{◌≡◌}
use Rattle.pp_format_read.specs.declared.header.Header.{Header}
use Rattle.pp_format_write.specs.RunTexts.{run_text}
use Rattle.pp_objects.specs.declared.act.Op.{Op}
use Rattle.pp_records.specs.Runs.{LinedSteps, bare}
use Rattle.pp_cmd_expand.specs.declared.command.RunText.{RunText}

-- the text is that of these steps, as a run of style rules with this header
abbrev pub HasWritten : Header → LinedSteps Op → RunText → Type 0
HasWritten header steps w = w.text ≡ run_text header.catalog header.start (bare steps)
