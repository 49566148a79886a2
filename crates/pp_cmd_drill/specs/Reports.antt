-- Meaning: what `drill N` prints for its run.
use Rattle.std.specs.Prelude.{◌≡◌, ℕ, List, ◌++◌, codes, length}
use Rattle.std.specs.Fmt.{decimal}
use Rattle.pp_core.specs.declared.status.Status.{Status}
use Rattle.pp_core.specs.declared.status.Status.TheVariants as statuses
use Rattle.pp_records.specs.Inputs.{Accepts, IsReport}
use Rattle.pp_model.specs.Serial.{Attempt}
use Rattle.pp_objects.specs.declared.act.Op.{Op}
use Rattle.pp_objects.specs.declared.states.ObjectState.{ObjectState}
use Rattle.pp_text.specs.Lines.{line, state_lines}
use Rattle.pp_input_reader.specs.declared.cause.Cause.TheVariants.{TooManySteps}
use Rattle.pp_report.specs.Reports.{accepted_line}
use Rattle.pp_judge.specs.Inputs.{scan}
use Rattle.pp_judge.specs.Objects.{setting_of}
use Rattle.pp_judge.specs.Scans.{InputScan}
use Rattle.pp_cmd_drill.specs.Drill.{drill_catalog}
use Rattle.pp_cmd_drill.specs.Text.{drill_text}

-- The run of n transactions, as an input.
abbrev pub drill_scan : ℕ → InputScan
drill_scan n = scan (drill_text n)

-- the line of the command, then the first line and the state lines of the report of an accepted run
abbrev pub drill_report : ℕ → (steps count : ℕ) → List ObjectState → List ℕ
drill_report n steps count final =
    line (codes "drill " ++ decimal n) ++ accepted_line steps count
    ++ state_lines drill_catalog final

-- The input that n makes is reported as accepted, and the text is the line of the command with the
-- first line and the state lines of that report.
abbrev pub IsDrilled : ℕ → Status → List ℕ → Type 0
IsDrilled n status text =
    (steps : ℕ) × (committed : List (Attempt Op)) × (final : List ObjectState)
    × IsReport setting_of TooManySteps (drill_scan n) (Accepts steps committed final)
    × (status ≡ statuses.Accepted) × (text ≡ drill_report n steps (length committed) final)
