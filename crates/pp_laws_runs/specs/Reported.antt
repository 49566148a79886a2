-- Meaning: which criteria a report of an input can name.
use Rattle.std.specs.Prelude.{◌≡◌, ℕ, List, Option, Some}
use Rattle.pp_core.specs.declared.call.Style.{Style}
use Rattle.pp_core.specs.declared.step.Rule.TheVariants as rules
use Rattle.pp_core.specs.Steps.{rule_of}
use Rattle.pp_records.specs.Expansions.{IsRecorded}
use Rattle.pp_records.specs.Inputs.{Accepts, Faulty, IsReportBehind, StartRejected}
use Rattle.pp_records.specs.Inputs.{StepRejected}
use Rattle.pp_records.specs.Runs.{Lined}
use Rattle.pp_format_read.specs.declared.header.Header.{Header}
use Rattle.pp_model.specs.Lists.{In}
use Rattle.pp_input.specs.declared.limits.Limits.{Limits}
use Rattle.pp_input_reader.specs.declared.cause.Cause.{Cause}
use Rattle.pp_judge.specs.Inputs.{scan_within}
use Rattle.pp_judge.specs.Objects.{setting_of}
use Rattle.pp_judge.specs.Reports.{RunReport}
use Rattle.pp_judge.specs.Scans.{InputScan}
use Rattle.pp_laws_runs.specs.Breakable.{breakable}

-- if the report is a rejection, its criterion is breakable in this style
abbrev pub NamesBreakable : Style → RunReport → Type 0
NamesBreakable style (Faulty at_line cause) = Unit {0}
NamesBreakable style (Accepts steps committed final) = Unit {0}
NamesBreakable style (StartRejected at_line criterion) = In criterion (breakable rules.Start style)
NamesBreakable style (StepRejected number at_line criterion before step) =
    In criterion (breakable (rule_of step) style)

-- If a report names a criterion, the criterion is breakable, whatever fault the report is about. The
-- style of the header must be one of the four recorded styles.
abbrev pub ReportsBreakable : InputScan → Type 0
ReportsBreakable sc =
    (fault : Option (ℕ × Cause)) (header : Lined Header) (report : RunReport) →
    sc.header ≡ Some header → IsRecorded header.what.style →
    IsReportBehind setting_of fault sc report → NamesBreakable header.what.style report

-- This holds for every input, whatever its limits are. So it holds for the reports of `certify` and
-- for those of `judge`, also after step 200,000.
abbrev pub ReportedLaw : Type 0
ReportedLaw = (limits : Limits) (bytes : List ℕ) → ReportsBreakable (scan_within limits bytes)
