-- Proof machinery: what the machine says of runs whose records it is driven through.
use Rattle.std.specs.Prelude.{◌≡◌, ◌≤◌, ℕ, true, length, Option, None, Some}
use Rattle.pp_records.specs.Fronts.{Front}
use Rattle.pp_records.specs.Records.{RunRecord}
use Rattle.pp_records.specs.Runs.{Records}
use Rattle.pp_format_read.specs.declared.header.Header.{Header}
use Rattle.pp_objects.specs.Objects.{kinds_of}
use Rattle.pp_objects.specs.declared.act.Op.{Op}
use Rattle.pp_styles.specs.AnyFronts.{any_state, any_style}
use Rattle.pp_styles.specs.SameFronts.{SameFront}
use Rattle.pp_summary.specs.Failures.{standing_after}
use Rattle.pp_judge.specs.Objects.{start_of, translation_of}
use Rattle.pp_judge.specs.Running.{standing_of}
use Rattle.pp_judge.specs.declared.driven.Rejection.{Rejection}
use Rattle.pp_judge.specs.declared.judge.Judged.{Judged}
use Rattle.pp_judge.specs.declared.judge.Judged.TheVariants.{Good, Rejected}
use Rattle.pp_cmd_quick.specs.Decisions.{AllHold, steps_behind}
use Rattle.pp_cmd_judge.specs.Judgements.{is_driven}
use Rattle.pp_cmd_judge.specs.declared.driven.DrivenMachine.{DrivenMachine}
use Rattle.pp_cmd_judge.specs.declared.style_judge.StyleJudge.{StyleJudge}
use Rattle.pp_cmd_judge.specs.declared.style_judge.StyleJudge.TheVariants.{Driven}

-- The start and each step of the records after a header meet their criteria, the machine is where
-- they lead, and the front keeps what the records leave. The order of the sources that it keeps may
-- be another.
pub record AreDrivenBehind (header : Header) (records : Records (RunRecord Op))
    (judge : DrivenMachine) : Type 0 where
  pub driven : is_driven header.style ≡ true
  pub shape : judge.machine.shape ≡ kinds_of header.catalog
  pub hold : AllHold header records
  -- what the records leave of the front
  pub state : Front
  pub place : standing_of state judge.machine
      ≡ standing_after (translation_of header) (start_of header) records
  pub count : judge.machine.count ≡ length (steps_behind header records)
  pub few : judge.machine.count ≤ 4_294_967_295
  pub style : any_style judge.front ≡ header.style
  pub kept : SameFront (any_state (kinds_of header.catalog) judge.front) state

-- the judge that took a record, or the rejection of a step of it
abbrev pub judged_of : DrivenMachine → Option Rejection → Judged StyleJudge Rejection
judged_of judge None = Good (Driven judge)
judged_of judge (Some rejection) = Rejected rejection
