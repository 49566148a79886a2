-- Proof machinery: what the machine says of runs as a judge.
use Rattle.std.specs.Prelude.{List, Option, None, Some}
use Rattle.pp_core.specs.declared.call.Kind.{Kind}
use Rattle.pp_core.specs.declared.status.Status.TheVariants as statuses
use Rattle.pp_records.specs.Records.{RunRecord}
use Rattle.pp_records.specs.Runs.{IsRun, LinedSteps, Records}
use Rattle.pp_objects.specs.declared.act.Op.{Op}
use Rattle.pp_format_read.specs.declared.header.Header.{Header}
use Rattle.pp_input.specs.Limits.{usual_limits}
use Rattle.pp_machine.specs.Machines.{Seen}
use Rattle.pp_styles.specs.declared.any_front.AnyFront.{AnyFront}
use Rattle.pp_judge.specs.Costs.{StepsCostAtLeast, StepsCostAtMost}
use Rattle.pp_judge.specs.Inputs.{IsFaultOf}
use Rattle.pp_judge.specs.Judging.{Judging}
use Rattle.pp_judge.specs.Objects.{object_of, start_of, translation_of}
use Rattle.pp_judge.specs.Running.{EndsAt, GoesOn}
use Rattle.pp_judge.specs.declared.driven.Driven.{Driven}
use Rattle.pp_judge.specs.declared.driven.ObservedRejection.{ObservedRejection}
use Rattle.pp_judge.specs.declared.driven.Rejection.{Rejection}
use Rattle.pp_judge.specs.declared.judge.Judged.{Judged}
use Rattle.pp_judge.specs.declared.judge.Judged.TheVariants.{Good, Rejected}

-- an observer has seen the steps of every run of these records (there is one at most)
abbrev pub HasSeenRun : {W : Type 0} → (Header → LinedSteps Op → W → Type 0) → Header →
    Records (RunRecord Op) → W → Type 0
HasSeenRun HasSeen header records observer = (run : LinedSteps Op) →
    IsRun (object_of header) (translation_of header) (start_of header) records run →
    HasSeen header run observer

-- The limits are the usual ones. Records are good if their steps meet their criteria, and
-- rejected if one does not, whatever follows.
abbrev pub driven_judging : {W : Type 0} → (Header → LinedSteps Op → W → Type 0) →
    Judging (Driven W) (ObservedRejection W)
driven_judging HasSeen = record {
  limits = usual_limits;
  IsGood = λ header records judge. GoesOn header.what records judge.front judge.machine
      × HasSeenRun HasSeen header.what records judge.observer;
  IsRejectedBy = λ header records refused. EndsAt header.what header.line records refused.rejection
      × HasSeenRun HasSeen header.what records refused.observer;
  IsFault = IsFaultOf;
  AtMost = StepsCostAtMost;
  GoodAtLeast = StepsCostAtLeast statuses.Accepted;
  RejectedAtLeast = StepsCostAtLeast statuses.Rejected;
}

-- the judge that took a record, or the rejection of a step of it
abbrev pub judged_of : {W : Type 0} → AnyFront → Seen (List Kind) Op → W → Option Rejection →
    Judged (Driven W) (ObservedRejection W)
judged_of front machine observer None =
    Good (record { front = front; machine = machine; observer = observer })
judged_of front machine observer (Some rejection) =
    Rejected (record { rejection = rejection; observer = observer })
