-- Proof machinery: where a machine is that takes the steps of the records.
use Rattle.std.specs.Prelude.{◌≡◌, ℕ, zero, suc, ◌+◌, ◌<◌, List, [], ◌∷◌, ◌++◌, slice_get, take}
use Rattle.std.specs.Prelude.{Option, None, Some, Result, Ok, Err}
use Rattle.pp_core.specs.declared.call.Kind.{Kind}
use Rattle.pp_core.specs.declared.step.Rule.TheVariants as rules
use Rattle.pp_core.specs.Steps.{Step, rule_of}
use Rattle.pp_core.specs.declared.step.Step.{Step as StepOf}
use Rattle.pp_records.specs.Fronts.{Front, new_front}
use Rattle.pp_records.specs.Laws.{IsRejectedAt, StandsAt}
use Rattle.pp_records.specs.Records.{RunRecord}
use Rattle.pp_records.specs.Records as records
use Rattle.pp_records.specs.Runs.{LinedSteps, Records, Standing, bare}
use Rattle.pp_objects.specs.declared.act.Op.{Op}
use Rattle.pp_objects.specs.Objects.{kinds_of, objects}
use Rattle.pp_format_read.specs.declared.header.Header.{Header}
use Rattle.pp_model.specs.Config.{after, first}
use Rattle.pp_model.specs.Rules.{StartBreaks, StartMeets}
use Rattle.pp_report.specs.Reports.{IsDetailNamed}
use Rattle.pp_machine.specs.Machines.{Seen}
use Rattle.pp_machine.specs.Evidence.{Fits, evidence}
use Rattle.pp_machine.specs.declared.machine.Outcome.{Outcome}
use Rattle.pp_machine.specs.declared.machine.Outcome.TheVariants.{Done, False}
use Rattle.pp_styles.specs.AnyFronts.{any_state, any_style}
use Rattle.pp_styles.specs.Meanings.{meanings}
use Rattle.pp_styles.specs.SameFronts.{SameFront}
use Rattle.pp_styles.specs.declared.any_front.AnyFront.{AnyFront}
use Rattle.pp_styles.specs.declared.drive.Halt.{Halt}
use Rattle.pp_styles.specs.declared.drive.Halt.TheVariants.{Failed, TooMany}
use Rattle.pp_input_reader.specs.declared.cause.Cause.{Cause}
use Rattle.pp_input_reader.specs.declared.cause.Cause.TheVariants.{TooManySteps}
use Rattle.pp_input_reader.specs.declared.stop.Stop.{Stop}
use Rattle.pp_input_reader.specs.declared.stop.Stop.TheVariants as stops
use Rattle.pp_judge.specs.declared.driven.Rejection.{Rejection}
use Rattle.pp_judge.specs.declared.progress.Tally.{Tally}
use Rattle.pp_judge.specs.Objects.{object_of, start_of, translation_of}
use Rattle.pp_judge.specs.Rejected.{IsStartEvident, IsStepEvident}
use Rattle.pp_judge.specs.Reports.{detail_of_start}
use Rattle.pp_judge.specs.Scans.{InputScan}
use Rattle.pp_judge.specs.Tallies.{IsTallied}

-- where the run is: a state of its front, and the configuration of the machine
abbrev pub standing_of : Front → Seen (List Kind) Op → Standing Front Op
standing_of state machine = record { front = state; config = machine.config }

-- each step so far meets its criteria, and the machine is where they lead
pub record IsRunning (sc : InputScan) (tally : Tally) (machine : Seen (List Kind) Op) : Type 0 where
  pub follows : IsTallied sc tally
  pub shape : machine.shape ≡ kinds_of tally.header.catalog
  -- what the records leave of the front
  pub state : Front
  pub stands : StandsAt (object_of tally.header) (translation_of tally.header)
      (start_of tally.header) sc.records (standing_of state machine) machine.count

-- Each step that the records after a header mean meets its criteria, the machine is where
-- they lead, and the front is of the style, and keeps what the records leave. The order of the
-- sources that it keeps may be another.
pub record GoesOn (header : Header) (records : Records (RunRecord Op)) (front : AnyFront)
    (machine : Seen (List Kind) Op) : Type 0 where
  pub shape : machine.shape ≡ kinds_of header.catalog
  -- what the records leave of the front
  pub state : Front
  pub stands : StandsAt (object_of header) (translation_of header) (start_of header) records
      (standing_of state machine) machine.count
  pub style : any_style front ≡ header.style
  pub kept : SameFront (any_state (kinds_of header.catalog) front) state

-- the rejection of a start that first violates this criterion
abbrev pub start_rejection : Header → ℕ → ℕ → Rejection
start_rejection header line n = record {
  step = 0;
  line = line;
  rule = rules.Start;
  criterion = n;
  detail = detail_of_start (kinds_of header.catalog) (start_of header) n;
}

-- The rejection of the step of this number, which first violates this criterion. Step 0 is the
-- start of the header, which is on this line.
abbrev pub IsRejectionOf : Header → ℕ → LinedSteps Op → ℕ → ℕ → Rejection → Type 0
IsRejectionOf header at run zero n rejection =
    (rejection ≡ start_rejection header at n)
    × IsStartEvident (kinds_of header.catalog) (start_of header) n
IsRejectionOf header at run (suc i) n rejection = (last : Step Op)
    × (slice_get run i ≡ Some (record { line = rejection.line; what = last }))
    × (rejection ≡ record {
      step = suc i;
      line = rejection.line;
      rule = rule_of last;
      criterion = n;
      detail = evidence objects (kinds_of header.catalog)
          (after (start_of header) (bare (take i run))) last n;
    })
    × IsStepEvident (kinds_of header.catalog) (after (start_of header) (bare (take i run))) last n

-- the run of these records, and of these with any more after them, which this step of it ends
pub record EndsAt (header : Header) (at : ℕ) (records : Records (RunRecord Op))
    (rejection : Rejection) : Type 0 where
  pub run : LinedSteps Op
  -- its number in the run, where 0 is the start, and that of its first violated criterion, from 0
  pub number : ℕ
  pub criterion : ℕ
  pub is : IsRejectionOf header at run number (suc criterion) rejection
  -- the objects that its evidence names are those of the header
  pub named : IsDetailNamed header.catalog rejection.detail
  pub stays : (more : Records (RunRecord Op)) → IsRejectedAt (object_of header)
      (translation_of header) (start_of header) (records ++ more) run number criterion

-- the run is rejected at this step, whatever follows
pub record IsRejected (sc : InputScan) (tally : Tally) (rejection : Rejection) : Type 0 where
  pub follows : IsTallied sc tally
  pub ends : EndsAt tally.header follows.at sc.records rejection

-- what taking the start of a header, if it has one, makes of a machine that is as `new` made it
abbrev pub HasStarted : Header → Outcome Op → Seen (List Kind) Op → Type 0
HasStarted header Done machine =
    StartMeets (object_of header) (start_of header)
    × (machine ≡ record {
      shape = kinds_of header.catalog;
      config = first (start_of header);
      count = 0;
    })
HasStarted header (False n detail) machine =
    StartBreaks (object_of header) (start_of header) n × (0 < n)
    × (detail ≡ detail_of_start (kinds_of header.catalog) (start_of header) n)
    × Fits objects (kinds_of header.catalog) detail
    × IsStartEvident (kinds_of header.catalog) (start_of header) n

-- a front of the style of a header, which keeps nothing yet
abbrev pub IsFirstFront : Header → AnyFront → Type 0
IsFirstFront header front =
    let kinds = kinds_of header.catalog in
    (any_style front ≡ header.style) × (any_state kinds front ≡ new_front kinds)

-- the step that a record is, if it is one
abbrev pub own_step : RunRecord Op → List (Step Op)
own_step (records.Plain step) = step ∷ []
own_step (records.Op t id op) = []
own_step (records.Commit t) = []
own_step (records.Abort t) = []
own_step (records.Retry t) = []
own_step (records.Refresh t o) = []
own_step (records.XBegin t) = []
own_step (records.XEnd t) = []
own_step (records.XAbort t) = []
own_step (records.Depend t source) = []
own_step (records.Publish t) = []
own_step (records.DropSource t source) = []

-- the steps of this list, if there is one, or else the record itself
abbrev pub steps_given : RunRecord Op → Option (List (StepOf Op)) → List (Step Op)
steps_given r None = own_step r
steps_given r (Some list) = meanings list

-- What a halt after so many steps of a run is, if the record on this line halts it: the rejection of
-- the next step, or the fault that there are too many.
abbrev pub rejection_on : (line count : ℕ) → Option (Halt Op) →
    Result (Option Rejection) (Stop Cause)
rejection_on line count None = Ok None
rejection_on line count (Some TooMany) = Err (stops.Fault line TooManySteps)
rejection_on line count (Some (Failed rule n detail)) = Ok (Some (record {
  step = count + 1;
  line = line;
  rule = rule;
  criterion = n;
  detail = detail;
}))
