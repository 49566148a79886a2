-- An input is timely if each of its steps meets its criteria.
use Rattle.std.specs.Prelude.{ℕ, List}
use Rattle.std.proofs.Common.{refl}
use mathlib.Core.Logic.{inr}
use Rattle.pp_core.specs.declared.status.Status.TheVariants as statuses
use Rattle.pp_records.specs.Inputs.{steps_of}
use Rattle.pp_records.specs.Runs.{LinedSteps}
use Rattle.pp_records.proofs.Ends.{ends_whole}
use Rattle.pp_model.specs.Config.{first}
use Rattle.pp_objects.specs.declared.act.Op.{Op}
use Rattle.pp_input.specs.Limits.{usual_limits}
use Rattle.pp_input.specs.declared.limits.Limits.{Limits}
use Rattle.pp_judge.specs.Accepted.{EachStepMeets, HasRun}
use Rattle.pp_judge.specs.Inputs.{scan_within}
use Rattle.pp_judge.specs.Objects.{object_of, setting_of, start_of, translation_of}
use Rattle.pp_judge.proofs.Concluding.{only_run}
use Rattle.pp_judge.proofs.Exact.{certified_exact}
use Rattle.pp_laws_runs.specs.Lines.{RespectsLines}
use Rattle.pp_laws_runs.specs.Timely.{CertifiedTimelyLaw, IsTimely, TimelyLaw}
use Rattle.pp_laws_runs.proofs.Lines.{records_law, rise_never_fall}
use Rattle.pp_laws_runs.proofs.Rising.{rising_law}

-- A scan on lines that never fall is timely if each of its steps meets its criteria.
pub timely_law : TimelyLaw
timely_law sc never meets =
    let h = meets.header.what in
    let run : LinedSteps Op = steps_of (setting_of meets.header) sc.records in
    let own : HasRun sc = record {
      header = meets.header;
      run = run;
      first_line = meets.first_line;
      steps = inr (meets.start, ends_whole (object_of h) (first (start_of h)) run meets.steps);
    } in (
      own,
      λ other. only_run sc own other (λ head steps. RespectsLines (start_of head.what) steps)
          (records_law (object_of h) (translation_of h) (start_of h) sc.records run never own.steps meets.start meets.steps),
    )

-- The lines of the scan of any input rise, so each accepted scan is timely.
pub meets_timely : (limits : Limits) (bytes : List ℕ) → EachStepMeets (scan_within limits bytes) → IsTimely (scan_within limits bytes)
meets_timely limits bytes meets = timely_law (scan_within limits bytes) (rise_never_fall (scan_within limits bytes).records (rising_law limits bytes)) meets

-- An input that `certify` accepts is timely.
pub certified_timely_law : CertifiedTimelyLaw
certified_timely_law bytes text certified = meets_timely usual_limits bytes ((certified_exact bytes statuses.Accepted text certified).0 refl).1
