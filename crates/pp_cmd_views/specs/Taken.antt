-- Proof machinery: the steps of an accepted run, with the machine that did them.
use Rattle.std.specs.Prelude.{◌≡◌, List}
use Rattle.pp_core.specs.declared.call.Kind.{Kind}
use Rattle.pp_core.specs.Steps.{Step}
use Rattle.pp_format_read.specs.declared.header.Header.{Header}
use Rattle.pp_format_write.specs.Statable.{IsWritable}
use Rattle.pp_model.specs.Lists.{Each}
use Rattle.pp_objects.specs.declared.act.Op.{Op}
use Rattle.pp_records.specs.Runs.{LinedSteps, bare}
use Rattle.pp_machine.specs.Machines.{Seen}
use Rattle.pp_styles.specs.Meanings.{meanings}
use Rattle.pp_judge.specs.Costs.{OfRun}
use Rattle.pp_judge.specs.Running.{IsRunning}
use Rattle.pp_judge.specs.Scans.{InputScan}
use Rattle.pp_judge.specs.declared.progress.Tally.{Tally}
use Rattle.pp_cmd_views.specs.declared.run_steps.RunSteps.{RunSteps}

-- these steps were seen, and they can be written with this header
abbrev pub HasSeenSteps : Header → LinedSteps Op → RunSteps → Type 0
HasSeenSteps header seen w =
    (meanings w.steps ≡ bare seen) × Each (IsWritable header.catalog) (bare seen)

-- each step of a run meets its criteria, the machine is where they lead, and these are the steps
pub record HasSteps (sc : InputScan) (tally : Tally) (machine : Seen (List Kind) Op)
    (steps : List (Step Op)) : Type 0 where
  pub running : IsRunning sc tally machine
  pub are : OfRun sc.header sc.records λ start run. steps ≡ run
  pub each : Each (IsWritable tally.header.catalog) steps
