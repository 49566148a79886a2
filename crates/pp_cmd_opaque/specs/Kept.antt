-- Proof machinery: the steps of an accepted run and their lines, as they are kept.
use Rattle.std.specs.Prelude.{◌≡◌, ℕ, List, map, Some}
use Rattle.pp_core.specs.declared.call.Kind.{Kind}
use Rattle.pp_core.specs.Steps.{Step}
use Rattle.pp_records.specs.Expansions.{IsOfStyle}
use Rattle.pp_records.specs.Records.{RunRecord}
use Rattle.pp_records.specs.Runs.{Lined, LinedSteps, bare}
use Rattle.pp_format_read.specs.declared.header.Header.{Header}
use Rattle.pp_format_write.specs.Statable.{IsWritable}
use Rattle.pp_model.specs.Lists.{Each, In}
use Rattle.pp_objects.specs.declared.act.Op.{Op}
use Rattle.pp_machine.specs.Machines.{Seen}
use Rattle.pp_styles.specs.Meanings.{meanings}
use Rattle.pp_judge.specs.Accepted.{HasRun}
use Rattle.pp_judge.specs.Scans.{InputScan}
use Rattle.pp_judge.specs.declared.progress.Tally.{Tally}
use Rattle.pp_cmd_views.specs.Taken.{HasSteps}
use Rattle.pp_cmd_opaque.specs.declared.kept_run.KeptRun.{KeptRun}

-- the lines of steps
abbrev pub lines_of : LinedSteps Op → List ℕ
lines_of run = map (λ (s : Lined (Step Op)). s.line) run

-- These steps were seen, their lines are kept, and they can be written with this header.
abbrev pub HasKept : Header → LinedSteps Op → KeptRun → Type 0
HasKept header seen w =
    (meanings w.steps ≡ bare seen) × (w.lines ≡ lines_of seen)
    × Each (IsWritable header.catalog) (bare seen)

-- the records of a scan are of the style of its header
abbrev pub AreOfStyle : InputScan → Type 0
AreOfStyle sc = (header : Lined Header) → sc.header ≡ Some header →
    (r : Lined (RunRecord Op)) → In r sc.records → IsOfStyle header.what.style r.what

-- Each step of a run meets its criteria, the machine is where they lead, and the steps and their
-- lines are kept. The records are of the run's style.
pub record HasKeptRun (sc : InputScan) (tally : Tally) (machine : Seen (List Kind) Op)
    (kept : KeptRun) : Type 0 where
  pub steps : HasSteps sc tally machine (meanings kept.steps)
  pub lines : (r : HasRun sc) → kept.lines ≡ lines_of r.run
  pub styled : AreOfStyle sc
