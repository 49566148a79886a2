-- Meaning: the report of a run whose steps are written down as an input of style rules.
use Rattle.std.specs.Prelude.{ℕ, suc, List}
use Rattle.pp_core.specs.declared.call.Kind.{Kind}
use Rattle.pp_core.specs.declared.call.Style.TheVariants.{Rules}
use Rattle.pp_model.specs.Rules.{IsVerdict, Verdict}
use Rattle.pp_records.specs.Records.{RunRecord}
use Rattle.pp_records.specs.Fronts.{Front}
use Rattle.pp_records.specs.Inputs.{Accepts, Faulty, IsReportOf, Report, Setting, StartRejected}
use Rattle.pp_records.specs.Inputs.{StepRejected}
use Rattle.pp_records.specs.Runs.{IsRun, LinedSteps, Records, bare}
use Rattle.pp_records.specs.Styles.{plain, restated, translation}

-- the same object and start, under a header of style rules on this line
abbrev pub as_rules : {F R Op State : Type 0} → ℕ → (Op → ℕ) → List Kind → Setting F R Op State →
    Setting Front (RunRecord Op) Op State
as_rules line place ks s =
    record {
      line = line;
      object = s.object;
      start = s.start;
      translation = translation place Rules ks;
    }

-- the same report with other lines: that of the header, and i + 1 for step i
abbrev pub relined : {Op State Cause : Type 0} → ℕ → Report Op State Cause → Report Op State Cause
relined line (Faulty l cause) = Faulty l cause
relined line (Accepts n committed final) = Accepts n committed final
relined line (StartRejected l n) = StartRejected line n
relined line (StepRejected i l n before step) = StepRejected i (suc i) n before step

-- The steps of a run, written down, have the same verdict and the same report but for the lines.
abbrev pub ReprintLaw : {H F R Op State : Type 0} → (H → Setting F R Op State) → Type 0 → Type 0
ReprintLaw {H} {F} {R} {Op} {State} setting Cause =
    (line : ℕ) (place : Op → ℕ) (ks : List Kind) (h : H) (rs : Records R) (run : LinedSteps Op)
    (v : Verdict) (r : Report Op State Cause) →
    IsRun (setting h).object (setting h).translation (setting h).start rs run →
    IsVerdict (setting h).object (setting h).start (bare run) v → IsReportOf (setting h) run v r →
    IsRun (setting h).object (translation place Rules ks) (setting h).start (plain (restated run))
    (restated run)
    × IsVerdict (setting h).object (setting h).start (bare (restated run)) v
    × IsReportOf (as_rules line place ks (setting h)) (restated run) v (relined line r)
