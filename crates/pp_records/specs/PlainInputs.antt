-- Meaning: inputs whose records are steps: each record is its step, and TooManySteps does not come.
use Rattle.std.specs.Prelude.{◌≡◌, ◌↔◌, ◌≤◌, ℕ, List, length, Option, Some}
use Rattle.pp_core.specs.declared.call.Kind.{Kind}
use Rattle.pp_core.specs.declared.call.Style.{Style}
use Rattle.pp_model.specs.Rules.{IsVerdict, Verdict}
use Rattle.pp_records.specs.Records.{RunRecord}
use Rattle.pp_records.specs.Fronts.{Front}
use Rattle.pp_records.specs.Inputs.{IsFault, IsReportOf, IsRunReport, Report, Setting}
use Rattle.pp_records.specs.Runs.{LinedSteps, bare}
use Rattle.pp_records.specs.Styles.{plain, translation}

-- the records after each of these headers become steps in one of the styles
abbrev pub AreStyled : {H Op State : Type 0} → (H → Setting Front (RunRecord Op) Op State) → Type 0
AreStyled {H} {Op} setting =
    (h : H) → (place : Op → ℕ) × (style : Style) × (ks : List Kind)
    × ((setting h).translation ≡ translation place style ks)

-- The fault is that of the scan, and the report is that of the verdict of the steps.
pub record PlainInputLaw {H Op State Cause : Type 0}
    (setting : H → Setting Front (RunRecord Op) Op State) (too_many : Cause) : Type 0 where
  pub fault : AreStyled setting →
      (header : Option H) (ss : LinedSteps Op) (scanned f : Option (ℕ × Cause)) →
      length ss ≤ 200_000 →
      IsFault setting too_many (record { header = header; records = plain ss; fault = scanned }) f
      ↔ (f ≡ scanned)
  pub report : AreStyled setting → (h : H) (ss : LinedSteps Op) (r : Report Op State Cause) →
      IsRunReport setting (Some h) (plain ss) r
      ↔ ((v : Verdict) × IsVerdict (setting h).object (setting h).start (bare ss) v
      × IsReportOf (setting h) ss v r)
