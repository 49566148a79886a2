-- Meaning: the first step of an optimistic record that violates a criterion.
use Rattle.std.specs.Prelude.{◌≡◌, ℕ, suc, take}
use Rattle.pp_core.specs.declared.call.Style.TheVariants.{Optimistic}
use Rattle.pp_core.specs.Steps.{rule_of}
use Rattle.pp_model.specs.Config.{Step, after_from}
use Rattle.pp_model.specs.Rules.{RunsFrom}
use Rattle.pp_kind.specs.Object.{Object, rules_of}
use Rattle.pp_records.specs.Expansions.{expand}
use Rattle.pp_records.specs.Fronts.{Front}
use Rattle.pp_records.specs.Records.{RunRecord}
use Rattle.pp_records.specs.Runs.{Standing}
use Rattle.pp_machine.specs.Evidence.{evidence}
use Rattle.pp_laws_evidence.specs.Details.{FailsAt}
use Rattle.pp_snapshots.specs.Held.{IsTakenOf, Taken}
use Rattle.pp_violations.specs.declared.violation.Violation.{Violation}

module _ {Shape State Op Undo : Type 0} (o : Object Shape State Op Undo) (place : Op → ℕ) where
  -- Of the steps of the record from p on, the first that violates a criterion, with the number of
  -- its first violated criterion, from 1, and the evidence.
  pub record IsConflictFrom (s : Taken Shape Op) (r : RunRecord Op) (x : Violation Op)
      (p : Standing Front Op) : Type 0 where
    pub step : Step Op
    pub number : ℕ
    pub fails : FailsAt o s.shape place p.config (expand place Optimistic p.front p.config r)
        x.offset step number
    pub rule : x.rule ≡ rule_of step
    pub criterion : x.criterion ≡ suc number
    pub detail : x.detail
        ≡ evidence o s.shape (after_from p.config
        (take x.offset (expand place Optimistic p.front p.config r))) step (suc number)

  -- So it is from each front and configuration of which this is the summary.
  abbrev pub IsConflict : Taken Shape Op → RunRecord Op → Violation Op → Type 0
  IsConflict s r x = (p : Standing Front Op) → IsTakenOf o place s p → IsConflictFrom s r x p

  -- From no such front and configuration all steps of the record meet their criteria.
  abbrev pub IsRefused : Taken Shape Op → RunRecord Op → Type 0
  IsRefused s r =
      (p : Standing Front Op) → IsTakenOf o place s p →
      RunsFrom (rules_of o s.shape) p.config (expand place Optimistic p.front p.config r) → ⊥
