-- Meaning: the first step of a boosted record that violates a criterion.
use Rattle.std.specs.Prelude.{◌≡◌, ℕ, suc, take}
use Rattle.pp_core.specs.declared.call.Style.TheVariants.{Boosted}
use Rattle.pp_core.specs.Steps.{rule_of}
use Rattle.pp_model.specs.Config.{Config, Step, after_from}
use Rattle.pp_model.specs.Rules.{RunsFrom}
use Rattle.pp_kind.specs.Object.{Object, rules_of}
use Rattle.pp_records.specs.Expansions.{expand}
use Rattle.pp_records.specs.Fronts.{Front}
use Rattle.pp_records.specs.Records.{RunRecord}
use Rattle.pp_machine.specs.Evidence.{evidence}
use Rattle.pp_laws_evidence.specs.Details.{FailsAt}
use Rattle.pp_summary.specs.Held.{Held, IsHeldOf}
use Rattle.pp_violations.specs.declared.violation.Violation.{Violation}

module _ {Shape State Op Undo : Type 0} (o : Object Shape State Op Undo) (place : Op → ℕ) where
  -- Of the steps of the record from c on, the first that violates a criterion, with the number of
  -- its first violated criterion, from 1, and the evidence.
  pub record IsViolationFrom (v : Held Shape Op) (r : RunRecord Op) (x : Violation Op)
      (f : Front) (c : Config Op) : Type 0 where
    pub step : Step Op
    pub number : ℕ
    pub fails : FailsAt o v.shape place c (expand place Boosted f c r) x.offset step number
    pub rule : x.rule ≡ rule_of step
    pub criterion : x.criterion ≡ suc number
    pub detail : x.detail
        ≡ evidence o v.shape (after_from c (take x.offset (expand place Boosted f c r))) step
        (suc number)

  -- The violation is that of the record in each boosted configuration with this brief.
  abbrev pub IsViolation : Held Shape Op → RunRecord Op → Violation Op → Type 0
  IsViolation v r x = (f : Front) (c : Config Op) → IsHeldOf o place v c → IsViolationFrom v r x f c

  -- In no such configuration all steps of the record meet their criteria.
  abbrev pub IsRefused : Held Shape Op → RunRecord Op → Type 0
  IsRefused v r =
      (f : Front) (c : Config Op) → IsHeldOf o place v c →
      RunsFrom (rules_of o v.shape) c (expand place Boosted f c r) → ⊥
