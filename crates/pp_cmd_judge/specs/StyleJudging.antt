-- Proof machinery: the engine of each style, with its number of steps, or the machine that is
-- driven, as one judge.
use Rattle.std.specs.Prelude.{ℕ, ◌++◌, List, Some}
use Rattle.pp_core.specs.declared.call.Kind.{Kind}
use Rattle.pp_core.specs.declared.entry.CommittedTx.{CommittedTx}
use Rattle.pp_records.specs.Records.{RunRecord}
use Rattle.pp_records.specs.Runs.{Lined, Records}
use Rattle.pp_format_read.specs.declared.header.Header.{Header}
use Rattle.pp_objects.specs.declared.act.Op.{Op}
use Rattle.pp_judge.specs.Judging.{Judging}
use Rattle.pp_judge.specs.declared.driven.Rejection.{Rejection}
use Rattle.pp_cmd_quick.specs.Decisions.{FailsOn}
use Rattle.pp_cmd_judge.specs.Boosted.{boosted_engine}
use Rattle.pp_cmd_judge.specs.Costs.{GoodCostAtLeast, JudgedCostAtMost, RejectedCostAtLeast}
use Rattle.pp_cmd_judge.specs.Driven.{AreDrivenBehind}
use Rattle.pp_cmd_judge.specs.Engines.{AreCounted}
use Rattle.pp_cmd_judge.specs.Inputs.{judge_limits}
use Rattle.pp_cmd_judge.specs.Judgements.{IsJudgeFault, PassesStepsOn}
use Rattle.pp_cmd_judge.specs.Optimistic.{optimistic_engine}
use Rattle.pp_cmd_judge.specs.Rejections.{IsRejectedBehind}
use Rattle.pp_cmd_judge.specs.Rules.{rules_engine}
use Rattle.pp_cmd_judge.specs.declared.style_judge.StyleJudge.{StyleJudge}
use Rattle.pp_cmd_judge.specs.declared.style_judge.StyleJudge.TheVariants.{Boosted, Driven}
use Rattle.pp_cmd_judge.specs.declared.style_judge.StyleJudge.TheVariants.{Optimistic, Rules}

-- what took the records: how many steps they mean, the committed transactions, and the kinds of the
-- objects
abbrev pub step_count : StyleJudge → ℕ
step_count (Rules judge) = judge.steps
step_count (Boosted judge) = judge.steps
step_count (Optimistic judge) = judge.steps
step_count (Driven judge) = judge.machine.count

abbrev pub done_of : StyleJudge → List (CommittedTx Op)
done_of (Rules judge) = rules_engine.done judge.engine
done_of (Boosted judge) = boosted_engine.done judge.engine
done_of (Optimistic judge) = optimistic_engine.done judge.engine
done_of (Driven judge) = judge.machine.config.done

abbrev pub shape_of : StyleJudge → List Kind
shape_of (Rules judge) = rules_engine.shape judge.engine
shape_of (Boosted judge) = boosted_engine.shape judge.engine
shape_of (Optimistic judge) = optimistic_engine.shape judge.engine
shape_of (Driven judge) = judge.machine.shape

-- the start and the records are good, and this is what took them
abbrev pub IsGoodBy : Lined Header → Records (RunRecord Op) → StyleJudge → Type 0
IsGoodBy header records (Rules judge) = AreCounted rules_engine header.what records judge
IsGoodBy header records (Boosted judge) = AreCounted boosted_engine header.what records judge
IsGoodBy header records (Optimistic judge) = AreCounted optimistic_engine header.what records judge
IsGoodBy header records (Driven judge) = AreDrivenBehind header.what records judge

-- This is the rejection of the start or of the first of the records that has a step which violates
-- a criterion. No record passes a limit on steps, whatever records come after these.
pub record IsRejectedBy (header : Lined Header) (records : Records (RunRecord Op))
    (rejection : Rejection) : Type 0 where
  pub fails : FailsOn header records rejection.line
  pub rejected : IsRejectedBehind header records rejection
  pub few : (more : Records (RunRecord Op)) (line : ℕ) →
      PassesStepsOn (Some header) (records ++ more) line → ⊥

-- A record is good if all its steps meet their criteria. A rejection is of the first step that
-- does not.
abbrev pub style_judging : Judging StyleJudge Rejection
style_judging = record {
  limits = judge_limits;
  IsGood = IsGoodBy;
  IsRejectedBy = IsRejectedBy;
  IsFault = IsJudgeFault;
  AtMost = JudgedCostAtMost;
  GoodAtLeast = GoodCostAtLeast;
  RejectedAtLeast = RejectedCostAtLeast;
}

-- some header and records are those that it took
abbrev pub HasTaken : StyleJudge → Type 0
HasTaken judge =
    (header : Lined Header) × (records : Records (RunRecord Op)) × IsGoodBy header records judge
