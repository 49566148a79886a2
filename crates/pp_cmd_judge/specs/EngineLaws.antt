-- Proof machinery: the laws of every engine.
use Rattle.std.specs.Prelude.{◌≡◌, false}
use Rattle.pp_records.specs.Records.{RunRecord}
use Rattle.pp_records.specs.Runs.{Lined, Records}
use Rattle.pp_format_read.specs.declared.header.Header.{Header}
use Rattle.pp_objects.specs.declared.act.Op.{Op}
use Rattle.pp_cmd_quick.specs.Decisions.{AllHold}
use Rattle.pp_cmd_judge.specs.Engines.{AreCounted, EngineOf}
use Rattle.pp_cmd_judge.specs.Judgements.{is_driven}
use Rattle.pp_cmd_judge.specs.StyleJudging.{IsGoodBy}
use Rattle.pp_cmd_judge.specs.declared.run_judge.RunJudge.{RunJudge}

pub record EngineLaws {E : Type 0} (W : EngineOf E) : Type 0 where
  -- Its style has no limit on steps.
  pub any_steps : is_driven W.style ≡ false
  -- Records that are good are of the engine's style, and all their steps meet their criteria.
  pub style : (h : Header) (rs : Records (RunRecord Op)) (engine : E) → W.AreGood h rs engine →
      h.style ≡ W.style
  pub hold : (h : Header) (rs : Records (RunRecord Op)) (engine : E) → W.AreGood h rs engine →
      AllHold h rs
  -- The judge of all styles says what the engine with its number of steps says.
  pub good : (h : Lined Header) (rs : Records (RunRecord Op)) (judge : RunJudge E) →
      AreCounted W h.what rs judge → IsGoodBy h rs (W.wrap judge)
  pub own_good : (h : Lined Header) (rs : Records (RunRecord Op)) (judge : RunJudge E) →
      IsGoodBy h rs (W.wrap judge) → AreCounted W h.what rs judge
