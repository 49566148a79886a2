-- Proof machinery: what the machine says of runs of style rules, as their engine.
use Rattle.std.specs.Prelude.{◌≡◌, ℕ, suc, Bool, true, false, List, length, None, Some}
use Rattle.pp_core.specs.Steps.{Step}
use Rattle.pp_core.specs.declared.call.Kind.{Kind}
use Rattle.pp_core.specs.declared.call.Style.TheVariants as styles
use Rattle.pp_kind.specs.Object.{rules_of}
use Rattle.pp_machine.specs.Evidence.{evidence}
use Rattle.pp_machine.specs.Machines.{Seen}
use Rattle.pp_machine.specs.declared.machine.Outcome.{Outcome}
use Rattle.pp_machine.specs.declared.machine.Outcome.TheVariants.{Done, False}
use Rattle.pp_model.specs.Config.{after}
use Rattle.pp_model.specs.Rules.{Breaks}
use Rattle.pp_records.specs.Records.{Plain, RunRecord}
use Rattle.pp_records.specs.Runs.{Records, bare}
use Rattle.pp_format_read.specs.declared.header.Header.{Header}
use Rattle.pp_objects.specs.Objects.{kinds_of, objects}
use Rattle.pp_objects.specs.declared.act.Op.{Op}
use Rattle.pp_judge.specs.Objects.{start_of}
use Rattle.pp_cmd_quick.specs.Decisions.{AllHold, steps_behind}
use Rattle.pp_cmd_judge.specs.Engines.{EngineOf}
use Rattle.pp_cmd_judge.specs.declared.rules.RuleMachine.{RuleMachine}
use Rattle.pp_cmd_judge.specs.declared.style_judge.StyleJudge.TheVariants.{Rules}

-- The start and each step of the records after a header meet their criteria, there are as many
-- steps as records, and this is the machine after them.
pub record AreDoneBehind (header : Header) (records : Records (RunRecord Op))
    (engine : RuleMachine) : Type 0 where
  pub style : header.style ≡ styles.Rules
  pub shape : engine.machine.shape ≡ kinds_of header.catalog
  pub hold : AllHold header records
  pub config : engine.machine.config
      ≡ after (start_of header) (bare (steps_behind header records))
  pub count : engine.machine.count ≡ length records
  pub steps : length (steps_behind header records) ≡ length records

-- the machine after a step with this outcome, and whether the step meets its criteria
abbrev pub engine_after : Seen (List Kind) Op → Outcome Op → RuleMachine × Bool
engine_after machine Done = (record { machine = machine; broken = None }, true)
engine_after machine (False n detail) =
    (record { machine = machine; broken = Some (record { criterion = n; detail = detail }) }, false)

-- The record is a step, and the engine keeps which criterion of it is the first that is violated,
-- with the evidence.
pub record IsBroken (engine : RuleMachine) (r : RunRecord Op) : Type 0 where
  pub step : Step Op
  pub is : r ≡ Plain step
  pub number : ℕ
  pub breaks : Breaks (rules_of objects engine.machine.shape) engine.machine.config step
      (suc number)
  pub kept : engine.broken ≡ Some (record {
    criterion = suc number;
    detail = evidence objects engine.machine.shape engine.machine.config step (suc number);
  })

abbrev pub rules_engine : EngineOf RuleMachine
rules_engine = record {
  style = styles.Rules;
  AreGood = AreDoneBehind;
  IsRefused = IsBroken;
  search = λ engine. 0;
  done = λ engine. engine.machine.config.done;
  shape = λ engine. engine.machine.shape;
  wrap = λ judge. Rules judge;
}
