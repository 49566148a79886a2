-- Meaning: how far a machine goes through the steps of a record, and what that costs. The limit is on
-- the steps of a run. The counter of operations goes from one number to another.
use Rattle.std.specs.Prelude.{◌≡◌, ◌⊎◌, ◌≤◌, ◌<◌, ◌+◌, ℕ, List, [], ◌∷◌, ◌++◌, length, Option, None}
use Rattle.std.specs.Prelude.{Some}
use Rattle.pp_core.specs.Steps.{Step, rule_of}
use Rattle.pp_model.specs.Config.{after_from}
use Rattle.pp_model.specs.Rules.{RunsFrom}
use Rattle.pp_machine.specs.Machines.{Seen}
use Rattle.pp_machine.specs.Shown.{IsShown}
use Rattle.pp_machine.specs.Stepping.{Stepped}
use Rattle.pp_machine.specs.declared.machine.Outcome.{Outcome}
use Rattle.pp_machine.specs.declared.machine.Outcome.TheVariants.{Done, False}
use Rattle.pp_kind.specs.Object.{Object, rules_of}
use Rattle.pp_styles.specs.Costs.{most_ticks, singles}
use Rattle.pp_styles.specs.declared.drive.Halt.{Halt}
use Rattle.pp_styles.specs.declared.drive.Halt.TheVariants.{Failed, TooMany}

-- the effect of these steps, and so many steps more
abbrev pub after_steps : {Shape Op : Type 0} → Seen Shape Op → List (Step Op) → Seen Shape Op
after_steps v ss =
    record {
      shape = v.shape;
      config = after_from v.config ss;
      count = v.count + length ss;
    }

-- Of the steps those before the rest were done. Each of them holds, a run may have so many, and
-- each that is single raised the counter.
pub record HasDone (limit : ℕ) {Shape State Op Undo : Type 0} (o : Object Shape State Op Undo)
    (old : Seen Shape Op) (steps rest : List (Step Op)) (new : Seen Shape Op) (from to : ℕ) :
    Type 0 where
  pub before : List (Step Op)
  pub parts : steps ≡ before ++ rest
  pub hold : RunsFrom (rules_of o old.shape) old.config before
  pub is : new ≡ after_steps old before
  pub few : new.count ≤ limit
  pub least : from + singles before ≤ to

-- Why a machine halts at a step with this outcome, if it does.
abbrev pub halt_of : {Op : Type 0} → Step Op → Outcome Op → Option (Halt Op)
halt_of step Done = None
halt_of step (False n detail) = Some (Failed (rule_of step) n detail)

-- Why a machine halts before a step: this is the first criterion that it violates, with what shows
-- that; or a run may have no step more.
abbrev pub Halts : (limit : ℕ) → {Shape State Op Undo : Type 0} → Object Shape State Op Undo →
    Seen Shape Op → Step Op → Halt Op → Type 0
Halts limit o v step (Failed rule n detail) =
    (v.count < limit) × (rule ≡ rule_of step) × Stepped o v step (False n detail) v
    × IsShown o v step (False n detail)
Halts limit o v step TooMany = v.count ≡ limit

-- All steps were done; or those before one were, and the machine halts before that one.
abbrev pub Drives : (limit : ℕ) → {Shape State Op Undo : Type 0} → Object Shape State Op Undo →
    Seen Shape Op → List (Step Op) → ℕ → Option (Halt Op) → Seen Shape Op → ℕ → Type 0
Drives limit o old steps from None new to = HasDone limit o old steps [] new from to
Drives limit {Op = Op} o old steps from (Some halt) new to =
    (step : Step Op) × (behind : List (Step Op))
    × HasDone limit o old steps (step ∷ behind) new from to × Halts limit o new step halt

-- What the steps cost at most that were tried: those that were done, and one more at most, which a
-- run may have.
pub record CostAtMost (limit : ℕ) {Shape State Op Undo : Type 0} (o : Object Shape State Op Undo)
    (place : Op → ℕ) (old : Seen Shape Op) (steps : List (Step Op)) (from to : ℕ) : Type 0 where
  pub before : List (Step Op)
  pub tried : List (Step Op)
  pub behind : List (Step Op)
  pub parts : steps ≡ tried ++ behind
  pub hold : RunsFrom (rules_of o old.shape) old.config before
  pub last : (tried ≡ before) ⊎ ((step : Step Op) × (tried ≡ before ++ step ∷ []))
  pub few : old.count + length tried ≤ limit
  pub most : to ≤ from + most_ticks place old.config tried
