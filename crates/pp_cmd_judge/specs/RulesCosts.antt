-- Meaning: how far judging a run of style rules, hardware or dependent raises the counter of
-- operations applied or taken back.
use Rattle.std.specs.Prelude.{◌≤◌, ◌+◌, ℕ, List, Option}
use Rattle.pp_core.specs.Steps.{Step}
use Rattle.pp_model.specs.Config.{Start, first}
use Rattle.pp_objects.specs.Objects.{place_of}
use Rattle.pp_objects.specs.declared.act.Op.{Op}
use Rattle.pp_styles.specs.Costs.{most_ticks}
use Rattle.pp_judge.specs.Costs.{OfRun, start_at_most}
use Rattle.pp_judge.specs.Scans.{InputScan}

-- what a start and steps after it cost at most, however many they are
abbrev pub all_at_most : Option (Start Op) → List (Step Op) → ℕ
all_at_most start steps = start_at_most start + most_ticks place_of (first start) steps

-- the counter rises at most by what the start and the steps of the run cost at most
abbrev pub AllCostAtMost : InputScan → (old new : ℕ) → Type 0
AllCostAtMost sc old new =
    OfRun sc.header sc.records λ start steps. new ≤ old + all_at_most start steps
