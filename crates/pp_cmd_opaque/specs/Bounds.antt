-- Meaning: how far `opaque` raises the counter of operations that are applied or taken back.
use Rattle.std.specs.Prelude.{◌≤◌, ◌+◌, ℕ, List, map, Option}
use Rattle.pp_core.specs.Steps.{Step}
use Rattle.pp_model.specs.Config.{Start}
use Rattle.pp_model.specs.Serial.{attempts, committed_tx}
use Rattle.pp_objects.specs.declared.act.Op.{Op}
use Rattle.pp_opacity.specs.Costs.{searching_at_most}
use Rattle.pp_judge.specs.Costs.{OfRun, steps_at_most}
use Rattle.pp_judge.specs.Scans.{InputScan}

-- what the search for the first zombie of an accepted run costs at most
abbrev pub search_at_most : Option (Start Op) → List (Step Op) → ℕ
search_at_most start steps =
    searching_at_most start steps (map committed_tx (attempts start steps))

-- the counter rises at most by what the start and the steps cost, and the search
abbrev pub OpaqueCostsAtMost : InputScan → (old new : ℕ) → Type 0
OpaqueCostsAtMost sc old new =
    OfRun sc.header sc.records λ start steps. new ≤ old + (steps_at_most start steps
    + search_at_most start steps)
