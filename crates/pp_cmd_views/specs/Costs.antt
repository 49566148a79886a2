-- Meaning: how far `views` raises the counter of operations that are applied or taken back.
use Rattle.std.specs.Prelude.{◌≤◌, ◌+◌, ◌*◌, ℕ, List, length, map, nat_lt, if◌then◌else◌}
use Rattle.pp_core.specs.declared.limits.TheConstants.{MOST_VIEWED}
use Rattle.pp_core.specs.Steps.{Step}
use Rattle.pp_model.specs.Config.{CommittedTx}
use Rattle.pp_model.specs.Serial.{attempts, committed_tx}
use Rattle.pp_model.specs.Sound.{serial_ops}
use Rattle.pp_objects.specs.declared.act.Op.{Op}
use Rattle.pp_attempts.specs.Peaks.{operations, peaks}
use Rattle.pp_judge.specs.Costs.{OfRun, steps_at_most}
use Rattle.pp_judge.specs.Scans.{InputScan}

-- What looking for the views costs at most, over these committed transactions: one for each of
-- their operations, and two for each operation of the attempts, before all of them and after each
-- of them. If the operations of the attempts are too many, nothing is looked for.
abbrev pub viewing_at_most : List (CommittedTx Op) → List (Step Op) → ℕ
viewing_at_most committed steps =
    let count = operations (peaks steps) in if nat_lt MOST_VIEWED count then 0
    else length (serial_ops committed) + 2 * ((length committed + 1) * count)

-- The counter rises at most by the cost of the start and the steps, and that of the views of their
-- attempts.
abbrev pub ViewsCostAtMost : InputScan → (old new : ℕ) → Type 0
ViewsCostAtMost sc old new =
    OfRun sc.header sc.records λ start steps. new ≤ old + (steps_at_most start steps
    + viewing_at_most (map committed_tx (attempts start steps)) steps)
