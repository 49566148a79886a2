-- Meaning: how far judging an input raises the counter of operations applied or taken back, by the
-- style of its header.
use Rattle.std.specs.Prelude.{◌≡◌, ◌≤◌, ◌+◌, ℕ, Option, None, Some}
use Rattle.pp_core.specs.declared.call.Style.{Style}
use Rattle.pp_core.specs.declared.call.Style.TheVariants as styles
use Rattle.pp_core.specs.declared.status.Status.{Status}
use Rattle.pp_core.specs.declared.status.Status.TheVariants as statuses
use Rattle.pp_records.specs.Runs.{Lined, bare}
use Rattle.pp_format_read.specs.declared.header.Header.{Header}
use Rattle.pp_summary.specs.Sums.{count_ops}
use Rattle.pp_judge.specs.Costs.{OfRun, StepsCostAtLeast, serial_length}
use Rattle.pp_judge.specs.Scans.{InputScan}
use Rattle.pp_cmd_quick.specs.Costs.{TakenCostAtLeast}
use Rattle.pp_cmd_judge.specs.BoostedCosts.{BoostedCostAtMost}
use Rattle.pp_cmd_judge.specs.OptimisticCosts.{OptimisticCostAtMost}
use Rattle.pp_cmd_judge.specs.RulesCosts.{AllCostAtMost}

-- ---- without the serial run

-- The counter rises at most by what the judge of a style costs. In styles rules, hardware and
-- dependent that is what the start and the steps of the run cost.
abbrev pub StyleCostAtMost : Style → InputScan → (old new : ℕ) → Type 0
StyleCostAtMost styles.Rules sc old new = AllCostAtMost sc old new
StyleCostAtMost styles.Boosted sc old new = BoostedCostAtMost sc old new
StyleCostAtMost styles.Optimistic sc old new = OptimisticCostAtMost sc old new
StyleCostAtMost styles.Hardware sc old new = AllCostAtMost sc old new
StyleCostAtMost styles.Dependent sc old new = AllCostAtMost sc old new

-- If all steps meet their criteria, the counter rises at least so. In styles rules, hardware and
-- dependent it is by what expanding the run costs at least, and in styles boosted and optimistic by
-- one for each record that is an operation.
abbrev pub StyleGoodCostAtLeast : Style → InputScan → (old new : ℕ) → Type 0
StyleGoodCostAtLeast styles.Rules sc old new =
    StepsCostAtLeast statuses.Accepted sc old new
StyleGoodCostAtLeast styles.Boosted sc old new = old + count_ops (bare sc.records) ≤ new
StyleGoodCostAtLeast styles.Optimistic sc old new = old + count_ops (bare sc.records) ≤ new
StyleGoodCostAtLeast styles.Hardware sc old new =
    StepsCostAtLeast statuses.Accepted sc old new
StyleGoodCostAtLeast styles.Dependent sc old new =
    StepsCostAtLeast statuses.Accepted sc old new

-- If the start or a step violates a criterion, it rises at least so. In styles boosted and optimistic
-- only the records before that of the step count.
abbrev pub StyleRejectedCostAtLeast : Style → InputScan → (old new : ℕ) → Type 0
StyleRejectedCostAtLeast styles.Rules sc old new =
    StepsCostAtLeast statuses.Rejected sc old new
StyleRejectedCostAtLeast styles.Boosted sc old new = TakenCostAtLeast sc old new
StyleRejectedCostAtLeast styles.Optimistic sc old new = TakenCostAtLeast sc old new
StyleRejectedCostAtLeast styles.Hardware sc old new =
    StepsCostAtLeast statuses.Rejected sc old new
StyleRejectedCostAtLeast styles.Dependent sc old new =
    StepsCostAtLeast statuses.Rejected sc old new

-- P is true of the style of a header. Without a header the counter does not rise.
abbrev pub OfItsStyle : Option (Lined Header) → (old new : ℕ) → (Style → Type 0) → Type 0
OfItsStyle None old new P = new ≡ old
OfItsStyle (Some header) old new P = P header.what.style

abbrev pub JudgedCostAtMost : InputScan → (old new : ℕ) → Type 0
JudgedCostAtMost sc old new =
    OfItsStyle sc.header old new λ style. StyleCostAtMost style sc old new

abbrev pub GoodCostAtLeast : InputScan → (old new : ℕ) → Type 0
GoodCostAtLeast sc old new =
    OfItsStyle sc.header old new λ style. StyleGoodCostAtLeast style sc old new

abbrev pub RejectedCostAtLeast : InputScan → (old new : ℕ) → Type 0
RejectedCostAtLeast sc old new =
    OfItsStyle sc.header old new λ style. StyleRejectedCostAtLeast style sc old new

-- ---- with it

-- the counter rises at most by the length of the serial run
abbrev pub SerialCostAtMost : InputScan → (old new : ℕ) → Type 0
SerialCostAtMost sc old new =
    OfRun sc.header sc.records λ start steps. new ≤ old + serial_length start steps

-- and at least by that
abbrev pub SerialCostAtLeast : InputScan → (old new : ℕ) → Type 0
SerialCostAtLeast sc old new =
    OfRun sc.header sc.records λ start steps. old + serial_length start steps ≤ new

-- The counter rises at most by what the judge costs, and then by the serial run.
abbrev pub JudgeCostsAtMost : InputScan → (old new : ℕ) → Type 0
JudgeCostsAtMost sc old new =
    (now : ℕ) × JudgedCostAtMost sc old now × SerialCostAtMost sc now new

-- By the verdict, it rises at least by what the judge costs, and for an accepted run then by the
-- serial run. Without a verdict nothing is required.
abbrev pub JudgeCostsAtLeast : Status → InputScan → (old new : ℕ) → Type 0
JudgeCostsAtLeast statuses.Accepted sc old new =
    (now : ℕ) × GoodCostAtLeast sc old now × SerialCostAtLeast sc now new
JudgeCostsAtLeast statuses.Rejected sc old new = RejectedCostAtLeast sc old new
JudgeCostsAtLeast statuses.BadWords sc old new = Unit {0}
JudgeCostsAtLeast statuses.InputFault sc old new = Unit {0}
JudgeCostsAtLeast statuses.ReadFault sc old new = Unit {0}
JudgeCostsAtLeast statuses.WriteFault sc old new = Unit {0}
JudgeCostsAtLeast statuses.OutOfMemory sc old new = Unit {0}
JudgeCostsAtLeast statuses.TooLarge sc old new = Unit {0}
