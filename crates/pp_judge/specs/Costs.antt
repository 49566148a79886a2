-- Meaning: how far a command raises the counter of operations that are applied or taken back.
use Rattle.std.specs.Prelude.{◌≡◌, ◌≤◌, ◌+◌, ◌*◌, ℕ, List, [], length, take, Option, None, Some}
use Rattle.pp_core.specs.declared.limits.TheConstants.{MOST_STEPS}
use Rattle.pp_core.specs.declared.status.Status.{Status}
use Rattle.pp_core.specs.declared.status.Status.TheVariants as statuses
use Rattle.pp_core.specs.Steps.{Step}
use Rattle.pp_records.specs.Records.{RunRecord}
use Rattle.pp_records.specs.Runs.{IsRun, Lined, LinedSteps, Records, bare}
use Rattle.pp_format_read.specs.declared.header.Header.{Header}
use Rattle.pp_model.specs.Config.{Start, but_last, first}
use Rattle.pp_model.specs.Serial.{attempts, serial}
use Rattle.pp_objects.specs.Objects.{place_of}
use Rattle.pp_objects.specs.declared.act.Op.{Op}
use Rattle.pp_styles.specs.Costs.{most_ticks, singles}
use Rattle.pp_judge.specs.Objects.{object_of, start_of, translation_of}
use Rattle.pp_judge.specs.Scans.{InputScan}

-- ---- the run of an input

-- the start that an input has, if its header has one
abbrev pub start_behind : Option (Lined Header) → Option (Start Op)
start_behind None = None
start_behind (Some header) = start_of header.what

-- the run of the records of an input: without a header it has no step
abbrev pub IsRunBehind : Option (Lined Header) → Records (RunRecord Op) → LinedSteps Op → Type 0
IsRunBehind None records run = run ≡ []
IsRunBehind (Some header) records run =
    IsRun (object_of header.what) (translation_of header.what) (start_of header.what) records run

-- of the start and of the steps of every run of these records (there is one at most) this holds
abbrev pub OfRun : Option (Lined Header) → Records (RunRecord Op) →
    (Option (Start Op) → List (Step Op) → Type 0) → Type 0
OfRun header records P = (run : LinedSteps Op) → IsRunBehind header records run →
    P (start_behind header) (bare run)

-- ---- the parts

-- how many operations the start has
abbrev pub start_length : Option (Start Op) → ℕ
start_length None = 0
start_length (Some z) = length z.items

-- what the start costs at most: two for each of its operations
abbrev pub start_at_most : Option (Start Op) → ℕ
start_at_most None = 0
start_at_most (Some z) = 2 * length z.items

-- what the start and the first 200,000 steps of a run cost at most
abbrev pub steps_at_most : Option (Start Op) → List (Step Op) → ℕ
steps_at_most start steps =
    start_at_most start + most_ticks place_of (first start) (take MOST_STEPS steps)

-- how many operations the serial run of the steps has
abbrev pub serial_length : Option (Start Op) → List (Step Op) → ℕ
serial_length start steps = length (serial (attempts start steps))

-- ---- the sums

-- what certifying a run costs at most
abbrev pub most_of_run : Option (Start Op) → List (Step Op) → ℕ
most_of_run start steps = steps_at_most start steps + serial_length start steps

-- What certifying a run costs at least, by its verdict. In an accepted run each step meets its
-- criteria, and in a rejected one each but the last. A start counts nothing here. Without a verdict
-- nothing is required.
abbrev pub least_of_run : Status → Option (Start Op) → List (Step Op) → ℕ
least_of_run statuses.Accepted start steps = singles steps + serial_length start steps
least_of_run statuses.Rejected start steps = singles (but_last steps)
least_of_run statuses.BadWords start steps = 0
least_of_run statuses.InputFault start steps = 0
least_of_run statuses.ReadFault start steps = 0
least_of_run statuses.WriteFault start steps = 0
least_of_run statuses.OutOfMemory start steps = 0
least_of_run statuses.TooLarge start steps = 0

-- the same of expanding a run, which has no serial run
abbrev pub least_of_steps : Status → Option (Start Op) → List (Step Op) → ℕ
least_of_steps statuses.Accepted start steps = singles steps
least_of_steps statuses.Rejected start steps = singles (but_last steps)
least_of_steps statuses.BadWords start steps = 0
least_of_steps statuses.InputFault start steps = 0
least_of_steps statuses.ReadFault start steps = 0
least_of_steps statuses.WriteFault start steps = 0
least_of_steps statuses.OutOfMemory start steps = 0
least_of_steps statuses.TooLarge start steps = 0

-- ---- the bounds

-- the counter rises at most by what certifying the run of the input costs at most
abbrev pub CostsAtMost : InputScan → (old new : ℕ) → Type 0
CostsAtMost sc old new =
    OfRun sc.header sc.records λ start steps. new ≤ old + most_of_run start steps

-- and at least by what it costs at least
abbrev pub CostsAtLeast : Status → InputScan → (old new : ℕ) → Type 0
CostsAtLeast status sc old new =
    OfRun sc.header sc.records λ start steps. old + least_of_run status start steps ≤ new

-- the same of its start and its steps alone, without the serial run
abbrev pub StepsCostAtMost : InputScan → (old new : ℕ) → Type 0
StepsCostAtMost sc old new =
    OfRun sc.header sc.records λ start steps. new ≤ old + steps_at_most start steps

abbrev pub StepsCostAtLeast : Status → InputScan → (old new : ℕ) → Type 0
StepsCostAtLeast status sc old new =
    OfRun sc.header sc.records λ start steps. old + least_of_steps status start steps ≤ new
