-- Proof machinery: what takes the lines of an input, and what reading them comes to.
use Rattle.std.specs.Prelude.{◌≡◌, ◌≤◌, ◌+◌, ◌⊎◌, ℕ, List, ◌∷◌, [], ◌++◌, length, Option, None}
use Rattle.std.specs.Prelude.{Some}
use Rattle.std.specs.Io.KnownBytes.{Consumes}
use Rattle.pp_input.specs.declared.fault.LineFault.{LineFault}
use Rattle.pp_input.specs.declared.limits.Limits.{Limits}
use Rattle.pp_input.specs.Held.{Held}
use Rattle.pp_input.specs.Limits.{HasNext}
use Rattle.pp_input.specs.Lines.{NumberedLine}
use Rattle.pp_input.specs.Overruns.{early_lines, overrun, scanned_lines}
use Rattle.pp_input.specs.Taken.{Hands, Took}
use Rattle.pp_input_reader.specs.declared.cause.Cause.{Cause}
use Rattle.pp_input_reader.specs.declared.stop.Failure.TheVariants as failures
use Rattle.pp_input_reader.specs.declared.stop.Stop.{Stop}
use Rattle.pp_input_reader.specs.declared.stop.Stop.TheVariants as stops
use Rattle.pp_input_reader.specs.Limits.{limit_fault}

-- the limits of an input; where lines lead to, which fault they have, and what they cost; and which
-- fault a passed limit is
pub record Reading (T F : Type 0) : Type 1 where
  -- the limits of an input
  pub limits : Limits
  -- these lines have no fault, and lead to here
  pub Leads : List NumberedLine → T → Type 0
  -- the first fault of these lines is this one, of this line
  pub HasFault : List NumberedLine → ℕ → F → Type 0
  -- all of these lines but the last were taken, and after it the counter of operations shows this
  pub Stops : List NumberedLine → ℕ → Type 0
  -- the fault of an input that passes a limit, by its cause
  pub at_limit : Cause → F

-- a fault of which this holds; the only other stop is out of memory
abbrev pub IfFault : {F : Type 0} → Stop F → (ℕ → F → Type 0) → Type 0
IfFault (stops.Fault line fault) P = P line fault
IfFault (stops.Failure failure) P = failure ≡ failures.OutOfMemory

-- a fault of which this holds, if it is one
abbrev pub IfInputFault : {F : Type 0} → Stop F → (ℕ → F → Type 0) → Type 0
IfInputFault (stops.Fault line fault) P = P line fault
IfInputFault (stops.Failure failure) P = Unit {0}

-- ---- a line

-- this line comes next, after lines that led to here
abbrev pub IsNext : {T F : Type 0} → Reading T F → T → NumberedLine → Type 0
IsNext R from line = (lines : List NumberedLine) × R.Leads lines from
    × (line.0 ≡ length lines + 1) × (line.0 ≤ R.limits.lines) × HasNext line.0

-- it leads from here to there
abbrev pub LeadsOn : {T F : Type 0} → Reading T F → T → NumberedLine → T → Type 0
LeadsOn R from line to =
    (lines : List NumberedLine) → R.Leads lines from → R.Leads (lines ++ line ∷ []) to

-- these lines have this fault, whatever lines come after them
abbrev pub HasFaultBehind : {T F : Type 0} → Reading T F → List NumberedLine → ℕ → F → Type 0
HasFaultBehind R lines at fault = (more : List NumberedLine) → R.HasFault (lines ++ more) at fault

-- it is not taken: it has a fault, or it stops out of memory
abbrev pub StopsAt : {T F : Type 0} → Reading T F → T → NumberedLine → Stop F → Type 0
StopsAt R from line stop = IfFault stop (λ at fault. (lines : List NumberedLine) →
    R.Leads lines from → HasFaultBehind R (lines ++ line ∷ []) at fault)

-- it is not taken, and the counter shows this
abbrev pub StopsWith : {T F : Type 0} → Reading T F → T → NumberedLine → ℕ → Type 0
StopsWith R from line new =
    (lines : List NumberedLine) → R.Leads lines from → R.Stops (lines ++ line ∷ []) new

-- what the counter shows if some of these lines were taken, from the first on
abbrev pub CountsTo : {T F : Type 0} → Reading (T × ℕ) F → List NumberedLine → ℕ → Type 0
CountsTo {T} {F} R lines new = (front : List NumberedLine) × (back : List NumberedLine)
    × (lines ≡ front ++ back) × (((taker : T) × R.Leads front (taker, new)) ⊎ R.Stops front new)

-- ---- an input that comes in pieces

-- of these lines those that are not held any more led to here
abbrev pub Follows : {T F : Type 0} → Reading T F → List NumberedLine → Held → T → Type 0
Follows R lines held taker = (out : List NumberedLine) × Hands lines out held × R.Leads out taker

-- these bytes were taken, with no fault, and each line that they end
pub record IsAt {T F : Type 0} (R : Reading T F) (bytes : List ℕ) (held : Held) (taker : T) :
    Type 0 where
  pub took : Took R.limits bytes (early_lines R.limits bytes) held
  pub sound : held.fault ≡ None
  pub leads : R.Leads (early_lines R.limits bytes) taker

-- a limit that is passed on this line is this fault
abbrev pub IsLimitFault : {T F : Type 0} → Reading T F → Option LineFault → ℕ → F → Type 0
IsLimitFault R limit at fault =
    (cause : Cause) × (limit_fault limit ≡ Some (at, cause)) × (fault ≡ R.at_limit cause)

-- the lines have no fault, and after them a limit is passed, which is this fault
abbrev pub PassesLimit : {T F : Type 0} → Reading T F → List NumberedLine → Option LineFault → ℕ →
    F → Type 0
PassesLimit {T} {F} R lines limit at fault =
    (taker : T) × R.Leads lines taker × IsLimitFault R limit at fault

-- the first fault of an input: of its lines, or that a limit is passed
abbrev pub HasInputFault : {T F : Type 0} → Reading T F → List ℕ → ℕ → F → Type 0
HasInputFault R bytes at fault = R.HasFault (scanned_lines R.limits bytes) at fault
    ⊎ PassesLimit R (scanned_lines R.limits bytes) (overrun R.limits bytes) at fault

-- this fault of an input no further byte can change
abbrev pub HasEarlyFault : {T F : Type 0} → Reading T F → List ℕ → ℕ → F → Type 0
HasEarlyFault R bytes at fault = HasFaultBehind R (early_lines R.limits bytes) at fault
    ⊎ PassesLimit R (early_lines R.limits bytes) (overrun R.limits bytes) at fault

-- what the counter shows if these bytes were read, whatever bytes come after them
abbrev pub CountsEarly : {T F : Type 0} → Reading (T × ℕ) F → List ℕ → ℕ → Type 0
CountsEarly R bytes new =
    (left : List ℕ) → CountsTo R (scanned_lines R.limits (bytes ++ left)) new

-- ---- a source

-- what was read passes no limit, and its lines lead to here
abbrev pub ReadsAll : {T F : Type 0} → Reading T F → Option (List ℕ) → Option (List ℕ) → T → Type 0
ReadsAll R old new taker = (bytes : List ℕ) × Consumes old new bytes
    × (overrun R.limits bytes ≡ None) × R.Leads (scanned_lines R.limits bytes) taker

-- what was read has no fault that no further byte can change
abbrev pub ReadsSoFar : {T F : Type 0} → Reading T F → Option (List ℕ) → Option (List ℕ) → Type 0
ReadsSoFar {T} {F} R old new = (bytes : List ℕ) × Consumes old new bytes
    × (overrun R.limits bytes ≡ None)
    × ((taker : T) × R.Leads (early_lines R.limits bytes) taker)
