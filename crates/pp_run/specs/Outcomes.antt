-- Meaning: what a call of `run` was given, what it left, and when that is one output of an input.
use Rattle.std.specs.Prelude.{◌≡◌, ℕ, List, Option}
use Rattle.std.specs.Io.KnownBytes.{Appends}
use Rattle.pp_core.specs.declared.status.Status.{Status}
use Rattle.pp_input_reader.specs.Sources.{WhereTold}
use Rattle.pp_run.specs.Outputs.{IsPrinted}

-- What a call of `run` was given, and what it left.
pub record Outcome : Type 0 where
  -- the bytes that the source had left before the call, and those after it, if it says them
  pub input : Option (List ℕ)
  pub rest : Option (List ℕ)
  -- the bytes that the sink held before the call, and those after it, if it says them
  pub held : Option (List ℕ)
  pub holds : Option (List ℕ)
  pub status : Status
  -- the counter of operations before the call, and after it
  pub before : ℕ
  pub after : ℕ

abbrev pub outcome : (input rest held holds : Option (List ℕ)) → Status → (before after : ℕ) →
    Outcome
outcome input rest held holds status before after =
    record {
      input = input;
      rest = rest;
      held = held;
      holds = holds;
      status = status;
      before = before;
      after = after;
    }

-- The status and the written text are an output that is defined for these bytes, and no other is
-- defined for them.
pub record IsTheOutput (IsOutputOf : List ℕ → Status → List ℕ → Type 0) (bytes : List ℕ)
    (o : Outcome) : Type 0 where
  pub output : (text : List ℕ) × IsOutputOf bytes o.status text × Appends o.held o.holds text
  pub only : (other : Status) (text : List ℕ) → IsOutputOf bytes other text →
      (other ≡ o.status) × Appends o.held o.holds text

-- The statement P is true of the input, if the source says what bytes it has left.
abbrev pub OfItsInput : Outcome → (List ℕ → Type 0) → Type 0
OfItsInput o P = WhereTold o.input P

-- A printed output is the only one that is defined for the input.
abbrev pub PrintsJust : (List ℕ → Status → List ℕ → Type 0) → Outcome → Type 0
PrintsJust IsOutputOf o = IsPrinted o.status → OfItsInput o λ bytes. IsTheOutput IsOutputOf bytes o
