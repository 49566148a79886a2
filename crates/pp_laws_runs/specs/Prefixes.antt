-- Meaning: the prefixes of an accepted input.
use Rattle.std.specs.Prelude.{◌≡◌, ◌≤◌, ℕ, List, [], ◌∷◌, ◌++◌, length, map, None, Some}
use Rattle.pp_core.specs.declared.status.Status.TheVariants as statuses
use Rattle.pp_records.specs.Inputs.{Accepts, IsReport}
use Rattle.pp_records.specs.Runs.{Lined}
use Rattle.pp_input.specs.Lines.{ended}
use Rattle.pp_format_read.specs.declared.header.Header.{Header}
use Rattle.pp_model.specs.Serial.{Attempt, committed_tx}
use Rattle.pp_objects.specs.declared.act.Op.{Op}
use Rattle.pp_objects.specs.declared.states.ObjectState.{ObjectState}
use Rattle.pp_input_reader.specs.declared.cause.Cause.TheVariants.{TooManySteps}
use Rattle.pp_judge.specs.Accepted.{HasRun}
use Rattle.pp_judge.specs.Inputs.{IsFaultOf, scan}
use Rattle.pp_judge.specs.Objects.{setting_of}
use Rattle.pp_judge.specs.Reports.{IsCertified}

-- the last of the bytes is a byte 10
abbrev pub EndsLine : List ℕ → Type 0
EndsLine bytes = (start : List ℕ) × (bytes ≡ start ++ 10 ∷ [])

-- This prefix of an input ends after a byte 10, and the line of the input's header is among the
-- lines that it ends.
pub record IsPrefixOfLines (front back : List ℕ) : Type 0 where
  pub ends : EndsLine front
  pub header : Lined Header
  pub read : (scan (front ++ back)).header ≡ Some header
  pub held : header.line ≤ length (ended front)

-- the first list begins the second
abbrev pub Begins : {A : Type 0} → List A → List A → Type 0
Begins {A} xs ys = (rest : List A) × (ys ≡ xs ++ rest)

-- An input is accepted, with this many steps and these committed transactions.
abbrev pub IsAccepted : List ℕ → ℕ → List (Attempt Op) → Type 0
IsAccepted bytes steps committed = (final : List ObjectState)
    × IsReport setting_of TooManySteps (scan bytes) (Accepts steps committed final)

-- This prefix of an accepted input has its header and no fault, and is accepted too: its run and
-- its committed transactions, each with its own operations, are the first of those of the whole.
-- (Of the transactions the bodies are not compared; they are in the steps of the runs.)
pub record IsAcceptedPrefix (front back : List ℕ) (committed : List (Attempt Op)) : Type 0 where
  pub header : (scan front).header ≡ (scan (front ++ back)).header
  pub no_fault : IsFaultOf (scan front) None
  pub fewer : ℕ
  pub earlier : List (Attempt Op)
  pub accepted : IsAccepted front fewer earlier
  pub committed_begin : Begins (map committed_tx earlier) (map committed_tx committed)
  pub run_begins : (run : HasRun (scan front)) (whole : HasRun (scan (front ++ back))) →
      Begins run.run whole.run

-- If an input is accepted, in whatever style, each of its prefixes that has the whole line of the
-- header and ends after a byte 10 has no fault and is accepted.
abbrev pub PrefixLaw : Type 0
PrefixLaw = (front back : List ℕ) (steps : ℕ) (committed : List (Attempt Op)) →
    IsPrefixOfLines front back → IsAccepted (front ++ back) steps committed →
    IsAcceptedPrefix front back committed

-- If the output that certifies an input says that it is accepted, so does that of the prefix.
abbrev pub CertifiedPrefixLaw : Type 0
CertifiedPrefixLaw = (front back text : List ℕ) → IsPrefixOfLines front back →
    IsCertified (front ++ back) statuses.Accepted text →
    (shorter : List ℕ) × IsCertified front statuses.Accepted shorter

-- If the header is on line 1, each prefix that ends after a byte 10 is such a prefix.
abbrev pub FirstLineLaw : Type 0
FirstLineLaw = (front back : List ℕ) (header : Lined Header) → EndsLine front →
    (scan (front ++ back)).header ≡ Some header → header.line ≡ 1 → IsPrefixOfLines front back
