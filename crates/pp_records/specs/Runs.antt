-- Meaning: the run of a list of records: their steps, up to and including the first that fails.
use Rattle.std.specs.Prelude.{◌≡◌, ◌⊎◌, ℕ, suc, List, [], ◌∷◌, ◌++◌, length, map, Option}
use Rattle.pp_model.specs.Object.{Object}
use Rattle.pp_model.specs.Config.{Config, Start, Step, after_from, first, then}
use Rattle.pp_model.specs.Rules.{Breaks, Meets, RunsFrom, StartBreaks, StartMeets}

-- a thing on a line of the input
pub record Lined (A : Type 0) : Type 0 where
  pub line : ℕ
  pub what : A

-- steps with the lines of their records
abbrev pub LinedSteps : Type 0 → Type 0
LinedSteps Op = List (Lined (Step Op))

-- records with their lines
abbrev pub Records : Type 0 → Type 0
Records R = List (Lined R)

-- How records become steps: from the front's state and the configuration, the steps of a record,
-- and the front's state after it.
pub record Translation (F R Op : Type 0) : Type 0 where
  pub new : F
  pub expand : F → Config Op → R → List (Step Op)
  pub front_after : F → Config Op → R → F

-- the state of a run between two records
pub record Standing (F Op : Type 0) : Type 0 where
  pub front : F
  pub config : Config Op

-- before the first record
abbrev pub outset : {F R Op : Type 0} → Translation F R Op → Option (Start Op) → Standing F Op
outset T h = record { front = T.new; config = first h }

-- the steps of a record, in this state of the run
abbrev pub steps_at : {F R Op : Type 0} → Translation F R Op → Standing F Op → R → List (Step Op)
steps_at T p r = T.expand p.front p.config r

-- the state of the run after them
abbrev pub after_record : {F R Op : Type 0} → Translation F R Op → Standing F Op → R → Standing F Op
after_record T p r =
    record {
      front = T.front_after p.front p.config r;
      config = after_from p.config (steps_at T p r);
    }

-- the elements, all on one line
abbrev pub on_line : {A : Type 0} → ℕ → List A → List (Lined A)
on_line line ss = map (λ s. record { line = line; what = s }) ss

-- the elements without their lines
abbrev pub bare : {A : Type 0} → List (Lined A) → List A
bare ss = map (λ s. s.what) ss

-- The steps of the records in order, each on the line of its record, and each record taken if those
-- before it lead.
abbrev pub joined_steps : {F R Op : Type 0} → Translation F R Op → Standing F Op → Records R →
    LinedSteps Op
joined_steps T p [] = []
joined_steps T p (r ∷ rs) =
    on_line r.line (steps_at T p r.what) ++ joined_steps T (after_record T p r.what) rs

-- the state of the run after the records
abbrev pub after_records : {F R Op : Type 0} → Translation F R Op → Standing F Op → Records R →
    Standing F Op
after_records T p [] = p
after_records T p (r ∷ rs) = after_records T (after_record T p r.what) rs

-- run is the front of the steps that ends with the first that fails, and all of them if none fails
abbrev pub EndsAtFailure : {Op State : Type 0} → Object Op State → Config Op → LinedSteps Op →
    LinedSteps Op → Type 0
EndsAtFailure O c [] run = run ≡ []
EndsAtFailure O c (s ∷ ss) run =
    ((n : ℕ) × Breaks O c s.what (suc n) × (run ≡ s ∷ []))
    ⊎ (Meets O c s.what
    × ((rest : List (Lined (Step _))) × EndsAtFailure O (then c s.what) ss rest
    × (run ≡ s ∷ rest)))

-- the run of the records from this state
abbrev pub IsRunFrom : {F R Op State : Type 0} → Object Op State → Translation F R Op →
    Standing F Op → Records R → LinedSteps Op → Type 0
IsRunFrom O T p rs run = EndsAtFailure O p.config (joined_steps T p rs) run

-- The run of the records: no steps if the start fails.
abbrev pub IsRun : {F R Op State : Type 0} → Object Op State → Translation F R Op →
    Option (Start Op) → Records R → LinedSteps Op → Type 0
IsRun O T h rs run =
    ((n : ℕ) × StartBreaks O h (suc n) × (run ≡ []))
    ⊎ (StartMeets O h × IsRunFrom O T (outset T h) rs run)

-- This many steps hold, and one more is on this line.
pub record HasOneMore {Op State : Type 0} (O : Object Op State) (most : ℕ) (c : Config Op)
    (ss : LinedSteps Op) (line : ℕ) : Type 0 where
  pub before : LinedSteps Op
  pub next : Lined (Step Op)
  pub behind : LinedSteps Op
  pub parts : ss ≡ before ++ next ∷ behind
  pub count : length before ≡ most
  pub hold : RunsFrom O c (bare before)
  pub place : next.line ≡ line

-- 200,000 steps hold, and the record on this line has one more.
abbrev pub HasTooManySteps : {F R Op State : Type 0} → Object Op State → Translation F R Op →
    Option (Start Op) → Records R → ℕ → Type 0
HasTooManySteps O T h rs line =
    StartMeets O h × HasOneMore O 200_000 (first h) (joined_steps T (outset T h) rs) line
