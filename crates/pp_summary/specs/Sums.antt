-- Meaning: the cost of taking the records of a run.
use Rattle.std.specs.Prelude.{◌≡◌, ◌≤◌, ◌+◌, ◌⊎◌, ℕ, Bool, true, false, List, [], ◌∷◌, ◌++◌, filter}
use Rattle.std.specs.Prelude.{length}
use Rattle.pp_model.specs.Object.{Object}
use Rattle.pp_records.specs.Records.{RunRecord}
use Rattle.pp_records.specs.Records as records
use Rattle.pp_summary.specs.Brief.{Brief, BriefGood, brief_then}
use Rattle.pp_summary.specs.Held.{GoodCosts, take_most}
use Rattle.pp_summary.specs.Runs.{BriefRuns, brief_after}

-- The most that these records cost, one by one.
abbrev pub records_most : {Op : Type 0} → (Op → ℕ) → Brief Op → List (RunRecord Op) → ℕ
records_most place B [] = 0
records_most place B (r ∷ rs) = take_most B r + records_most place (brief_then place B r) rs

-- Tried are the records up to and with the first that is not good, and all of them if each is
-- good.
abbrev pub AreTried : {Op State : Type 0} → Object Op State → (Op → ℕ) → Brief Op →
    List (RunRecord Op) → List (RunRecord Op) → Type 0
AreTried O place B [] tried = tried ≡ []
AreTried {Op = Op} O place B (r ∷ rs) tried =
    ((BriefGood O place B r → ⊥) × (tried ≡ r ∷ []))
    ⊎ (BriefGood O place B r × ((rest : List (RunRecord Op))
    × AreTried O place (brief_then place B r) rs rest × (tried ≡ r ∷ rest)))

-- The record is an operation.
abbrev pub is_op : {Op : Type 0} → RunRecord Op → Bool
is_op (records.Plain step) = false
is_op (records.Op t id op) = true
is_op (records.Commit t) = false
is_op (records.Abort t) = false
is_op (records.Retry t) = false
is_op (records.Refresh t q) = false
is_op (records.XBegin t) = false
is_op (records.XEnd t) = false
is_op (records.XAbort t) = false
is_op (records.Depend t source) = false
is_op (records.Publish t) = false
is_op (records.DropSource t source) = false

-- How many of the records are operations.
abbrev pub count_ops : {Op : Type 0} → List (RunRecord Op) → ℕ
count_ops rs = length (filter is_op rs)

-- The law of which records of a run are tried, and what they cost.
pub record SumLaw {Op State : Type 0} (O : Object Op State) (place : Op → ℕ) : Type 0 where
  -- There is exactly one list of tried records.
  pub one : (B : Brief Op) (rs a b : List (RunRecord Op)) → AreTried O place B rs a →
      AreTried O place B rs b → a ≡ b
  pub some : (B : Brief Op) (rs : List (RunRecord Op)) →
      ((tried : List (RunRecord Op)) → AreTried O place B rs tried → ⊥) → ⊥
  -- If the first records are good, they are tried, and so is the next one.
  pub so_far : (B : Brief Op) (rs more tried : List (RunRecord Op)) → BriefRuns O place B rs →
      AreTried O place B (rs ++ more) tried →
      records_most place B rs ≤ records_most place B tried
  pub next :
      (B : Brief Op) (rs more tried : List (RunRecord Op)) (r : RunRecord Op) →
      BriefRuns O place B rs → AreTried O place B (rs ++ r ∷ more) tried →
      records_most place B rs + take_most (brief_after place B rs) r
      ≤ records_most place B tried
  -- With one more record, the most that the records cost rises by the most that this record costs.
  pub most : (B : Brief Op) (rs : List (RunRecord Op)) (r : RunRecord Op) →
      records_most place B (rs ++ r ∷ [])
      ≡ records_most place B rs + take_most (brief_after place B rs) r
  -- With one more good record, the number of operations rises by at most the ticks that the record
  -- costs, in any brief.
  pub least : (B : Brief Op) (rs : List (RunRecord Op)) (r : RunRecord Op) (old new : ℕ) →
      GoodCosts B r old new → old + count_ops (rs ++ r ∷ []) ≤ new + count_ops rs

abbrev pub SumsLaw : {Op State : Type 0} → Object Op State → Type 0
SumsLaw {Op} O = (place : Op → ℕ) → SumLaw O place
