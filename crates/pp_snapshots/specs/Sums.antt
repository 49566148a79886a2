-- Meaning: the law of what taking the records of a run costs at most.
use Rattle.std.specs.Prelude.{◌≡◌, ◌≤◌, ◌+◌, ℕ, Bool, List, [], ◌∷◌, ◌++◌}
use Rattle.pp_core.specs.declared.call.Style.TheVariants.{Optimistic}
use Rattle.pp_laws_summary.specs.DecidedRuns.{GoodRuns, summary_after}
use Rattle.pp_laws_summary.specs.Laws.{summing}
use Rattle.pp_laws_summary.specs.Summary.{Summary}
use Rattle.pp_kind.specs.declared.part.Part.{Part}
use Rattle.pp_model.specs.Object.{Object}
use Rattle.pp_records.specs.Records.{RunRecord}
use Rattle.pp_snapshots.specs.Costs.{AreTried, records_most, take_most}

-- The tried records of a run are one list, and what they cost bounds the cost of the records so far.
pub record CostsOfTried {Op State : Type 0} (O : Object Op State) (place : Op → ℕ)
    (part : Op → Part) (silent : Op → Bool) : Type 0 where
  -- there is one list of tried records
  pub one : (B : Summary Op) (rs a b : List (RunRecord Op)) → AreTried O place B rs a →
      AreTried O place B rs b → a ≡ b
  pub some : (B : Summary Op) (rs : List (RunRecord Op)) →
      ((tried : List (RunRecord Op)) → AreTried O place B rs tried → ⊥) → ⊥
  -- If the first records are good, they are tried, and so is the next one.
  pub so_far : (B : Summary Op) (rs more tried : List (RunRecord Op)) →
      GoodRuns (summing Optimistic O place) B rs → AreTried O place B (rs ++ more) tried →
      records_most place part silent B rs ≤ records_most place part silent B tried
  pub next :
      (B : Summary Op) (rs more tried : List (RunRecord Op)) (r : RunRecord Op) →
      GoodRuns (summing Optimistic O place) B rs → AreTried O place B (rs ++ r ∷ more) tried →
      records_most place part silent B rs
      + take_most place part silent (summary_after (summing Optimistic O place) B rs) r
      ≤ records_most place part silent B tried
  -- what they cost at most rises by that of one more
  pub most : (B : Summary Op) (rs : List (RunRecord Op)) (r : RunRecord Op) →
      records_most place part silent B (rs ++ r ∷ [])
      ≡ records_most place part silent B rs
      + take_most place part silent (summary_after (summing Optimistic O place) B rs) r

abbrev pub TriedCostsLaw : {Op State : Type 0} → Object Op State → Type 0
TriedCostsLaw {Op} O =
    (place : Op → ℕ) (part : Op → Part) (silent : Op → Bool) → CostsOfTried O place part silent
