-- What taking the records of a run costs at most.
use Rattle.std.proofs.Common.{◌≡◌, ◌≤◌, ◌+◌, ℕ, Bool, List, [], ◌∷◌, ◌++◌, refl, sym, ap, ◌∙◌, arith, inl, inr}
use Rattle.pp_core.specs.declared.call.Style.TheVariants.{Optimistic}
use Rattle.pp_laws_summary.specs.DecidedRuns.{GoodRuns, Summing, summary_after}
use Rattle.pp_laws_summary.specs.Laws.{summing}
use Rattle.pp_laws_summary.specs.Summary.{Summary, SummaryGood, next_summary}
use Rattle.pp_kind.specs.declared.part.Part.{Part}
use Rattle.pp_model.specs.Object.{Object}
use Rattle.pp_records.specs.Fronts.{Front}
use Rattle.pp_records.specs.Records.{RunRecord}
use Rattle.pp_snapshots.specs.Costs.{AreTried, records_most, take_most}
use Rattle.pp_snapshots.specs.Sums.{CostsOfTried}

module _ {Op State : Type 0} (O : Object Op State) (place : Op → ℕ) where
  abbrev sums : Summing Front (RunRecord Op) Op (Summary Op)
  sums = summing Optimistic O place

  -- The records up to and with the first that is not good are tried.
  pub tried_to : (xs more : List (RunRecord Op)) (B : Summary Op) (r : RunRecord Op) → GoodRuns sums B xs → (SummaryGood Optimistic O place (summary_after sums B xs) r → ⊥) →
      AreTried O place B (xs ++ r ∷ more) (xs ++ r ∷ [])
  tried_to [] more B r h bad = inl (bad, refl)
  tried_to (x ∷ xs) more B r h bad = inr (h.0, (xs ++ r ∷ [], tried_to xs more (next_summary place Optimistic B x) r h.1 bad, refl))

  -- If all records of a list are good, all are tried.
  pub tried_all : (xs : List (RunRecord Op)) (B : Summary Op) → GoodRuns sums B xs → AreTried O place B xs xs
  tried_all [] B h = refl
  tried_all (x ∷ xs) B h = inr (h.0, (xs, tried_all xs (next_summary place Optimistic B x) h.1, refl))

module _ {Op State : Type 0} (O : Object Op State) (place : Op → ℕ) (part : Op → Part) (silent : Op → Bool) where
  abbrev S : Summing Front (RunRecord Op) Op (Summary Op)
  S = summing Optimistic O place

  abbrev then_is : Summary Op → RunRecord Op → Summary Op
  then_is B r = next_summary place Optimistic B r

  one : (rs : List (RunRecord Op)) (B : Summary Op) (a b : List (RunRecord Op)) → AreTried O place B rs a → AreTried O place B rs b → a ≡ b
  one [] B a b x y = x ∙ sym y
  one (r ∷ rs) B a b (inl x) (inl y) = x.1 ∙ sym y.1
  one (r ∷ rs) B a b (inl x) (inr y) = absurd (x.0 y.0)
  one (r ∷ rs) B a b (inr x) (inl y) = absurd (y.0 x.0)
  one (r ∷ rs) B a b (inr x) (inr y) = x.1.2 ∙ ap (λ (z : List (RunRecord Op)). r ∷ z) (one rs (then_is B r) x.1.0 y.1.0 x.1.1 y.1.1) ∙ sym y.1.2

  some : (rs : List (RunRecord Op)) (B : Summary Op) → ((tried : List (RunRecord Op)) → AreTried O place B rs tried → ⊥) → ⊥
  some [] B nowhere = nowhere [] refl
  some (r ∷ rs) B nowhere = nowhere (r ∷ []) (inl ((λ g. some rs (then_is B r) (λ tried k. nowhere (r ∷ tried) (inr (g, (tried, k, refl))))), refl))

  so_far : (rs : List (RunRecord Op)) (B : Summary Op) (more tried : List (RunRecord Op)) → GoodRuns S B rs → AreTried O place B (rs ++ more) tried → records_most place part silent B rs ≤ records_most place part silent B tried
  so_far [] B more tried h k = omega arith
  so_far (r ∷ rs) B more tried h (inl k) = absurd (k.0 h.0)
  so_far (r ∷ rs) B more tried h (inr k) =
      let i = so_far rs (then_is B r) more k.1.0 h.1 k.1.1 in
      let e : records_most place part silent B tried ≡ take_most place part silent B r + records_most place part silent (then_is B r) k.1.0 = ap (λ (z : List (RunRecord Op)). records_most place part silent B z) k.1.2 in
      omega (arith, i, e)

  next : (rs : List (RunRecord Op)) (B : Summary Op) (more tried : List (RunRecord Op)) (r : RunRecord Op) → GoodRuns S B rs → AreTried O place B (rs ++ r ∷ more) tried →
      records_most place part silent B rs + take_most place part silent (summary_after S B rs) r ≤ records_most place part silent B tried
  next [] B more tried r h (inl k) =
      let e : records_most place part silent B tried ≡ take_most place part silent B r + 0 = ap (λ (z : List (RunRecord Op)). records_most place part silent B z) k.1 in omega (arith, e)
  next [] B more tried r h (inr k) =
      let e : records_most place part silent B tried ≡ take_most place part silent B r + records_most place part silent (then_is B r) k.1.0 = ap (λ (z : List (RunRecord Op)). records_most place part silent B z) k.1.2 in
      omega (arith, e)
  next (q ∷ rs) B more tried r h (inl k) = absurd (k.0 h.0)
  next (q ∷ rs) B more tried r h (inr k) =
      let i = next rs (then_is B q) more k.1.0 r h.1 k.1.1 in
      let e : records_most place part silent B tried ≡ take_most place part silent B q + records_most place part silent (then_is B q) k.1.0 = ap (λ (z : List (RunRecord Op)). records_most place part silent B z) k.1.2 in
      omega (arith, i, e)

  most : (rs : List (RunRecord Op)) (B : Summary Op) (r : RunRecord Op) → records_most place part silent B (rs ++ r ∷ []) ≡ records_most place part silent B rs + take_most place part silent (summary_after S B rs) r
  most [] B r = omega arith
  most (q ∷ rs) B r = let i = most rs (then_is B q) r in omega (arith, i)

  -- The tried records of a run are one list, and their cost bounds that of the records so far.
  pub costs_of_tried : CostsOfTried O place part silent
  costs_of_tried =
      record {
        one = λ B rs a b x y. one rs B a b x y;
        some = λ B rs nowhere. some rs B nowhere;
        so_far = λ B rs more tried h k. so_far rs B more tried h k;
        next = λ B rs more tried r h k. next rs B more tried r h k;
        most = λ B rs r. most rs B r;
      }
