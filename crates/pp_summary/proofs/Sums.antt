-- The cost of taking the records of a run.
use Rattle.std.specs.Prelude.{◌≡◌, ◌≤◌, ◌+◌, ℕ, List, [], ◌∷◌, ◌++◌, filter, length}
use Rattle.std.proofs.Common.{refl, sym, ap, ◌∙◌, arith, length-append}
use Rattle.std.proofs.lemmas.List.Elements.{filter-append}
use mathlib.Core.Logic.{inl, inr}
use Rattle.pp_model.specs.Object.{Object}
use Rattle.pp_records.specs.Records.{RunRecord}
use Rattle.pp_records.specs.Records as records
use Rattle.pp_summary.specs.Brief.{Brief, BriefGood, brief_then}
use Rattle.pp_summary.specs.Held.{GoodCosts, take_most}
use Rattle.pp_summary.specs.Runs.{BriefRuns, brief_after}
use Rattle.pp_summary.specs.Sums.{AreTried, SumLaw, count_ops, is_op, records_most}

module _ {Op State : Type 0} (O : Object Op State) (place : Op → ℕ) where
  one : (rs : List (RunRecord Op)) (B : Brief Op) (a b : List (RunRecord Op)) → AreTried O place B rs a → AreTried O place B rs b → a ≡ b
  one [] B a b x y = x ∙ sym y
  one (r ∷ rs) B a b (inl x) (inl y) = x.1 ∙ sym y.1
  one (r ∷ rs) B a b (inl x) (inr y) = absurd (x.0 y.0)
  one (r ∷ rs) B a b (inr x) (inl y) = absurd (y.0 x.0)
  one (r ∷ rs) B a b (inr x) (inr y) = x.1.2 ∙ ap (λ (z : List (RunRecord Op)). r ∷ z) (one rs (brief_then place B r) x.1.0 y.1.0 x.1.1 y.1.1) ∙ sym y.1.2

  some : (rs : List (RunRecord Op)) (B : Brief Op) → ((tried : List (RunRecord Op)) → AreTried O place B rs tried → ⊥) → ⊥
  some [] B nowhere = nowhere [] refl
  some (r ∷ rs) B nowhere = nowhere (r ∷ []) (inl ((λ g. some rs (brief_then place B r) (λ tried k. nowhere (r ∷ tried) (inr (g, (tried, k, refl))))), refl))

  so_far : (rs : List (RunRecord Op)) (B : Brief Op) (more tried : List (RunRecord Op)) → BriefRuns O place B rs → AreTried O place B (rs ++ more) tried → records_most place B rs ≤ records_most place B tried
  so_far [] B more tried h k = omega arith
  so_far (r ∷ rs) B more tried h (inl k) = absurd (k.0 h.0)
  so_far (r ∷ rs) B more tried h (inr k) =
      let i = so_far rs (brief_then place B r) more k.1.0 h.1 k.1.1 in
      let e : records_most place B tried ≡ take_most B r + records_most place (brief_then place B r) k.1.0 = ap (λ (z : List (RunRecord Op)). records_most place B z) k.1.2 in
      omega (arith, i, e)

  next : (rs : List (RunRecord Op)) (B : Brief Op) (more tried : List (RunRecord Op)) (r : RunRecord Op) → BriefRuns O place B rs → AreTried O place B (rs ++ r ∷ more) tried →
      records_most place B rs + take_most (brief_after place B rs) r ≤ records_most place B tried
  next [] B more tried r h (inl k) =
      let e : records_most place B tried ≡ take_most B r + 0 = ap (λ (z : List (RunRecord Op)). records_most place B z) k.1 in omega (arith, e)
  next [] B more tried r h (inr k) =
      let e : records_most place B tried ≡ take_most B r + records_most place (brief_then place B r) k.1.0 = ap (λ (z : List (RunRecord Op)). records_most place B z) k.1.2 in
      omega (arith, e)
  next (q ∷ rs) B more tried r h (inl k) = absurd (k.0 h.0)
  next (q ∷ rs) B more tried r h (inr k) =
      let i = next rs (brief_then place B q) more k.1.0 r h.1 k.1.1 in
      let e : records_most place B tried ≡ take_most B q + records_most place (brief_then place B q) k.1.0 = ap (λ (z : List (RunRecord Op)). records_most place B z) k.1.2 in
      omega (arith, i, e)

  most : (rs : List (RunRecord Op)) (B : Brief Op) (r : RunRecord Op) → records_most place B (rs ++ r ∷ []) ≡ records_most place B rs + take_most (brief_after place B rs) r
  most [] B r = omega arith
  most (q ∷ rs) B r = let i = most rs (brief_then place B q) r in omega (arith, i)

  -- If a record is the first that is not good, the records up to it are tried.
  pub tried_to : (xs more : List (RunRecord Op)) (B : Brief Op) (r : RunRecord Op) → BriefRuns O place B xs → (BriefGood O place (brief_after place B xs) r → ⊥) →
      AreTried O place B (xs ++ r ∷ more) (xs ++ r ∷ [])
  tried_to [] more B r h bad = inl (bad, refl)
  tried_to (x ∷ xs) more B r h bad = inr (h.0, (xs ++ r ∷ [], tried_to xs more (brief_then place B x) r h.1 bad, refl))

  -- If all records of a list are good, all are tried.
  pub tried_all : (xs : List (RunRecord Op)) (B : Brief Op) → BriefRuns O place B xs → AreTried O place B xs xs
  tried_all [] B h = refl
  tried_all (x ∷ xs) B h = inr (h.0, (xs, tried_all xs (brief_then place B x) h.1, refl))

  last_op : (B : Brief Op) (r : RunRecord Op) (old new : ℕ) → GoodCosts B r old new → old + length (filter is_op (r ∷ [])) ≤ new
  last_op B (records.Plain step) old new cost = omega (arith, cost)
  last_op B (records.Op t id op) old new cost = omega (arith, cost)
  last_op B (records.Commit t) old new cost = omega (arith, cost)
  last_op B (records.Abort t) old new cost = omega (arith, cost)
  last_op B (records.Retry t) old new cost = omega (arith, cost)
  last_op B (records.Refresh t q) old new cost = omega (arith, cost)
  last_op B (records.XBegin t) old new cost = omega (arith, cost)
  last_op B (records.XEnd t) old new cost = omega (arith, cost)
  last_op B (records.XAbort t) old new cost = omega (arith, cost)
  last_op B (records.Depend t source) old new cost = omega (arith, cost)
  last_op B (records.Publish t) old new cost = omega (arith, cost)
  last_op B (records.DropSource t source) old new cost = omega (arith, cost)

  least : (B : Brief Op) (rs : List (RunRecord Op)) (r : RunRecord Op) (old new : ℕ) → GoodCosts B r old new → old + count_ops (rs ++ r ∷ []) ≤ new + count_ops rs
  least B rs r old new cost =
      let a : count_ops (rs ++ r ∷ []) ≡ length (filter is_op rs ++ filter is_op (r ∷ [])) = ap (λ (z : List (RunRecord Op)). length z) (filter-append is_op rs (r ∷ [])) in
      let b = length-append (filter is_op rs) (filter is_op (r ∷ [])) in
      omega (arith, a, b, last_op B r old new cost)

  -- The tried records of a run are one list, and their cost bounds that of the records so far.
  pub sum_law : SumLaw O place
  sum_law =
      record {
        one = λ B rs a b x y. one rs B a b x y;
        some = λ B rs nowhere. some rs B nowhere;
        so_far = λ B rs more tried h k. so_far rs B more tried h k;
        next = λ B rs more tried r h k. next rs B more tried r h k;
        most = λ B rs r. most rs B r;
        least = least;
      }
