-- Steps can not be without a verdict.
use Rattle.std.specs.Prelude.{ℕ, zero, suc, List, [], ◌∷◌, Option}
use Rattle.std.proofs.Common.{refl}
use mathlib.Core.Logic.{inl, inr}
use Rattle.pp_records.proofs.Ends.{some_number}
use Rattle.pp_model.specs.Config.{Config, Start, Step, first, then}
use Rattle.pp_model.specs.Object.{Object}
use Rattle.pp_model.specs.Rules.{Accepted, Breaks, IsVerdict, IsVerdictFrom, Rejected, StartBreaks, Verdict, criteria, start_criteria}

module _ {Op State : Type 0} (O : Object Op State) where
  some_verdict_from : (i : ℕ) (c : Config Op) (ss : List (Step Op)) → ((v : Verdict) → IsVerdictFrom O i c ss v → ⊥) → ⊥
  some_verdict_from i c [] nowhere = nowhere Accepted refl
  some_verdict_from i c (s ∷ ss) nowhere = some_number (criteria O c s) (judged (some_verdict_from (suc i) (then c s) ss))
    where
      judged : (((v : Verdict) → IsVerdictFrom O (suc i) (then c s) ss v → ⊥) → ⊥) → (n : ℕ) → Breaks O c s n → ⊥
      judged behind zero meets = behind (λ v is. nowhere v (inr (meets, is)))
      judged behind (suc n) breaks = nowhere (Rejected i (suc n)) (inl (n, breaks, refl))

  -- Steps can not be without a verdict.
  pub some_verdict : (h : Option (Start Op)) (ss : List (Step Op)) → ((v : Verdict) → IsVerdict O h ss v → ⊥) → ⊥
  some_verdict h ss nowhere = some_number (start_criteria O h) judged
    where
      judged : (n : ℕ) → StartBreaks O h n → ⊥
      judged zero meets = some_verdict_from 1 (first h) ss (λ v is. nowhere v (inr (meets, is)))
      judged (suc n) breaks = nowhere (Rejected 0 (suc n)) (inl (n, breaks, refl))
