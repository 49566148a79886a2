-- The report of a run whose steps are written down as an input of style rules.
use Rattle.std.specs.Prelude.{◌≡◌, ◌+◌, ℕ, zero, suc, List, [], ◌∷◌, length, slice_get, take}
use Rattle.std.specs.Prelude.{Option, None, Some}
use Rattle.std.proofs.Common.{refl, sym, ap, subst, ◌∙◌, arith}
use Rattle.pp_core.specs.declared.call.Kind.{Kind}
use Rattle.pp_model.specs.Config.{Step, after}
use Rattle.pp_model.specs.Object.{state}
use Rattle.pp_model.specs.Rules.{Accepted, IsVerdict, Rejected, Verdict}
use Rattle.pp_model.specs.Serial.{attempts, serial}
use Rattle.pp_records.specs.Inputs.{Accepts, IsReportOf, Report, Setting, StepRejected}
use Rattle.pp_records.specs.Reprints.{ReprintLaw, as_rules, relined}
use Rattle.pp_records.specs.Runs.{Lined, LinedSteps, bare}
use Rattle.pp_records.specs.Styles.{numbered, restated}
use Rattle.pp_records.proofs.Ends.{length_bare}
use Rattle.pp_records.proofs.Restating.{bare_numbered, restated_run}

length_restated : {Op : Type 0} (run : LinedSteps Op) → length (restated run) ≡ length run
length_restated {Op} run = sym (length_bare (restated run)) ∙ ap (λ (w : List (Step Op)). length w) (bare_numbered 1 (bare run)) ∙ length_bare run

-- the step at a place, and those before it
numbered_at : {A : Type 0} (i k : ℕ) (run : List (Lined A)) (s : Lined A) → slice_get run i ≡ Some s → slice_get (numbered k (bare run)) i ≡ Some (record { line = k + suc i; what = s.what })
numbered_at i k [] s e = absurd (cc)
numbered_at {A} zero k (x ∷ run) s e =
    ap (λ (w : Option (Lined A)). first_at w) e ∙ ap (λ (n : ℕ). let z : Lined A = record { line = n; what = s.what } in Some z) (one k)
  where
    first_at : Option (Lined A) → Option (Lined A)
    first_at None = None
    first_at (Some y) = Some (record { line = suc k; what = y.what })

    one : (k : ℕ) → suc k ≡ k + 1
    one k = omega arith
numbered_at {A} (suc i) k (x ∷ run) s e =
    numbered_at i (suc k) run s e ∙ ap (λ (n : ℕ). let z : Lined A = record { line = n; what = s.what } in Some z) (more k i)
  where
    more : (k i : ℕ) → suc k + suc i ≡ k + suc (suc i)
    more k i = omega arith

numbered_front : {A : Type 0} (i k : ℕ) (run : List (Lined A)) → bare (take i (numbered k (bare run))) ≡ bare (take i run)
numbered_front zero k run = refl
numbered_front (suc i) k [] = refl
numbered_front {A} (suc i) k (x ∷ run) = ap (λ (w : List A). x.what ∷ w) (numbered_front i (suc k) run)

module _ {F R Op State Cause : Type 0} (s : Setting F R Op State) (line : ℕ) (place : Op → ℕ) (ks : List Kind) where
  reported : (run : LinedSteps Op) (v : Verdict) (r : Report Op State Cause) → IsReportOf s run v r → IsReportOf (as_rules line place ks s) (restated run) v (relined line r)
  reported run Accepted r k =
      let f : ℕ → List (Step Op) → Report Op State Cause = λ n ss. Accepts n (attempts s.start ss) (state s.object (serial (attempts s.start ss))) in
      ap (λ (w : Report Op State Cause). relined line w) k
      ∙ ap (λ (n : ℕ). f n (bare run)) (sym (length_restated run))
      ∙ ap (λ (ss : List (Step Op)). f (length (restated run)) ss) (sym (bare_numbered 1 (bare run)))
  reported run (Rejected zero n) r k = ap (λ (w : Report Op State Cause). relined line w) k
  reported run (Rejected (suc i) n) r k =
      let step : Lined (Step Op) = record { line = 1 + suc i; what = k.0.what } in (
        step,
        numbered_at i 1 run k.0 k.1,
        ap (λ (w : Report Op State Cause). relined line w) k.2
            ∙ ap (λ (l : ℕ). StepRejected (suc i) l n (after s.start (bare (take i run))) k.0.what) (other i)
            ∙ ap (λ (ss : List (Step Op)). StepRejected (suc i) step.line n (after s.start ss) k.0.what) (sym (numbered_front i 1 run)),
      )
    where
      other : (i : ℕ) → suc (suc i) ≡ 1 + suc i
      other i = omega arith

-- The steps of a run, written down, have the same verdict and report, but for the lines.
pub reprint_law : {H F R Op State : Type 0} (setting : H → Setting F R Op State) (Cause : Type 0) → ReprintLaw setting Cause
reprint_law {H} {F} {R} {Op} setting Cause line place ks h rs run v r is verdict report = (
  restated_run (setting h).object (setting h).translation place ks (setting h).start rs run is,
  subst (λ (w : List (Step Op)). IsVerdict (setting h).object (setting h).start w v) (sym (bare_numbered 1 (bare run))) verdict,
  reported (setting h) line place ks run v r report,
)
