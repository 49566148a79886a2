-- The steps of a record and what is kept, of the front of one style as of any.
use Rattle.std.proofs.Common.{◌≡◌, ℕ, List, Result, IfOk, OnOk, sym, subst}
use Rattle.pp_core.specs.declared.call.Kind.{Kind}
use Rattle.pp_core.specs.declared.step.Step.{Step as StepOf}
use Rattle.pp_model.specs.Config.{Config}
use Rattle.pp_records.specs.Expansions.{expand, front_after}
use Rattle.pp_records.specs.Fronts.{Front}
use Rattle.pp_records.specs.Records.{RunRecord}
use Rattle.pp_styles.specs.AnyFronts.{any_state, any_style}
use Rattle.pp_styles.specs.declared.any_front.AnyFront.{AnyFront}
use Rattle.pp_styles.specs.Meanings.{meanings}
use Rattle.pp_styles.specs.SameFronts.{SameFront}

module _ {Op E : Type 0} (self front : AnyFront) (is : self ≡ front) (ks : List Kind) (c : Config Op) (r : RunRecord Op) (result : Result (List (StepOf Op)) E) where
  -- The steps of a record in the front of one style are its steps in this front as any front.
  pub arm_steps : (place : Op → ℕ) → IfOk result (λ list. meanings list ≡ expand place (any_style front) (any_state ks front) c r) → IfOk result (λ list. meanings list ≡ expand place (any_style self) (any_state ks self) c r)
  arm_steps place h = subst (λ (f : AnyFront). IfOk result (λ list. meanings list ≡ expand place (any_style f) (any_state ks f) c r)) (sym is) h

  -- What the front of one style keeps after a record is what any front keeps after it.
  pub arm_kept : (kept : Front) → OnOk result (SameFront kept (front_after (any_state ks front) c r)) → OnOk result (SameFront kept (front_after (any_state ks self) c r))
  arm_kept kept h = subst (λ (f : AnyFront). OnOk result (SameFront kept (front_after (any_state ks f) c r))) (sym is) h
