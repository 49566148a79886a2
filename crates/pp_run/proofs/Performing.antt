-- How a command ends.
use Rattle.std.specs.Prelude.{◌≡◌, ◌⊎◌, ℕ, List, Option, None, Some}
use Rattle.std.proofs.Common.{inl, inr, subst, sym}
use Rattle.pp_core.specs.declared.status.Status.{Status}
use Rattle.pp_core.specs.declared.status.Status.TheVariants as statuses
use Rattle.pp_cmd_focus.specs.Outputs.{IsFocusStatus}
use Rattle.pp_judge.specs.Certified.{IsDecided}
use Rattle.pp_run.specs.Bounds.{RisesAtLeast}
use Rattle.pp_run.specs.Outputs.{IsVerdictOrSize}
use Rattle.pp_run.specs.declared.words.Command.{Command}
use Rattle.pp_run.specs.declared.words.Command.TheVariants.{Certify, Drill, Expand, Focus, Judge, Opaque, Quick, Recheck, Swaps, Views}

-- a verdict or a fault is a status of `perform`
pub answered : (s : Status) → IsDecided s ⊎ (s ≡ statuses.InputFault) → IsVerdictOrSize s ⊎ (s ≡ statuses.InputFault)
answered s (inl decided) = inl (inl decided)
answered s (inr fault) = inr fault

-- Accepted, rejected or a fault is a status of `perform`.
pub checked : (s : Status) → (s ≡ statuses.Accepted) ⊎ (s ≡ statuses.Rejected) ⊎ (s ≡ statuses.InputFault) → IsVerdictOrSize s ⊎ (s ≡ statuses.InputFault)
checked s (inl accepted) = inl (inl (subst IsDecided (sym accepted) tt))
checked s (inr (inl rejected)) = inl (inl (subst IsDecided (sym rejected) tt))
checked s (inr (inr fault)) = inr fault

-- Accepted or a fault is a status of `perform`.
pub focused : (s : Status) → IsFocusStatus s → IsVerdictOrSize s ⊎ (s ≡ statuses.InputFault)
focused s (inl accepted) = inl (inl (subst IsDecided (sym accepted) tt))
focused s (inr fault) = inr fault

-- A verdict, a fault, or an output above a limit is a status of `perform`.
pub sized : (s : Status) → IsDecided s ⊎ (s ≡ statuses.InputFault) ⊎ (s ≡ statuses.TooLarge) → IsVerdictOrSize s ⊎ (s ≡ statuses.InputFault)
sized s (inl decided) = inl (inl decided)
sized s (inr (inl fault)) = inr fault
sized s (inr (inr large)) = inl (inr large)

-- a verdict, or an output above a limit, is no fault
pub whole_sound : (s : Status) → IsVerdictOrSize s → s ≡ statuses.InputFault → ⊥
whole_sound s whole fault = at_fault (subst IsVerdictOrSize fault whole)
  where
    at_fault : IsVerdictOrSize statuses.InputFault → ⊥
    at_fault (inl decided) = decided
    at_fault (inr large) = let no : statuses.InputFault ≡ statuses.TooLarge = large in cc

-- a verdict or a fault does not say that the output is above a limit
pub decided_fits : (s : Status) → IsDecided s ⊎ (s ≡ statuses.InputFault) → s ≡ statuses.TooLarge → ⊥
decided_fits s (inl decided) large = subst IsDecided large decided
decided_fits s (inr fault) large = let no : statuses.InputFault ≡ statuses.TooLarge = cc in cc

-- Accepted, rejected or a fault does not say that the output is above a limit.
pub checked_fits : (s : Status) → (s ≡ statuses.Accepted) ⊎ (s ≡ statuses.Rejected) ⊎ (s ≡ statuses.InputFault) → s ≡ statuses.TooLarge → ⊥
checked_fits s (inl accepted) large = let no : statuses.Accepted ≡ statuses.TooLarge = cc in cc
checked_fits s (inr (inl rejected)) large = let no : statuses.Rejected ≡ statuses.TooLarge = cc in cc
checked_fits s (inr (inr fault)) large = let no : statuses.InputFault ≡ statuses.TooLarge = cc in cc

-- Accepted or a fault does not say that the output is above a limit.
pub focused_fits : (s : Status) → IsFocusStatus s → s ≡ statuses.TooLarge → ⊥
focused_fits s (inl accepted) large = let no : statuses.Accepted ≡ statuses.TooLarge = cc in cc
focused_fits s (inr fault) large = let no : statuses.InputFault ≡ statuses.TooLarge = cc in cc

-- without a verdict the counter has no least rise
pub no_verdict_no_least : (k : Option Command) (left : Option (List ℕ)) (s : Status) (old new : ℕ) → (IsDecided s → ⊥) → RisesAtLeast k left s old new
no_verdict_no_least None left s old new none = tt
no_verdict_no_least (Some Certify) left s old new none = λ decided. absurd (none decided)
no_verdict_no_least (Some Expand) left s old new none = λ decided. absurd (none decided)
no_verdict_no_least (Some Judge) left s old new none = λ decided. absurd (none decided)
no_verdict_no_least (Some Quick) left s old new none = λ decided. absurd (none decided)
no_verdict_no_least (Some Swaps) left s old new none = λ decided. absurd (none decided)
no_verdict_no_least (Some Recheck) left s old new none = λ accepted. absurd (none (subst IsDecided (sym accepted) tt))
no_verdict_no_least (Some Views) left s old new none = λ decided. absurd (none decided)
no_verdict_no_least (Some Opaque) left s old new none = λ decided. absurd (none decided)
no_verdict_no_least (Some (Drill n)) left s old new none = λ accepted. absurd (none (subst IsDecided (sym accepted) tt))
no_verdict_no_least (Some (Focus name)) left s old new none = tt
